-- The words after the first: "hex in either case, `-` for an empty byte string", "numbers decimal up to 4,294,967,295, POLICY and
-- VERDICT 0-255". A byte string stays in the line and is told by the part that spells it.
use Rattle.std.specs.Prelude.{ℕ, List, Option, Some, None, Result, Ok, Err}
use Rattle.base_choice.specs.Choice.{pick}
use Rattle.text_words.specs.Words.{part, word_at, on_word}
use Rattle.text_words.specs.Numbers.{decimal_of}
use Rattle.text_words.specs.Hex.{is_hex}
use Rattle.base_bytes.specs.Bytes.{between}
use Rattle.base_bytes.specs.declared.Part.{Part}
use Rattle.script_words.specs.declared.Reason.{Reason}
use Rattle.script_words.specs.declared.Reason.TheVariants.{WordsMissing, BadHex, BadNumber}
use Rattle.script_words.specs.declared.Read.{Read}

-- the most that a number of 32, 16 and 8 bits can be (decision B25)
abbrev pub most32 : ℕ
most32 = 4294967295

abbrev pub most16 : ℕ
most16 = 65535

abbrev pub most8 : ℕ
most8 = 255

-- what is made of a value that was read, and of none
abbrev pub on_some {ℓ} : {A : Type 0} {X : Type ℓ} → Option A → X → (A → X) → X
on_some None x f = x
on_some (Some a) x f = f a

-- the same, where a reason says what is wrong
abbrev pub on_ok {ℓ} : {A : Type 0} {X : Type ℓ} → Result A Reason → (Reason → X) → (A → X) → X
on_ok (Err why) g f = g why
on_ok (Ok a) g f = f a

-- the same of a value and the place after it
abbrev pub on_next {ℓ} : {A : Type 0} {X : Type ℓ} → Result (Read A) Reason → (Reason → X) → (A → ℕ → X) → X
on_next (Err why) g f = g why
on_next (Ok r) g f = f r.value r.next

-- the next word is a byte string, and this is the place after it
unfoldable pub bytes_at : List ℕ → ℕ → Result (Read Part) Reason
bytes_at s at =
    on_word (word_at s at) (Err WordsMissing) λ a e.
    pick (is_hex (part s a e)) (Ok (record { value = between a e; next = e })) (Err BadHex)

-- the next word is a number, and this is the place after it
unfoldable pub value_at : ℕ → List ℕ → ℕ → Result (Read ℕ) Reason
value_at most s at =
    on_word (word_at s at) (Err WordsMissing) λ a e.
    on_some (decimal_of most (part s a e)) (Err BadNumber) λ n. Ok (record { value = n; next = e })
