-- Words of a line, parted by spaces (32), and fields of a word, parted by one byte. `words_of` is what a line says; `word_at` and
-- `field_at` tell the next word or field by its place.
use Rattle.std.specs.Prelude.{ℕ, suc, ◌+◌, ◌-◌, List, [], ◌∷◌, ◌++◌, length, take, drop, Option, Some, None}
use Rattle.base_choice.specs.Choice.{pick, at_most, is_below, is_same}
use Rattle.text_words.specs.declared.words.Span.{Span}

-- how many elements stand before the first b
unfoldable pub before : ℕ → List ℕ → ℕ
before b [] = 0
before b (c ∷ cs) = pick (is_same c b) 0 (suc (before b cs))

-- how many b stand at the front
unfoldable pub leading : ℕ → List ℕ → ℕ
leading b [] = 0
leading b (c ∷ cs) = pick (is_same c b) (suc (leading b cs)) 0

-- the elements from a on, before e
abbrev pub part : List ℕ → ℕ → ℕ → List ℕ
part s a e = take (e - a) (drop a s)

-- a word that is over, before the words after it; no bytes are no word
abbrev pub word_closed : List ℕ → List (List ℕ) → List (List ℕ)
word_closed [] ws = ws
word_closed (c ∷ cs) ws = (c ∷ cs) ∷ ws

-- the words of a text, where `word` was read of the one that it begins in (decision B22)
unfoldable pub words_on : List ℕ → List ℕ → List (List ℕ)
words_on word [] = word_closed word []
words_on word (c ∷ cs) = pick (is_same c 32) (word_closed word (words_on [] cs)) (words_on (word ++ (c ∷ [])) cs)

unfoldable pub words_of : List ℕ → List (List ℕ)
words_of s = words_on [] s

-- the place of the elements from a on, before e
abbrev pub span : ℕ → ℕ → Option Span
span a e = Some (record { from = a; to = e })

-- the word that starts at a
unfoldable pub word_from : List ℕ → ℕ → Option Span
word_from s a = pick (at_most (length s) a) None (span a (a + before 32 (drop a s)))

-- the first word from a place on
unfoldable pub word_at : List ℕ → ℕ → Option Span
word_at s at = word_from s (at + leading 32 (drop at s))

-- the field that starts at a place; the place past the end starts none
unfoldable pub field_at : ℕ → List ℕ → ℕ → Option Span
field_at by s at = pick (is_below (length s) at) None (span at (at + before by (drop at s)))

-- what a word's place is good for
abbrev pub on_word {ℓ} : {X : Type ℓ} → Option Span → X → (ℕ → ℕ → X) → X
on_word None x f = x
on_word (Some w) x f = f w.from w.to
