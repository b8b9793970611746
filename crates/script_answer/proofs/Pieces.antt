-- What the code writes is the text: each law says it of one choice, by the test that the code made. Assumes nothing.
use mathlib.Core.Path.{◌≡◌, refl}
use Prim.Native.Nat.{ℕ}
use native.Mathlib.Omega.{arith}
use mathlib.Core.List.{List, [], ◌∷◌, ◌++◌}
use lib.ListN.{length}
use Rattle.text_words.specs.Hex.{hex_text}
use Rattle.card_record.specs.declared.Kind.{Kind}
use Rattle.card_record.specs.declared.Kind.TheVariants.{Silent, Changed, RolledBack, FallenBack}
use Rattle.card_record.specs.declared.Notification.{Notification}
use Rattle.text_words.specs.Letters.{text}
use Rattle.script_answer.specs.Lines.{issued_word, notice_by}
use Rattle.script_answer.specs.Explained.{response_text, issued_text, notice_in}

-- every kind but the silent one is told
pub word-told : (k : Kind) (n : Notification) → (k ≡ Silent → ⊥) → issued_word n ≡ notice_by k n
word-told Silent n h = absurd (h refl)
word-told Changed n h = refl
word-told RolledBack n h = refl
word-told FallenBack n h = refl

pub sentence-told : (k : Kind) (n : Notification) → (k ≡ Silent → ⊥) → issued_text n ≡ notice_in k n
sentence-told Silent n h = absurd (h refl)
sentence-told Changed n h = refl
sentence-told RolledBack n h = refl
sentence-told FallenBack n h = refl

-- the response has a line of its own where there is one
pub response-none : (s : List ℕ) → length s ≡ 0 → [] ≡ response_text s
unfolding response_text
response-none [] h = refl
response-none (b ∷ bs) h = absurd (omega arith)

pub response-some : (s : List ℕ) → (length s ≡ 0 → ⊥) → text "response " ++ hex_text s ++ text "\n" ≡ response_text s
unfolding response_text
response-some [] h = absurd (h refl)
response-some (b ∷ bs) h = refl
