-- A number that was read is at most what it may be. By cases on the word and on what its digits spell.
use Prim.Native.Nat.{ℕ, ◌≤◌}
use mathlib.Core.Path.{◌≡◌, refl, ap}
use mathlib.Core.List.{List}
use native.Mathlib.Omega.{arith}
use Rattle.text_words.specs.Words.{part, word_at, on_word}
use Rattle.text_words.specs.Numbers.{decimal_of}
use Rattle.text_words.specs.declared.words.Span.{Span}
use Rattle.std.specs.Prelude.{Option, Some, None, Result, Ok, Err}
use Rattle.text_words.proofs.NumberLaws.{decimal-within}
use Rattle.script_words.specs.Arguments.{on_some, on_next, value_at}
use Rattle.script_words.specs.declared.Reason.TheVariants as reason
use Rattle.script_words.specs.declared.Read.{Read}
use Rattle.script_words.specs.declared.Reason.{Reason}

-- a number that was read, and the place after it
abbrev pub value : ℕ → ℕ → Result (Read ℕ) Reason
value n next = Ok (record { value = n; next = next })

abbrev of : Result (Read ℕ) Reason → ℕ
of r = on_next r (λ why. 0) (λ n k. n)

word-within : (most e n k : ℕ) (d : Option ℕ) → ((m : ℕ) → Some m ≡ d → m ≤ most)
    → value n k ≡ on_some d (Err reason.BadNumber) (λ m. value m e)
    → n ≤ most
word-within most e n k None f q = let o : ◌≡◌ {A = ℕ} 0 1 = cc in absurd (omega arith)
word-within most e n k (Some m) f q = let i : n ≡ m = ap of q in let h = f m refl in omega arith

pub value_on : (most n k : ℕ) (read : List ℕ → Option ℕ) → ((w : List ℕ) (m : ℕ) → Some m ≡ read w → m ≤ most)
    → (s : List ℕ) (v : Option Span)
    → value n k ≡ on_word v (Err reason.WordsMissing) (λ a e. on_some (read (part s a e)) (Err reason.BadNumber) λ m. value m e)
    → n ≤ most
value_on most n k read f s None q = let o : ◌≡◌ {A = ℕ} 0 1 = cc in absurd (omega arith)
value_on most n k read f s (Some w) q = word-within most w.to n k (read (part s w.from w.to)) (f (part s w.from w.to)) q

pub value-within : (most : ℕ) (s : List ℕ) (at n k : ℕ) → value n k ≡ value_at most s at → n ≤ most
unfolding value_at
value-within most s at n k q = value_on most n k (decimal_of most) (λ w m. decimal-within most m w) s (word_at s at) q
