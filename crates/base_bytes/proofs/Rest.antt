-- What is left of a list at an index, for the invariants of loops that go over it. It is shut, so that a proof finds the list and
-- the index in an equation; the laws say what it begins with.
use mathlib.Core.Path.{◌≡◌, refl, ap, sym, ◌∙◌}
use Prim.Native.Nat.{ℕ, suc, ◌+◌, ◌≤◌, ◌<◌}
use native.Mathlib.Numerals.{add-one}
use native.Mathlib.Omega.{arith}
use mathlib.Core.List.{List, [], ◌∷◌}
use lib.ListN.{length, get_or, drop, drop_of_length-le}
use lib.Seq.{drop-cons}

unfoldable pub rest : List ℕ → ℕ → List ℕ
rest s i = drop i s

pub rest_all : (s : List ℕ) → rest s 0 ≡ s
unfolding rest
rest_all s = refl

module _ (s : List ℕ) (i : ℕ) where
  pub rest_end : length s ≤ i → rest s i ≡ []
  unfolding rest
  rest_end h = drop_of_length-le s h

  pub rest-one : i < length s → rest s i ≡ get_or s i 0 ∷ rest s (i + 1)
  unfolding rest
  rest-one h = rw (add-one, drop-cons s i 0)

  pub rest-two : i + 1 < length s → rest s i ≡ get_or s i 0 ∷ get_or s (i + 1) 0 ∷ rest s (i + 2)
  unfolding rest
  rest-two h =
      let e : suc (i + 1) ≡ i + 2 = omega arith in
      drop-cons s i 0 (omega arith)
      ∙ ap (λ (k : ℕ). get_or s i 0 ∷ drop k s) (sym (add-one i))
      ∙ ap (λ (l : List ℕ). get_or s i 0 ∷ l) (drop-cons s (i + 1) 0 h)
      ∙ ap (λ (k : ℕ). get_or s i 0 ∷ get_or s (i + 1) 0 ∷ drop k s) e
