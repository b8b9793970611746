-- The comparison of byte strings: a turn and the end of its loop, and that it is the equation. Assumes nothing.
use mathlib.Core.Path.{◌≡◌, refl, ap, sym}
use Prim.Native.Nat.{ℕ, zero, suc, ◌≤◌, ◌<◌}
use native.Mathlib.Omega.{arith}
use mathlib.Core.List.{List, [], ◌∷◌}
use mathlib.Core.Bool.{Bool, true, false, ◌&&◌, and-true, and-false, and_assoc, false≢true}
use lib.ListN.{length, get_or, take}
use lib.Seq.{take_all}
use lib.Dec.{eqb}
use borrow.Author.Tests.{eq-eqb, ne_eqb, eqb-true, eqb-false}
use Rattle.std.proofs.lemmas.Bool.{and_parts}
use Rattle.base_bytes.specs.Bytes.{same_bytes}

-- byte strings of different lengths differ
pub same_length : (xs ys : List ℕ) → (length xs ≡ length ys → ⊥) → same_bytes xs ys ≡ false
unfolding same_bytes
same_length [] [] n = absurd (n refl)
same_length [] (y ∷ ys) n = refl
same_length (x ∷ xs) [] n = refl
same_length (x ∷ xs) (y ∷ ys) n = rw (same_length xs ys (λ e. n (ap suc e))) (and-false (eqb x y))

-- the test and the equation say the same
pub same_true : (xs ys : List ℕ) → same_bytes xs ys ≡ true → xs ≡ ys
unfolding same_bytes
same_true [] [] e = refl
same_true [] (y ∷ ys) e = absurd (false≢true e)
same_true (x ∷ xs) [] e = absurd (false≢true e)
same_true (x ∷ xs) (y ∷ ys) e = let h = and_parts (eqb x y) (same_bytes xs ys) e in rw (eqb-true x y h.0, same_true xs ys h.1)

pub same_self : (xs : List ℕ) → same_bytes xs xs ≡ true
unfolding same_bytes
same_self [] = refl
same_self (x ∷ xs) = rw (eq-eqb x x refl, same_self xs)

eqb-case : (a b : ℕ) (t : Bool) → eqb a b ≡ t → eqb b a ≡ t
eqb-case a b true e = eq-eqb b a (sym (eqb-true a b e))
eqb-case a b false e = ne_eqb b a (λ q. eqb-false a b e (sym q))

pub eqb-sym : (a b : ℕ) → eqb b a ≡ eqb a b
eqb-sym a b = eqb-case a b (eqb a b) refl

pub same-sym : (xs ys : List ℕ) → same_bytes ys xs ≡ same_bytes xs ys
unfolding same_bytes
same-sym [] [] = refl
same-sym [] (y ∷ ys) = refl
same-sym (x ∷ xs) [] = refl
same-sym (x ∷ xs) (y ∷ ys) = rw (eqb-sym x y, same-sym xs ys)

-- the comparison from the end: one byte more of both
same_turn : (i : ℕ) (xs ys : List ℕ) → i < length xs → i < length ys → same_bytes (take (suc i) xs) (take (suc i) ys) ≡ (same_bytes (take i xs) (take i ys) && eqb (get_or xs i 0) (get_or ys i 0))
unfolding same_bytes
same_turn i [] ys h k = absurd (omega arith)
same_turn i (x ∷ xs) [] h k = absurd (omega arith)
same_turn zero (x ∷ xs) (y ∷ ys) h k = and-true (eqb x y)
same_turn (suc i) (x ∷ xs) (y ∷ ys) h k = rw (same_turn i xs ys (omega arith) (omega arith)) (sym (and_assoc (eqb x y) _ _))

-- before the first turn, a turn that looks at j, and the end, as the loop has them
module _ (xs ys : List ℕ) (n : length xs ≡ length ys) (i : ℕ) where
  pub same_first : i ≡ length xs → same_bytes (take i xs) (take i ys) ≡ same_bytes xs ys
  same_first e = rw (take_all i xs (omega arith), take_all i ys (omega arith))

  module _ (j : ℕ) (e : i ≡ suc j) (h : i ≤ length xs) where
    pub same-hit : get_or xs j 0 ≡ get_or ys j 0 → same_bytes (take j xs) (take j ys) ≡ same_bytes (take i xs) (take i ys)
    same-hit f = rw (e, same_turn j xs ys (omega arith) (omega arith), eq-eqb (get_or xs j 0) (get_or ys j 0) f) (sym (and-true _))

    pub same-miss : (get_or xs j 0 ≡ get_or ys j 0 → ⊥) → same_bytes (take i xs) (take i ys) ≡ false
    same-miss f = rw (e, same_turn j xs ys (omega arith) (omega arith), ne_eqb (get_or xs j 0) (get_or ys j 0) f) (and-false (same_bytes (take j xs) (take j ys)))

  pub same_end : i ≡ 0 → same_bytes (take i xs) (take i ys) ≡ true
  unfolding same_bytes
  same_end e = rw e
