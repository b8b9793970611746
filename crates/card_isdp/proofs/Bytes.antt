-- Laws on byte strings as the loops go over them: a turn, and the end, of the test for zeros.
-- Each turn takes `drop i` apart once. Assumes nothing.
use mathlib.Core.Path.{◌≡◌, refl, ap, sym}
use Prim.Native.Nat.{ℕ, zero, suc, ◌+◌, ◌≤◌, ◌<◌}
use native.Mathlib.Numerals.{add-one}
use native.Mathlib.Omega.{arith}
use mathlib.Core.List.{List, [], ◌∷◌, append-nil}
use mathlib.Core.Bool.{Bool, true, false, ◌&&◌}
use lib.ListN.{length, get_or, take, drop, drop_of_length-le}
use lib.Seq.{drop-cons, take_all}
use lib.Dec.{leb, eqb}
use borrow.Author.Tests.{le-leb, lt-leb, leb-true, leb-false, eq-eqb, ne_eqb, eqb-true, eqb-false}
use Rattle.card_isdp.specs.Aids.{padded}
use Rattle.card_isdp.specs.Place.{zeros}

pub zeros-step : (l : List ℕ) (i : ℕ) → i < length l → zeros (drop i l) ≡ (eqb (get_or l i 0) 0 && zeros (drop (i + 1) l))
unfolding zeros
zeros-step l i h = rw (drop-cons l i 0, add-one)

pub zeros-end : (l : List ℕ) (i : ℕ) → length l ≤ i → zeros (drop i l) ≡ true
unfolding zeros
zeros-end l i h = rw (drop_of_length-le l h)

-- two orders that hold together have one test
leb-at : (a b x y : ℕ) (t : Bool) → leb a b ≡ t → (a ≤ b → x ≤ y) → (b < a → y < x) → t ≡ leb x y
leb-at a b x y true e f g = sym (le-leb x y (f (leb-true a b e)))
leb-at a b x y false e f g = sym (lt-leb x y (g (leb-false a b e)))

pub leb-same : (a b x y : ℕ) → (a ≤ b → x ≤ y) → (b < a → y < x) → leb a b ≡ leb x y
leb-same a b x y f g = leb-at a b x y (leb a b) refl f g

-- and so two equations
eqb-at : (a b x y : ℕ) (t : Bool) → eqb a b ≡ t → (a ≡ b → x ≡ y) → (x ≡ y → a ≡ b) → t ≡ eqb x y
eqb-at a b x y true e f g = sym (eq-eqb x y (f (eqb-true a b e)))
eqb-at a b x y false e f g = sym (ne_eqb x y (λ h. eqb-false a b e (g h)))

pub eqb_same : (a b x y : ℕ) → (a ≡ b → x ≡ y) → (x ≡ y → a ≡ b) → eqb a b ≡ eqb x y
eqb_same a b x y f g = eqb-at a b x y (eqb a b) refl f g

-- sixteen bytes need no padding
pub pad-whole : (s : List ℕ) → length s ≡ 16 → padded s ≡ s
unfolding padded
pad-whole s e =
    let h : length s ≤ 16 = omega arith in
    rw (take_all 16 s h, e) (append-nil s)

-- of a byte string that was cut, as many bytes as there are
pub taken : (n : ℕ) (s : List ℕ) → take (length (take n s)) s ≡ take n s
taken zero s = refl
taken (suc n) [] = refl
taken (suc n) (x ∷ xs) = ap (λ (l : List ℕ). x ∷ l) (taken n xs)
