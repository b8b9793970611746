-- The minutes of the lines together: one more for each minute noted, and no line has more than all. By going down the list. Assumes nothing.
use mathlib.Core.Path.{◌≡◌, refl}
use Prim.Native.Nat.{ℕ, zero, suc, ◌+◌, ◌≤◌, ◌<◌}
use native.Mathlib.Omega.{arith}
use mathlib.Core.List.{List, [], ◌∷◌}
use lib.ListN.{length, get_or, replicate, length-set}
use Rattle.month_tally.specs.Lines.{most_lines, no_minutes, minute_on, minutes_in}

pub minute-more : (l : List ℕ) (line : ℕ) → line < length l → minutes_in (minute_on line l) ≡ minutes_in l + 1
unfolding minutes_in
minute-more [] line h = absurd (omega arith)
minute-more (m ∷ ms) zero h = omega arith
minute-more (m ∷ ms) (suc line) h =
    let e = minute-more ms line (omega arith) in
    omega arith

pub minute-most : (l : List ℕ) (line : ℕ) → get_or l line 0 ≤ minutes_in l
unfolding minutes_in
minute-most [] line = omega arith
minute-most (m ∷ ms) zero = omega arith
minute-most (m ∷ ms) (suc line) =
    let e = minute-most ms line in
    omega arith

pub minute-length : (l : List ℕ) (line : ℕ) → length (minute_on line l) ≡ length l
minute-length l line = length-set l line (get_or l line 0 + 1)

none_in : (n : ℕ) → minutes_in (replicate n 0) ≡ 0
unfolding minutes_in
none_in zero = refl
none_in (suc n) =
    let e = none_in n in
    omega arith

pub no-minutes : minutes_in no_minutes ≡ 0
no-minutes = none_in (most_lines + 1)
