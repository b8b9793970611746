-- Switching all places off and one on is `enable_at`, and the loop that switches off does it place by place. Assumes nothing.
use mathlib.Core.Path.{◌≡◌, refl, ap}
use Prim.Native.Nat.{ℕ, zero, suc, ◌≤◌}
use native.Mathlib.Omega.{arith}
use mathlib.Core.List.{List, [], ◌∷◌}
use lib.ListN.{length, set}
use Rattle.card_isdp.specs.LifeCycle.{enabled, with_life, off}
use Rattle.card_isdp.specs.declared.Isdp.{Isdp}
use Rattle.card_places.specs.Places.{at, all_off, enable_at}

pub on_one : (l : List Isdp) (i : ℕ) → set (all_off l) i (with_life (at (all_off l) i) enabled) ≡ enable_at l i
unfolding all_off enable_at
on_one [] i = refl
on_one (p ∷ ps) zero = refl
on_one (p ∷ ps) (suc i) = rw (on_one ps i)

-- the first j places are switched off: what the loop of `all_off` has done
unfoldable pub off_to : ℕ → List Isdp → List Isdp
off_to zero l = l
off_to (suc j) [] = []
off_to (suc j) (p ∷ ps) = off p ∷ off_to j ps

pub off-step : (j : ℕ) (l : List Isdp) → set (off_to j l) j (off (at (off_to j l) j)) ≡ off_to (suc j) l
unfolding off_to
off-step zero [] = refl
off-step zero (p ∷ ps) = refl
off-step (suc j) [] = refl
off-step (suc j) (p ∷ ps) = rw (off-step j ps)

pub off-end : (j : ℕ) (l : List Isdp) → length l ≤ j → off_to j l ≡ all_off l
unfolding off_to all_off
off-end zero [] h = refl
off-end zero (p ∷ ps) h = absurd (omega arith)
off-end (suc j) [] h = refl
off-end (suc j) (p ∷ ps) h = rw (off-end j ps (omega arith))

pub off-length : (j : ℕ) (l : List Isdp) → length (off_to j l) ≡ length l
unfolding off_to
off-length zero l = refl
off-length (suc j) [] = refl
off-length (suc j) (p ∷ ps) = ap suc (off-length j ps)
