-- What the prover takes past the end of an array of places; within the array it is the definitions' place. Assumes nothing.
use mathlib.Core.Path.{◌≡◌, refl}
use Prim.Native.Nat.{ℕ, zero, suc, ◌<◌}
use native.Mathlib.Omega.{arith}
use mathlib.Core.List.{List, [], ◌∷◌}
use lib.ListN.{length, get_or}
use Rattle.card_isdp.specs.Profile.{profile}
use Rattle.card_isdp.specs.declared.Isdp.{Isdp}
use Rattle.card_places.specs.Places.{at}

abbrev pub unread : Isdp
unread = profile (record { bytes = []; len = 0 }) 0 0 0 0 0

pub read : (l : List Isdp) (i : ℕ) → i < length l → get_or l i unread ≡ at l i
read [] i h = absurd (omega arith)
read (p ∷ ps) zero h = refl
read (p ∷ ps) (suc i) h = read ps i (omega arith)
