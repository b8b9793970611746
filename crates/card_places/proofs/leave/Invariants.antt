-- `card_places::leave`: free and the quotas left are held against what is left of the capacity.
use mathlib.Core.Path.{◌≡◌}
use Prim.Native.Nat.{◌+◌}
use lib.ListN.{drop}
use lib.Dec.{eqb}
use Rattle.card_places.specs.Places.{quotas}
use Rattle.card_places.proofs.leave.Given as goal

abbrev pub invariant-loop-p : goal.invariant-loop-p
invariant-loop-p l = eqb (l.free + quotas (drop l.p-index l.places)) l.left ≡ eqb (l.free + quotas l.places) l.capacity
