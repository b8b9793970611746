-- `card_places::free_place`: no place before i is free; the search is i and what is found in the places left.
use mathlib.Core.Path.{◌≡◌}
use Prim.Native.Nat.{◌+◌, ◌-◌, ◌≤◌}
use lib.ListN.{drop}
use Rattle.card_isdp.specs.Sizes.{most_places}
use Rattle.card_places.specs.Places.{seek, is_free}
use Rattle.card_places.proofs.free_place.Given as goal

abbrev pub invariant-loop-i : goal.invariant-loop-i
invariant-loop-i l = (l.i ≤ most_places) × (l.i + seek is_free (drop l.i l.places) ≡ seek is_free l.places)

abbrev pub decreases-loop-i : goal.decreases-loop-i
decreases-loop-i l = most_places - l.i
