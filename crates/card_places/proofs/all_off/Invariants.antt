-- `card_places::all_off`: the places that the loop has passed are switched off (`off_to`).
use mathlib.Core.Path.{◌≡◌}
use Rattle.card_places.proofs.Switching.{off_to}
use Rattle.card_places.proofs.all_off.Given as goal

abbrev pub invariant-loop-p : goal.invariant-loop-p
invariant-loop-p l = l.p-items ≡ off_to l.p-index l.fn.places
