-- `card_places::all_distinct`: the places from i on are distinct and their hashes noted, so the hash of the next one down tells whether to compare.
use Rattle.card_places.proofs.Hashes.{Walked}
use Rattle.card_places.proofs.all_distinct.Given as goal

abbrev pub invariant-loop-i : goal.invariant-loop-i
invariant-loop-i l = Walked l.places l.i l.seen
