-- `card_isdp::zeros_from`: what was found of the bytes before i and the bytes left decide together.
use mathlib.Core.Path.{◌≡◌}
use mathlib.Core.Bool.{◌&&◌}
use lib.ListN.{drop}
use Rattle.card_isdp.specs.Place.{zeros}
use Rattle.card_isdp.proofs.zeros_from.Given as goal

abbrev pub invariant-loop-i : goal.invariant-loop-i
invariant-loop-i l = (l.all && zeros (drop l.i l.bytes)) ≡ zeros (drop l.n l.bytes)
