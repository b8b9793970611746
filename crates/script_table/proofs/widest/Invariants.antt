-- `script_table::widest`: the longest of the places so far.
use mathlib.Core.Path.{◌≡◌}
use Prim.Native.Nat.{◌≤◌}
use lib.ListN.{take}
use Rattle.script_table.specs.Profiles.{widest_of}
use Rattle.script_table.proofs.widest.Given as goal

abbrev pub invariant-loop-p : goal.invariant-loop-p
invariant-loop-p l = (l.most ≡ widest_of (take l.p-index l.places)) × (l.most ≤ 16)
