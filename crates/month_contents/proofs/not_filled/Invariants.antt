-- `not_filled` meets its contract. The loop keeps: the lengths so far and what is left are the file.
use mathlib.Core.Path.{◌≡◌}
use Prim.Native.Nat.{◌+◌}
use lib.ListN.{length}
use Rattle.month_contents.specs.Below.{sum_below}
use Rattle.month_contents.specs.Contents.{body_length, contents_end}
use Rattle.month_contents.proofs.not_filled.Given as goal

abbrev pub invariant-loop-i : goal.invariant-loop-i
invariant-loop-i l = contents_end l.s + sum_below l.i (body_length l.s) + l.left ≡ length l.s
