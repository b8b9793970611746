-- `not_filled` meets its contract. The loop keeps: the lengths so far and what is left are the file.
use native.Mathlib.Omega.{arith}
use Rattle.month_contents.specs.Contents.{body_length}
use Rattle.month_contents.proofs.Below.{sum-none, sum-next}
use Rattle.month_contents.proofs.Ends.{filled-over}
use Rattle.month_contents.proofs.not_filled.Goals as goal

pub loop-i-init : goal.loop-i-init
loop-i-init c = let z = sum-none (body_length c.args.s.now) in omega arith

pub returns-then-left-length : goal.returns-then-left-length
returns-then-left-length c = let o = c.loop-i in
    filled-over c.args.s.now o.i o.left o.invariant (omega arith) (omega arith)

pub loop-i-preserved : goal.loop-i-preserved
loop-i-preserved c = let n = sum-next c.loop-i.i (body_length c.args.s.now) in omega (arith, c.loop-i.invariant)
