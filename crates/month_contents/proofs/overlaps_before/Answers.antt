-- `overlaps_before` meets its contract: the range gives the numbers below i.
use Rattle.std.proofs.Common.{rules, tests}
use Rattle.month_contents.specs.Contents.{overlap}
use Rattle.month_contents.proofs.Below.{some-any}
use Rattle.month_contents.proofs.overlaps_before.Goals as goal

pub returns : goal.returns
returns c = some-any _ (overlap c.args.s.now c.args.i) _ _ _ c.any.ensures.ran (search rules) (λ x b q k. search (rules, tests))
