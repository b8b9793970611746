-- `some_body_wrong` meets its contract: the range gives the numbers of the entries.
use Rattle.std.proofs.Common.{rules, tests}
use Rattle.month_contents.specs.Contents.{body_wrong}
use Rattle.month_contents.proofs.Below.{some-any}
use Rattle.month_contents.proofs.some_body_wrong.Goals as goal

pub returns : goal.returns
returns c = some-any _ (body_wrong c.args.s.now) _ _ _ c.any.ensures.ran (search rules) (λ x b q k. search (rules, tests))
