-- `month_count::count_month`: a file that was opened is counted by its verdict.
use mathlib.Core.Path.{ap, ◌∙◌}
use Rattle.std.specs.Prelude.{Err}
use Rattle.std.proofs.lemmas.Result.{err_from_is_err_and}
use Rattle.month_count.proofs.Opened.{month-refused, countable, month-accepted}
use Rattle.month_count.proofs.count_month.Goals as goal

pub returns-in_err-opened : goal.returns-in_err-opened
returns-in_err-opened c =
    let h = err_from_is_err_and c.from_residual.result c.from_residual.ensures.1 in
    month-refused c.args.s.now c.open.ensures c.in_err-opened.was (h.1 ∙ ap Err h.2)

pub count-requires : goal.count-requires
count-requires c = countable c.args.s.now c.open.ensures c.in_ok-opened.was c.part_of.ensures

pub returns : goal.returns
returns c = month-accepted c.args.s.now c.open.ensures c.in_ok-opened.was c.part_of.ensures c.count.ensures
