-- `put_head`: the parts one after the other.
use borrow.Author.Rules.{rules}
use native.Mathlib.Omega.{arith}
use Rattle.month_report.specs.Report.{report_head}
use Rattle.text_words.proofs.TextLaws.{writing}
use Rattle.month_report.proofs.put_head.Goals as goal

pub returns-then-explain : goal.returns-then-explain
unfolding report_head
returns-then-explain c = search (rules, arith, writing)

pub returns-else-explain : goal.returns-else-explain
unfolding report_head
returns-else-explain c = search (rules, arith, writing)
