-- `cells::put_total`: the parts one after the other.
use borrow.Author.Rules.{rules}
use native.Mathlib.Omega.{arith}
use Rattle.month_report.specs.Report.{total_text}
use Rattle.text_words.proofs.TextLaws.{writing}
use Rattle.month_report.proofs.cells.put_total.Goals as goal

pub returns-then-explain : goal.returns-then-explain
unfolding total_text
returns-then-explain c = search (rules, arith, writing)

pub returns-else-explain : goal.returns-else-explain
unfolding total_text
returns-else-explain c = search (rules, arith, writing)
