-- `cells::put_share`: the parts one after the other.
use borrow.Author.Rules.{rules}
use native.Mathlib.Omega.{arith}
use Rattle.month_report.specs.Report.{share_text}
use Rattle.text_words.proofs.TextLaws.{writing}
use Rattle.month_report.proofs.cells.put_share.Goals as goal

pub returns-then-ticks-eq0 : goal.returns-then-ticks-eq0
unfolding share_text
returns-then-ticks-eq0 c = search (rules, arith, writing)

pub returns-else-ticks-eq0 : goal.returns-else-ticks-eq0
unfolding share_text
returns-else-ticks-eq0 c = search (rules, arith, writing)
