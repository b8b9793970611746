-- `cells::put_figure`: the parts one after the other.
use borrow.Author.Rules.{rules}
use native.Mathlib.Omega.{arith}
use Rattle.month_report.specs.Report.{figure_text}
use Rattle.text_words.proofs.TextLaws.{writing}
use Rattle.month_report.proofs.cells.put_figure.Goals as goal

pub returns : goal.returns
unfolding figure_text
returns c = let p = rw c.saturating_sub.ensures at c.put_spaces.ensures in search (rules, arith, writing)
