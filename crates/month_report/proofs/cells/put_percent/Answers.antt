-- `cells::put_percent`: the parts one after the other.
use borrow.Author.Rules.{rules}
use native.Mathlib.Omega.{arith}
use Rattle.month_report.specs.Report.{percent_text}
use Rattle.text_words.proofs.TextLaws.{writing}
use Rattle.month_report.proofs.cells.put_percent.Goals as goal

pub returns : goal.returns
unfolding percent_text
returns c = let p = rw c.share_lead.ensures at c.put_spaces.ensures in search (rules, arith, writing)
