-- `cells::put_plain`: the parts one after the other.
use borrow.Author.Rules.{rules}
use native.Mathlib.Omega.{arith}
use Rattle.month_report.specs.Report.{plain_text}
use Rattle.text_words.proofs.TextLaws.{writing}
use Rattle.month_report.proofs.cells.put_plain.Goals as goal

pub returns : goal.returns
unfolding plain_text
returns c = search (rules, arith, writing)
