-- `put_totals`: the parts one after the other.
use borrow.Author.Rules.{rules}
use native.Mathlib.Omega.{arith}
use Rattle.month_report.specs.Report.{totals_text}
use Rattle.text_words.proofs.TextLaws.{writing}
use Rattle.month_report.proofs.put_totals.Goals as goal

pub returns : goal.returns
unfolding totals_text
returns c = search (rules, arith, writing)
