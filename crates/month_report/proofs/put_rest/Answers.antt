-- `put_rest`: the parts one after the other.
use borrow.Author.Rules.{rules}
use native.Mathlib.Omega.{arith}
use Rattle.month_report.specs.Report.{rest_text}
use Rattle.text_words.proofs.TextLaws.{writing}
use Rattle.month_report.proofs.put_rest.Goals as goal

pub returns-then-more : goal.returns-then-more
unfolding rest_text
returns-then-more c = search (rules, arith, writing)

pub returns-else-more : goal.returns-else-more
unfolding rest_text
returns-else-more c = search (rules, arith, writing)
