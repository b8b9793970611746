-- `refusals::put_line`: the parts one after the other are the line.
use borrow.Author.Rules.{rules}
use native.Mathlib.Omega.{arith}
use Rattle.text_words.proofs.TextLaws.{writing}
use Rattle.month_account.specs.Refusals.{line_text}
use Rattle.month_account.proofs.refusals.put_line.Goals as goal

pub returns : goal.returns
unfolding line_text
returns c = let p = rw c.name.ensures at c.bytes-2.ensures in search (rules, arith, writing)
