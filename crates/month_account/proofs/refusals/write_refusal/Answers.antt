-- `refusals::write_refusal`: the line alone, or the line, what it means and the last line.
use borrow.Author.Rules.{rules}
use native.Mathlib.Omega.{arith}
use Rattle.text_words.proofs.TextLaws.{writing}
use Rattle.month_account.specs.Refusals.{refusal_text}
use Rattle.month_account.proofs.Lengths.{refusal-length}
use Rattle.month_account.proofs.refusals.write_refusal.Goals as goal

pub returns-then-explain : goal.returns-then-explain
unfolding refusal_text
returns-then-explain c = let a = c.args in
    let p = rw c.meaning.ensures at c.bytes.ensures in
    (search (rules, arith, writing), refusal-length a.explain a.refusal)

pub returns-else-explain : goal.returns-else-explain
unfolding refusal_text
returns-else-explain c = let a = c.args in
    (search (rules, arith, writing), refusal-length a.explain a.refusal)
