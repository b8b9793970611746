-- `put_head`: the parts one after the other.
use borrow.Author.Rules.{rules}
use native.Mathlib.Omega.{arith}
use Rattle.script_table.specs.Profiles.{table_head}
use Rattle.text_words.proofs.TextLaws.{writing}
use Rattle.script_table.proofs.put_head.Goals as goal

pub returns-then-widest-eq0 : goal.returns-then-widest-eq0
unfolding table_head
returns-then-widest-eq0 c = search (rules, arith, writing)

pub returns-else-widest-eq0 : goal.returns-else-widest-eq0
unfolding table_head
returns-else-widest-eq0 c = let p = rw c.saturating_sub.ensures at c.put_spaces.ensures in search (rules, arith, writing)
