-- `cells::put_provisioning`: the parts one after the other.
use borrow.Author.Rules.{rules}
use native.Mathlib.Omega.{arith}
use Rattle.script_table.specs.Profiles.{provisioning_text}
use Rattle.text_words.proofs.TextLaws.{writing}
use Rattle.script_table.proofs.cells.put_provisioning.Goals as goal

pub returns-then-mark-gt1 : goal.returns-then-mark-gt1
unfolding provisioning_text
returns-then-mark-gt1 c = search (rules, arith, writing)

pub returns-else-mark-gt1 : goal.returns-else-mark-gt1
unfolding provisioning_text
returns-else-mark-gt1 c = search (rules, arith, writing)
