-- `put_place`: the parts one after the other.
use borrow.Author.Rules.{rules}
use native.Mathlib.Omega.{arith}
use Rattle.script_table.specs.Profiles.{place_text, row_text}
use Rattle.text_words.proofs.TextLaws.{writing}
use Rattle.script_table.proofs.put_place.Goals as goal

pub returns-then-p-ne0 : goal.returns-then-p-ne0
unfolding place_text row_text
returns-then-p-ne0 c = search (rules, arith, writing)

pub returns-else-p-ne0 : goal.returns-else-p-ne0
unfolding place_text row_text
returns-else-p-ne0 c = search (rules, arith, writing)
