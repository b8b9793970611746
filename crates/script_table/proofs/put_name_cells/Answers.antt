-- `put_name_cells`: the parts one after the other.
use borrow.Author.Rules.{rules}
use native.Mathlib.Omega.{arith}
use Rattle.script_table.specs.Profiles.{name_cells}
use Rattle.text_words.proofs.TextLaws.{writing}
use Rattle.script_table.proofs.put_name_cells.Goals as goal

pub returns : goal.returns
unfolding name_cells
returns c = let p = rw (c.saturating_sub.ensures, c.aid_size.ensures.0) at c.put_spaces.ensures in search (rules, arith, writing)
