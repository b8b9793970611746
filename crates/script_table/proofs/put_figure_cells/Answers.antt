-- `put_figure_cells`: the parts one after the other.
use borrow.Author.Rules.{rules}
use native.Mathlib.Omega.{arith}
use Rattle.script_table.specs.Profiles.{figure_cells}
use Rattle.text_words.proofs.TextLaws.{writing}
use Rattle.script_table.proofs.put_figure_cells.Goals as goal

pub returns : goal.returns
unfolding figure_cells
returns c = search (rules, arith, writing)
