-- `cells::put_state`: a state of no name in hex.
use borrow.Author.Rules.{rules}
use native.Mathlib.Omega.{arith}
use Rattle.script_table.specs.Profiles.{state_text}
use Rattle.text_words.proofs.TextLaws.{writing}
use Rattle.script_table.proofs.cells.put_state.Goals as goal

pub returns-in_default : goal.returns-in_default
unfolding state_text
returns-in_default c = search (rules, arith, writing)
