-- `explained::put_phase`: the parts one after the other.
use borrow.Author.Rules.{rules}
use native.Mathlib.Omega.{arith}
use Rattle.script_answer.specs.Explained.{phase_text}
use Rattle.text_words.proofs.TextLaws.{writing}
use Rattle.script_answer.proofs.explained.put_phase.Goals as goal

pub returns-in-Quiet : goal.returns-in-Quiet
unfolding phase_text
returns-in-Quiet c = rw c.in-Quiet.is (search (rules, arith, writing))

pub returns-in-Trial : goal.returns-in-Trial
unfolding phase_text
returns-in-Trial c = rw c.in-Trial.is (search (rules, arith, writing))

pub returns-in-Back : goal.returns-in-Back
unfolding phase_text
returns-in-Back c = rw c.in-Back.is (search (rules, arith, writing))

pub returns-in-Fallen : goal.returns-in-Fallen
unfolding phase_text
returns-in-Fallen c = rw c.in-Fallen.is (search (rules, arith, writing))
