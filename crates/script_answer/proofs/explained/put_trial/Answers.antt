-- `explained::put_trial`: the parts one after the other.
use borrow.Author.Rules.{rules}
use native.Mathlib.Omega.{arith}
use Rattle.script_answer.specs.Explained.{trial_text}
use Rattle.text_words.proofs.TextLaws.{writing}
use Rattle.script_answer.proofs.explained.put_trial.Goals as goal

pub returns : goal.returns
unfolding trial_text
returns c = search (rules, arith, writing)
