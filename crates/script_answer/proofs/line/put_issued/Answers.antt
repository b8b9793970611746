-- `line::put_issued`: the parts one after the other are KIND:NUMBER:AID.
use borrow.Author.Rules.{rules}
use native.Mathlib.Omega.{arith}
use Rattle.script_answer.specs.Lines.{issued_word}
use Rattle.text_words.proofs.TextLaws.{writing}
use Rattle.script_answer.proofs.line.put_issued.Goals as goal

pub returns : goal.returns
unfolding issued_word
returns c = rw (← c.code.ensures) (search (rules, arith, writing) depth 12)
