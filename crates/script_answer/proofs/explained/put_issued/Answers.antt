-- `explained::put_issued`: the parts one after the other are the sentence.
use borrow.Author.Rules.{rules}
use native.Mathlib.Omega.{arith}
use Rattle.script_answer.specs.Explained.{issued_text}
use Rattle.text_words.proofs.TextLaws.{writing}
use Rattle.script_answer.proofs.explained.put_issued.Goals as goal

pub returns : goal.returns
unfolding issued_text
returns c = let p = rw c.kind_word.ensures at c.bytes-3.ensures in search (rules, arith, writing) depth 12
