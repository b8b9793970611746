-- `explained::put_open`: the parts one after the other.
use borrow.Author.Rules.{rules}
use native.Mathlib.Omega.{arith}
use Rattle.script_answer.specs.Explained.{open_text}
use Rattle.text_words.proofs.TextLaws.{writing}
use Rattle.script_answer.proofs.explained.put_open.Goals as goal

pub returns : goal.returns
unfolding open_text
returns c = search (rules, arith, writing)
