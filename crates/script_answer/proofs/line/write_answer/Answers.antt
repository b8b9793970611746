-- `line::write_answer`: the words one after the other, a space between them.
use borrow.Author.Rules.{rules}
use native.Mathlib.Omega.{arith}
use Rattle.script_answer.specs.Lines.{answer_line}
use Rattle.script_answer.proofs.Lengths.{line-length}
use Rattle.text_words.proofs.TextLaws.{writing}
use Rattle.script_answer.proofs.line.write_answer.Goals as goal

pub returns : goal.returns
unfolding answer_line
returns c = let p = c.put_notice.ensures.0 in
    (rw (← c.number.ensures) (search (rules, arith, writing) depth 12), line-length c.args.answer.now _ c.put_notice.ensures.1)
