-- `explained::write_explained`: the parts one after the other.
use borrow.Author.Rules.{rules}
use native.Mathlib.Omega.{arith}
use Rattle.script_answer.specs.Explained.{explained_text}
use Rattle.script_answer.proofs.Lengths.{explained-length}
use Rattle.text_words.proofs.TextLaws.{writing}
use Rattle.script_answer.proofs.explained.write_explained.Goals as goal

pub returns : goal.returns
unfolding explained_text
returns c = let p = c.put_notice.ensures.0 in
    let q = c.put_table.ensures.0 in
    (search (rules, arith, writing) depth 12, explained-length c.args.answer.now _ c.put_notice.ensures.1 c.put_table.ensures.1)
