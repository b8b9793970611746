-- `explained::put_notice`: the kind tells whether there is one.
use borrow.Author.Rules.{rules}
use native.Mathlib.Omega.{arith}
use mathlib.Core.Path.{◌≡◌}
use lib.ListN.{length}
use Rattle.base_bytes.proofs.PutLaws.{written_as}
use Rattle.text_words.proofs.TextLaws.{writing}
use Rattle.script_answer.specs.Explained.{notice_text}
use Rattle.script_answer.proofs.Pieces.{sentence-told}
use Rattle.script_answer.proofs.Lengths.{sentence-length}
use Rattle.script_answer.proofs.explained.put_notice.Goals as goal

pub returns-in-Silent : goal.returns-in-Silent
unfolding notice_text
returns-in-Silent c = let n = c.args.notification in
    let w : length n.aid.bytes ≡ 16 = search rules in
    (rw c.in-Silent.is (search (rules, arith, writing)), sentence-length n (omega arith))

pub returns-in_default : goal.returns-in_default
unfolding notice_text
returns-in_default c = let n = c.args.notification in
    let w : length n.aid.bytes ≡ 16 = search rules in
    (written_as _ (sentence-told n.kind n c.in_default.not-Silent) c.put_issued.ensures, sentence-length n (omega arith))
