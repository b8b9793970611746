-- `reasons::put_fault`: the parts one after the other are the line.
use borrow.Author.Rules.{rules}
use native.Mathlib.Omega.{arith}
use Rattle.script_reply.specs.Reasons.{reason_line}
use Rattle.script_reply.proofs.FaultLengths.{fault-length}
use Rattle.text_words.proofs.TextLaws.{writing}
use Rattle.script_session.proofs.reasons.put_fault.Goals as goal

pub returns : goal.returns
unfolding reason_line
returns c = let p = rw c.words.ensures at c.bytes-3.ensures in
    (search (rules, arith, writing) depth 12, fault-length c.args.number c.args.reason)
