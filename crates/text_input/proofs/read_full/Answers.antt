-- `read_full`: what was read stays within the buffer and is what the input lost.
use Rattle.std.proofs.Common.{rules}
use Rattle.text_input.proofs.FillLaws.{read-on}
use Rattle.text_input.proofs.read_full.Goals as goal

pub loop-filled-preserved : goal.loop-filled-preserved
loop-filled-preserved g c =
    let v = c.loop-filled.invariant in
    let k = c.in-Ok.ensures.bound.0 in
    let n = c.read.auto.buf in
    (search rules, (search rules, read-on _ _ _ _ _ _ c.read.new.buf _ v.1.0 k v.1.1 c.in-Ok.ensures.bytes.0))
