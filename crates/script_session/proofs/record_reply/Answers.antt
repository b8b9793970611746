-- `script_session::record_reply`: a record that cannot be read is a fault, any other is handed in.
use Rattle.script_session.proofs.Silent.{record-silent, first-replied, fault-replied}
use Rattle.script_session.proofs.record_reply.Goals as goal

pub returns-in-Err : goal.returns-in-Err
returns-in-Err c = let a = c.args in
    rw (← c.record_at.ensures) (rw c.in-Err.is (fault-replied a.turn.card a.turn.sound a.number _ c.stopped.ensures c.write_reason.ensures))

pub returns-in-Ok : goal.returns-in-Ok
returns-in-Ok c = rw (← c.record_at.ensures) (rw c.in-Ok.is (first-replied c.args.explain _ (record-silent _) c.hand_in.ensures c.first_reply.ensures))
