-- `script_session::take_line`: each arm cites the promise of what it calls, and the line is read off its order.
use mathlib.Core.Path.{refl, ap, sym, ◌∙◌}
use native.Mathlib.Omega.{arith}
use Rattle.base_bytes.proofs.PutLaws.{wrote_none}
use Rattle.script_reply.proofs.Room.{nothing-cut}
use Rattle.script_record.specs.Records.{record_at}
use Rattle.script_session.specs.declared.Turn.{Turn}
use Rattle.script_session.proofs.Silent.{fresh-silent, first-replied, fault-replied, unused, record-unused, order-is, as-ordered}
use borrow.Author.Rules.{rules}
use Rattle.script_session.proofs.take_line.Goals as goal

pub fresh-requires : goal.fresh-requires
fresh-requires c = nothing-cut _ _ (order-is _ c.in-Ok-Fresh.is c.in-Ok-Fresh.field-0-is c.read_line.ensures)

pub call_reply-requires : goal.call_reply-requires
call_reply-requires c = (nothing-cut _ _ (order-is _ c.in-Ok-Call.is c.in-Ok-Call.field-0-is c.read_line.ensures), search rules)

pub returns-in-Ok-Call : goal.returns-in-Ok-Call
returns-in-Ok-Call c = let a = c.args in
    as-ordered a.turn.card a.turn.sound a.explain a.number a.s.now _ (order-is _ c.in-Ok-Call.is c.in-Ok-Call.field-0-is c.read_line.ensures) c.call_reply.ensures

pub returns-in-Ok-Nothing : goal.returns-in-Ok-Nothing
returns-in-Ok-Nothing c = let a = c.args in
    let e = c.passed_over.ensures in
    as-ordered a.turn.card a.turn.sound a.explain a.number a.s.now _ (order-is _ c.in-Ok-Nothing.is c.in-Ok-Nothing.field-0-is c.read_line.ensures)
    (record { same-card = ap (λ (t : Turn). t.card) e; same-sound = ap (λ (t : Turn). t.sound) e; same-goes = ap (λ (t : Turn). t.goes) e; wrote = rw e (wrote_none _ a.turn.filled); short = omega arith }, unused _ _ _ refl refl)

pub returns-in-Ok-Fresh : goal.returns-in-Ok-Fresh
returns-in-Ok-Fresh c = let a = c.args in
    as-ordered a.turn.card a.turn.sound a.explain a.number a.s.now _ (order-is _ c.in-Ok-Fresh.is c.in-Ok-Fresh.field-0-is c.read_line.ensures)
    (first-replied a.explain _ (fresh-silent _ _ _ _ _ _) c.fresh.ensures c.first_reply.ensures, unused _ _ _ refl (fresh-silent _ _ _ _ _ _))

pub returns-in-Ok-Record : goal.returns-in-Ok-Record
returns-in-Ok-Record c = let a = c.args in
    let record-read = record_at a.s.now c.in-Ok-Record.at in
    as-ordered a.turn.card a.turn.sound a.explain a.number a.s.now _ (order-is _ c.in-Ok-Record.is c.in-Ok-Record.field-0-is c.read_line.ensures)
    (c.record_reply.ensures, record-unused _ _ a.turn.card a.turn.sound a.explain a.number record-read)

pub returns-in-Err : goal.returns-in-Err
returns-in-Err c = let a = c.args in
    as-ordered a.turn.card a.turn.sound a.explain a.number a.s.now _ (sym c.in-Err.is ∙ c.read_line.ensures)
    (fault-replied a.turn.card a.turn.sound a.number _ c.stopped.ensures c.write_reason.ensures, unused _ _ _ refl refl)
