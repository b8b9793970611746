-- `next_event` meets its contract: past the end and within an event there is none.
use mathlib.Core.Path.{sym, ◌∙◌}
use native.Mathlib.Omega.{arith}
use Rattle.month_events.proofs.Turns.{next-is, next-ends}
use Rattle.month_events.proofs.next_event.Goals as goal

pub returns-then-b-at : goal.returns-then-b-at
returns-then-b-at c = sym (next-ends _ _ (omega arith))

pub returns-then-b-stop : goal.returns-then-b-stop
returns-then-b-stop c = sym (next-ends _ _ (omega arith))

pub returns-in-Ok : goal.returns-in-Ok
returns-in-Ok c = let e = c.stop_of-stop.ensures in
    let k = sym c.try_from.ensures ∙ c.in-Ok.is in
    rw (c.call_over-call.ensures, e) (sym (next-is _ _ (omega arith) ∙ rw k))

pub returns-in-Err : goal.returns-in-Err
returns-in-Err c = let e = c.stop_of-stop.ensures in
    let k = sym c.try_from.ensures ∙ c.in-Err.is in
    rw e (sym (next-is _ _ (omega arith) ∙ rw k))
