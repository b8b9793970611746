-- `check_events` meets its contract. The loop keeps: what was met before the place, and what comes from there on, is the verdict of the whole body.
use mathlib.Core.Path.{refl, sym, ◌∙◌}
use native.Mathlib.Omega.{arith}
use Rattle.base_choice.proofs.Branches.{yes!, no! }
use Rattle.month_events.proofs.Turns.{checked-first, checked-cut, checked-end, checked-known, checked-unknown}
use Rattle.month_events.proofs.check_events.Goals as goal

pub loop-at-init : goal.loop-at-init
loop-at-init c = (omega arith, checked-first _)

pub returns-then-b-stop : goal.returns-then-b-stop
returns-then-b-stop c = let l = c.loop-at in
    let e = c.stop_of-stop.ensures in
    sym (checked-cut c.args.b.now l.at l.unknown l.wrong (omega arith) (omega arith)) ∙ l.invariant.1

pub loop-at-preserved-in-Ok : goal.loop-at-preserved-in-Ok
loop-at-preserved-in-Ok c = let l = c.loop-at in
    let e = c.stop_of-stop.ensures in
    let k = checked-known c.args.b.now l.at l.unknown l.wrong (omega arith) (omega arith) _ (sym c.try_from.ensures ∙ c.in-Ok.is) in
    (omega arith, rw (c.length_wrong-wrong.ensures, e) (sym k ∙ l.invariant.1))

pub loop-at-preserved : goal.loop-at-preserved
loop-at-preserved c = let l = c.loop-at in
    let e = c.stop_of-stop.ensures in
    let k = checked-unknown c.args.b.now l.at l.unknown l.wrong (omega arith) (omega arith) _ (sym c.try_from.ensures ∙ c.in-Err.is) in
    (omega arith, rw e (sym k ∙ l.invariant.1))

pub returns-then-unknown : goal.returns-then-unknown
returns-then-unknown c = let l = c.loop-at in
    no! _ refl (yes! _ c.if-unknown.true refl) ∙ sym (checked-end _ l.at l.unknown l.wrong (omega arith)) ∙ l.invariant.1

pub returns-then-wrong : goal.returns-then-wrong
returns-then-wrong c = let l = c.loop-at in
    no! _ refl (no! _ c.if-unknown.false (yes! _ c.if-wrong.true refl)) ∙ sym (checked-end _ l.at l.unknown l.wrong (omega arith)) ∙ l.invariant.1

pub returns : goal.returns
returns c = let l = c.loop-at in
    no! _ refl (no! _ c.if-unknown.false (no! _ c.if-wrong.false refl)) ∙ sym (checked-end _ l.at l.unknown l.wrong (omega arith)) ∙ l.invariant.1
