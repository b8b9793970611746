-- `month_count::count`: the loop's invariant is `Stands`; each turn is the law of a turn, with the answer's notification or without.
use mathlib.Core.Path.{refl, ap, sym, ◌∙◌}
use mathlib.Core.List.{[]}
use lib.ListN.{length}
use native.Mathlib.Omega.{arith}
use Rattle.base_bytes.proofs.PutLaws.{length-put}
use Rattle.month_events.proofs.Turns.{next-event, none_left}
use Rattle.base_status.specs.StatusWords.{is_done}
use Rattle.record_door.specs.Door.{call_of}
use Rattle.rule_run.specs.Runs.{is_tick}
use Rattle.month_tally.specs.Lines.{line_of}
use Rattle.month_tally.specs.declared.Names.{Names}
use Rattle.month_count.specs.Month.{Counted}
use Rattle.month_count.proofs.Turns.{begins, line-room, ticks-fit, events-fit, refused-fit}
use Rattle.month_count.proofs.Turns.{told-code, silent-code, stands-last, stands-unnamed, stands-named}
use Rattle.month_count.proofs.count.Goals as goal
use Rattle.month_count.proofs.count.Goals.{then-is_told, else-is_told}

pub loop-event-init : goal.loop-event-init
loop-event-init c = let b = begins c.args.card c.args.body.now c.requires c.enabled_place.ensures c.profile-profile.ensures in
    (refl, b c.none.ensures c.noted-names.ensures c.line-own.ensures)

pub time-ticks-requires : goal.time-ticks-requires
time-ticks-requires c = line-room c.loop-event.invariant.1 c.requires.short

pub overflow_add-ticks : goal.overflow_add-ticks
overflow_add-ticks c = omega (arith, ticks-fit c.loop-event.invariant.1 (is_tick (call_of [] 0 c.in-Some.event.call)) c.requires.short c.time-ticks.ensures.0)

pub slice_bounds-answer_on_sound-end : goal.slice_bounds-answer_on_sound-end
slice_bounds-answer_on_sound-end c = c.loop-event.invariant.0

pub overflow_add-events : goal.overflow_add-events
overflow_add-events c = omega (arith, events-fit c.loop-event.invariant.1 c.requires.short)

pub overflow_add-refused : goal.overflow_add-refused
overflow_add-refused c = omega (arith, refused-fit c.loop-event.invariant.1 (is_done c.answer_on_sound-answer.result.status) c.requires.short c.refusals-refused.ensures)

pub loop-event-smaller : goal.loop-event-smaller
loop-event-smaller c =
    let t = next-event c.args.body.now c.loop-event.at _ _ c.loop-event.invariant.1.right (sym c.next_event.ensures ∙ c.in-Some.is) in
    omega (arith, t.goes, t.inside)

pub loop-event-preserved : goal.loop-event-preserved
loop-event-preserved c =
    let l = c.loop-event in
    let t = next-event c.args.body.now l.at _ _ l.invariant.1.right (sym c.next_event.ensures ∙ c.in-Some.is) in
    let size = sym l.invariant.0 in
    let served = c.answer_on_sound-answer.ensures in
    let p = c.time-ticks.ensures in
    let q = c.refusals-refused.ensures in
    let told = c.is_told.ensures in (
      l.invariant.0 ∙ sym (ap length served.0.content ∙ length-put _ 0 _),
      elim c.if-is_told.branch [
        | then-is_told w ↦ let line = w.own-is ∙ w.line-own-then-is_told.ensures ∙ ap (λ (n : Names). line_of n _) (sym w.names-is) in
            stands-named l.invariant.1 t size served p q (told-code _ (sym told ∙ w.if-is_told.true)) (w.names-is ∙ w.noted-names-then-is_told.ensures) line
        | else-is_told w ↦ rw (w.names-is, w.own-is) (stands-unnamed l.invariant.1 t size served p q (silent-code _ (sym told ∙ w.if-is_told.false)))
      ],
    )

pub returns : goal.returns
returns c = let l = c.loop-event in
    let last = none_left c.args.body.now l.at l.invariant.1.right (sym c.next_event.ensures ∙ c.in_default.is) in
    let e = stands-last l.invariant.1 last in
    (ap (λ (k : Counted). k.tally) e, ap (λ (k : Counted). k.minutes) e)
