-- The ticks figure of every answer: it is the fuelled count of the card handed back, which on a sound card is the count of the tick
-- rule's steps, and a sound card is handed back for a sound one. Assumes nothing.
use mathlib.Core.Path.{◌≡◌, refl, sym, subst, ◌∙◌}
use Prim.Native.Nat.{ℕ, ◌≤◌}
use native.Mathlib.Omega.{arith}
use mathlib.Core.List.{List}
use mathlib.Core.Bool.{Bool, true, false, cond}
use Rattle.card_record.specs.Sound.{sound}
use Rattle.card_record.specs.Ticks.{ticks_to_come, StepsTo}
use Rattle.card_record.specs.Fresh.{fresh_ok, fresh_outcome}
use Rattle.card_record.specs.declared.Card.{Card}
use Rattle.card_record.proofs.Counts.{at-most-30, counted, steps-are, steps-unique}
use Rattle.card_record.proofs.Outcomes.{decide-ticks, stopped}
use Rattle.rule_steps.specs.Steps.{step_of, response_of}
use Rattle.rule_run.specs.Calls.{Call, asked}
use Rattle.rule_run.specs.Step.{work, step, step_by}
use Rattle.rule_run.proofs.Kept.{took-sound, step-sound}
use Rattle.rule_run.specs.Runs.{table_word}
use Rattle.proof_demands.specs.Ticks as statement
use Rattle.proof_demands.proofs.Demand2.{fresh-taken, fresh-refused}

figure : (c : Card) (call : Call) → (step c call).ticks ≡ cond (sound (step c call).card) (ticks_to_come (step c call).card) 0
unfolding step_by
figure c call =
    decide-ticks c (table_word c call) (step_of c (asked c call)) (response_of c (asked c call)) (took-sound c call)

sound-figure : (c : Card) (call : Call) → sound (step c call).card ≡ true → (step c call).ticks ≡ ticks_to_come (step c call).card
sound-figure c call s = figure c call ∙ rw s

pub counted-steps : statement.TicksAreCounted
counted-steps c call s =
    let h = step-sound c call s in
    subst (StepsTo (step c call).card) (sym (sound-figure c call h)) (steps-are (step c call).card h)

pub one-count : statement.OneCount
one-count c call n s h = steps-unique h (counted-steps c call s)

pub not_sound : statement.NotSound
unfolding step_by
not_sound c call e = stopped c (work c call) e

most-case : (c : Card) (call : Call) (b : Bool) → sound (step c call).card ≡ b → (step c call).ticks ≤ 30
most-case c call true e =
    let h = sound-figure c call e in
    let k = counted (step c call).card e in
    let m = at-most-30 (step c call).card e in
    omega arith
most-case c call false e = let h : (step c call).ticks ≡ 0 = figure c call ∙ rw e in omega arith

pub at_most : statement.AtMostThirty
at_most c call = most-case c call (sound (step c call).card) refl

fresh-case : (eid aid : List ℕ) (capacity quota used volatile : ℕ) (b : Bool) → fresh_ok eid aid capacity quota used ≡ b → (fresh_outcome eid aid capacity quota used volatile).ticks ≡ 0
fresh-case eid aid capacity quota used volatile true e = rw (fresh-taken eid aid capacity quota used volatile e)
fresh-case eid aid capacity quota used volatile false e = rw (fresh-refused eid aid capacity quota used volatile e)

pub fresh-none : statement.FreshNone
fresh-none eid aid capacity quota used volatile =
    fresh-case eid aid capacity quota used volatile (fresh_ok eid aid capacity quota used) refl

pub ticks-figure : statement.TicksFigure
ticks-figure =
    record { counted = counted-steps; one-count = one-count; not_sound = not_sound; at_most = at_most; fresh-none = fresh-none }
