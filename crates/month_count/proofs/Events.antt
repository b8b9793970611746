-- Every call is an event, answered once, and the refusals among the answers are those counted. By induction over the calls, from any
-- count on. Assumes nothing.
use mathlib.Core.Path.{◌≡◌, refl, ap}
use Prim.Native.Nat.{ℕ, suc, ◌+◌}
use native.Mathlib.Omega.{arith}
use mathlib.Core.List.{List, [], ◌∷◌}
use mathlib.Core.Bool.{Bool, true, false, not, cond}
use lib.ListN.{length}
use Rattle.base_status.specs.StatusWords.{is_done}
use Rattle.card_record.specs.declared.Card.{Card}
use Rattle.rule_run.specs.Calls.{Call}
use Rattle.rule_run.specs.Step.{step, answers}
use Rattle.rule_run.specs.Runs.{ticks_among}
use Rattle.month_count.specs.Month.{Counted, at_first, counted, counting}
use Rattle.month_count.specs.Statements.{how_many, is_refusal, EventsReported}

events-from : (c : Card) (calls : List Call) (k : Counted) → (counting c calls k).tally.events ≡ k.tally.events + length calls
unfolding counting
events-from c [] k = omega arith
events-from c (call ∷ calls) k = let e = events-from (step c call).card calls (counted c call k) in omega arith

answered : (c : Card) (calls : List Call) → length (answers c calls) ≡ length calls
unfolding answers
answered c [] = refl
answered c (call ∷ calls) = ap suc (answered (step c call).card calls)

-- 0 of a success and 1 of a refusal, the one way and the other
refusal : (b : Bool) → ◌≡◌ {A = ℕ} (cond b 0 1) (cond (not b) 1 0)
refusal true = refl
refusal false = refl

refused-from : (c : Card) (calls : List Call) (k : Counted) → (counting c calls k).tally.refused ≡ k.tally.refused + how_many is_refusal (answers c calls)
unfolding counting answers how_many
refused-from c [] k = omega arith
refused-from c (call ∷ calls) k =
    let e = refused-from (step c call).card calls (counted c call k) in
    let f = refusal (is_done (step c call).status) in
    omega arith

pub events-reported : EventsReported
events-reported c calls =
    let e = events-from c calls (at_first c) in
    let f = refused-from c calls (at_first c) in
    record { events = omega arith; answered = answered c calls; refused = omega arith }

ticks-from : (c : Card) (calls : List Call) (k : Counted) → (counting c calls k).tally.ticks ≡ k.tally.ticks + ticks_among calls
unfolding counting ticks_among
ticks-from c [] k = omega arith
ticks-from c (call ∷ calls) k =
    let e = ticks-from (step c call).card calls (counted c call k) in
    omega arith

pub ticks-told : (c : Card) (calls : List Call) → (counting c calls (at_first c)).tally.ticks ≡ ticks_among calls
ticks-told c calls = let e = ticks-from c calls (at_first c) in omega arith
