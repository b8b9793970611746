-- Demand 2: "Each command and event has the status word, response bytes, notification and new profile table that .. document 01
-- give[s], and nothing further changes. From a fresh card on, exactly one profile is enabled and exactly one is the fall-back."
-- The table, the steps and the responses are the definitions of the crates below. `step` is defined by them, so the fields `first-row`,
-- `only-first-row`, `otherwise`, `only-otherwise`, `takes` and `answered` hold by that definition: they say how it is to be read, and would
-- hold of a wrong table too. What document 01 asks of each call is pinned by `CallLaws`, `Written`, `Notified`, `StatusTable` and
-- `Examples`; the fields on fresh and on soundness say more than the definition.
use Rattle.std.specs.Prelude.{ℕ, ◌<◌, ◌≡◌, List, [], ◌∷◌, ◌++◌, true, false, length}
use Rattle.base_status.specs.StatusWords.{is_done}
use Rattle.base_status.specs.Rows.{Row}
use Rattle.base_status.specs.declared.Status.{Status}
use Rattle.base_status.specs.declared.Status.TheVariants.{DataWrong, Done}
use Rattle.card_isdp.specs.LifeCycle.{is_enabled, is_finished}
use Rattle.card_isdp.specs.Place.{held}
use Rattle.card_places.specs.Places.{at, count_of}
use Rattle.card_record.specs.Cards.{no_place}
use Rattle.card_record.specs.Sound.{sound}
use Rattle.card_record.specs.Answers.{accepted}
use Rattle.card_record.specs.Notifications.{silent}
use Rattle.card_record.specs.Fresh.{zero_card, fresh_card, fresh_ok, fresh_outcome}
use Rattle.card_record.specs.declared.Card.{Card}
use Rattle.rule_steps.specs.Steps.{success_of, step_of, response_of}
use Rattle.rule_run.specs.Calls.{Call, asked}
use Rattle.rule_run.specs.Table.{table}
use Rattle.rule_run.specs.Step.{step, run, answers}

-- no row's condition holds
abbrev pub NoneHolds : List Row → Type 0
NoneHolds [] = Unit {0}
NoneHolds (r ∷ rs) = (r.when ≡ false) × NoneHolds rs

-- w is the word of the first row whose condition holds
pub record First (rows : List Row) (w : Status) : Type 0 where
  pub before : List Row
  pub this : Row
  pub after : List Row
  pub split : rows ≡ before ++ this ∷ after
  pub none_before : NoneHolds before
  pub holds : this.when ≡ true
  pub word : this.word ≡ w

-- by definition: "Given exactly when, in this order": a word is given where its row is the first to hold, and a refusal's word nowhere else
abbrev pub FirstRow : Type 0
FirstRow = (c : Card) (call : Call) (w : Status) → First (table c call) w → (step c call).status ≡ w

abbrev pub OnlyFirstRow : Type 0
OnlyFirstRow = (c : Card) (call : Call) → is_done (step c call).status ≡ false → First (table c call) (step c call).status

-- by definition: "Otherwise 90 00", or of a listing 63 10, and only then
abbrev pub Otherwise : Type 0
Otherwise = (c : Card) (call : Call) → NoneHolds (table c call) → (step c call).status ≡ success_of c (asked c call)

abbrev pub OnlyOtherwise : Type 0
OnlyOtherwise = (c : Card) (call : Call) → is_done (step c call).status ≡ true → NoneHolds (table c call)

-- by definition: an accepted call gives its step and its response, the whole answer
abbrev pub Takes : Type 0
Takes =
    (c : Card) (call : Call)
    → is_done (step c call).status ≡ true
    → step c call ≡ accepted (success_of c (asked c call)) (step_of c (asked c call)) (response_of c (asked c call))

-- fresh: its whole answer, where its inputs keep the sizes and where not
abbrev pub FreshTaken : Type 0
FreshTaken =
    (eid aid : List ℕ) (capacity quota used volatile : ℕ)
    → fresh_ok eid aid capacity quota used ≡ true
    → fresh_outcome eid aid capacity quota used volatile
    ≡ record { status = Done; card = fresh_card eid aid capacity quota used volatile; response = []; notification = silent; ticks = 0 }

abbrev pub FreshRefused : Type 0
FreshRefused =
    (eid aid : List ℕ) (capacity quota used volatile : ℕ)
    → fresh_ok eid aid capacity quota used ≡ false
    → fresh_outcome eid aid capacity quota used volatile
    ≡ record { status = DataWrong; card = zero_card; response = []; notification = silent; ticks = 0 }

-- by definition: every answer of a run is that of its call on the card then reached, so all above holds of it
abbrev pub RunAnswered : Type 0
RunAnswered =
    (c : Card) (before : List Call) (call : Call) (after : List Call)
    → answers c (before ++ call ∷ after)
    ≡ answers c before ++ step (run c before) call ∷ answers (run c (before ++ call ∷ [])) after

-- soundness is kept by every call and made by fresh (decision 57)
abbrev pub Keeps : Type 0
Keeps = (c : Card) (call : Call) → sound c ≡ true → sound (step c call).card ≡ true

abbrev pub Makes : Type 0
Makes =
    (eid aid : List ℕ) (capacity quota used volatile : ℕ)
    → (fresh_outcome eid aid capacity quota used volatile).status ≡ Done
    → sound (fresh_outcome eid aid capacity quota used volatile).card ≡ true

-- a sound card: exactly one place is ENABLED, and the fall-back is one of its places, held, DISABLED or ENABLED, and has provisioning capability.
-- Request 2026-05: "Demand 2 counts that kept place, a held one, as part of the card"
pub record Standing (c : Card) : Type 0 where
  pub still-sound : sound c ≡ true
  pub one-enabled : count_of is_enabled c.places ≡ 1
  pub one-fallback : c.fallback < length c.places
  pub fallback-held : held (at c.places c.fallback) ≡ true
  pub fallback-finished : is_finished (at c.places c.fallback).life ≡ true
  pub fallback-marked : (at c.places c.fallback).mark ≡ 1
  pub kept-held : (c.kept ≡ no_place → ⊥) → held (at c.places c.kept) ≡ true

-- "From a fresh card on": whatever the calls
abbrev pub FromFresh : Type 0
FromFresh =
    (eid aid : List ℕ) (capacity quota used volatile : ℕ) (calls : List Call)
    → (fresh_outcome eid aid capacity quota used volatile).status ≡ Done
    → Standing (run (fresh_outcome eid aid capacity quota used volatile).card calls)

pub record Demand2 : Type 0 where
  pub first-row : FirstRow
  pub only-first-row : OnlyFirstRow
  pub otherwise : Otherwise
  pub only-otherwise : OnlyOtherwise
  pub takes : Takes
  pub fresh-taken : FreshTaken
  pub fresh-refused : FreshRefused
  pub answered : RunAnswered
  pub keeps : Keeps
  pub makes : Makes
  pub from-fresh : FromFresh

-- some fresh is accepted, and on its card some call is accepted and some other refused
pub record Demand2Met : Type 0 where
  pub eid : List ℕ
  pub aid : List ℕ
  pub made : (fresh_outcome eid aid 1000 100 0 0).status ≡ Done
  pub taken : Call
  pub accepts : (step (fresh_outcome eid aid 1000 100 0 0).card taken).status ≡ Done
  pub refused : Call
  pub refuses : is_done (step (fresh_outcome eid aid 1000 100 0 0).card refused).status ≡ false
