-- A call over one target, as laws over plain facts, so that one serves every such call: the change and the AID, which it asks first, then at
-- which row of the table it stops, or that it stops at none. The rows before the target's state are passed once it is `Aimed`. Assumes nothing.
use mathlib.Core.Path.{◌≡◌, ap, sym, ◌∙◌}
use Prim.Native.Nat.{ℕ, ◌≤◌}
use mathlib.Core.List.{List}
use mathlib.Core.Bool.{Bool, true, false, not}
use lib.ListN.{length}
use mir.Val.{Val}
use denote.Laws.{Is}
use denote.Struct.Declared as declared
use Rattle.base_bytes.specs.Put.{Wrote}
use Rattle.base_status.specs.Rows.{word_of}
use Rattle.base_status.specs.declared.Status.TheVariants.{StateWrong, NotHeld, PolicyForbids, VerdictWrong, NoRoom, Done}
use Rattle.card_isdp.specs.Aids.{no_aid}
use Rattle.card_isdp.specs.Place.{held}
use Rattle.card_isdp.specs.declared.Aid.{Aid}
use Rattle.card_isdp.specs.declared.Isdp.{Isdp}
use Rattle.card_places.specs.Places.{at, found_of}
use Rattle.std.specs.Prelude.{Option, Some, None}
use Rattle.card_record.specs.Cards.{place_of, profile_of}
use Rattle.card_record.specs.Steps.{step_since, step_to}
use Rattle.card_record.specs.Ticks.{ticks_by_phase}
use Rattle.card_record.specs.Answers.{as_answer, refused_with, answer_with, silent_with, outcome_on_sound}
use Rattle.card_record.specs.declared.Answer.{Answer}
use Rattle.card_record.specs.declared.Card.{Card}
use Rattle.card_record.specs.declared.Step.{Step}
use Rattle.card_record.specs.contracts.Card as C
use Rattle.rule_responses.specs.Responses.{most_response}
use Rattle.rule_steps.specs.Asked.{Act, Asked.on}
use Rattle.rule_steps.specs.Conditions.{inner_wrong, change_wrong, act_state_wrong, act_forbidden, act_verdict_wrong, act_no_room, card_rows}
use Rattle.rule_steps.specs.Steps.{act_step, act_response, asked_work, inner_work}
use Rattle.record_calls.proofs.Targets.{absent, found}
use Rattle.record_calls.specs.Into.{AnsweredInto}
use Rattle.record_calls.proofs.Accepted.{accepts, silent-accepts, silent-into}

-- a test that the code asks by `if !b`
pub asks : {test b v : Bool} → b ≡ test → b ≡ v → not test ≡ not v
asks e n = ap not (sym e ∙ n)

-- the row of the change is passed, and the AID stands at place t
pub record Aimed (c : Card) (aid : List ℕ) (act : Act) (t : ℕ) : Type 0 where
  pub change : change_wrong c (on aid act) ≡ false
  pub place : place_of c aid ≡ t
  pub there : held (profile_of c aid) ≡ true

-- the rows of the values and of the change are passed, and f is what the search for the AID found
pub record Sought (c : Card) (aid : List ℕ) (act : Act) (f : Option ℕ) : Type 0 where
  pub values : inner_wrong aid act ≡ false
  pub change : change_wrong c (on aid act) ≡ false
  pub missing : f ≡ None → held (profile_of c aid) ≡ false
  pub target : {t : ℕ} → f ≡ Some t → Aimed c aid act t

pub sought : (c : Card) (aid : List ℕ) (act : Act) {f : Option ℕ} {vs : List Val} → inner_wrong aid act ≡ false → change_wrong c (on aid act) ≡ false → Is (declared.row C.the_type) c vs → f ≡ found_of (place_of c aid) → Sought c aid act f
sought c aid act v q g e =
    record { values = v; change = q; missing = absent c aid g e; target = λ h. let k = found c aid g e h in record { change = q; place = k.place; there = k.there } }

-- the profile read there
pub profile : {c : Card} {aid : List ℕ} {act : Act} {t : ℕ} {p : Isdp} → Aimed c aid act t → p ≡ at c.places t → profile_of c aid ≡ p
profile {c} a e = ap (at c.places) a.place ∙ sym e

-- an inner call, whose values come first, has the card's rows then
pub inner : {c : Card} {aid : List ℕ} {act : Act} {f : Option ℕ} → Sought c aid act f → outcome_on_sound c (inner_work c aid act) ≡ outcome_on_sound c (asked_work c (on aid act))
unfolding word_of
inner s = rw s.values

pub at_target : {c : Card} {aid : List ℕ} {act : Act} {f : Option ℕ} → Sought c aid act f → f ≡ None → outcome_on_sound c (asked_work c (on aid act)) ≡ refused_with (ticks_by_phase c) c NotHeld
unfolding word_of
at_target s n = rw (s.change, s.missing n)

module _ {c : Card} {aid : List ℕ} {act : Act} {t : ℕ} (a : Aimed c aid act t) where
  pub at-state : act_state_wrong c aid act ≡ true → outcome_on_sound c (asked_work c (on aid act)) ≡ refused_with (ticks_by_phase c) c StateWrong
  unfolding word_of
  at-state s = rw (a.change, a.there, s)

  pub at-policy : act_state_wrong c aid act ≡ false → act_forbidden c aid act ≡ true → outcome_on_sound c (asked_work c (on aid act)) ≡ refused_with (ticks_by_phase c) c PolicyForbids
  unfolding word_of
  at-policy s p = rw (a.change, a.there, s, p)

  pub at-verdict : act_state_wrong c aid act ≡ false → act_forbidden c aid act ≡ false → act_verdict_wrong act ≡ true → outcome_on_sound c (asked_work c (on aid act)) ≡ refused_with (ticks_by_phase c) c VerdictWrong
  unfolding word_of
  at-verdict s p v = rw (a.change, a.there, s, p, v)

  pub at_room : act_state_wrong c aid act ≡ false → act_forbidden c aid act ≡ false → act_verdict_wrong act ≡ false → act_no_room c aid act ≡ true → outcome_on_sound c (asked_work c (on aid act)) ≡ refused_with (ticks_by_phase c) c NoRoom
  unfolding word_of
  at_room s p v n = rw (a.change, a.there, s, p, v, n)

  -- at none: the step is taken
  module _ (s : act_state_wrong c aid act ≡ false) (p : act_forbidden c aid act ≡ false) (v : act_verdict_wrong act ≡ false) (n : act_no_room c aid act ≡ false) where
    passes : word_of Done (card_rows c (on aid act)) ≡ Done
    unfolding word_of
    passes = rw (a.change, a.there, s, p, v, n)

    pub steps : {d : Card} {gone : Aid} {step : Step} {r : Answer} → step_to c d no_aid ≡ act_step c aid act → gone ≡ no_aid → step ≡ step_since c.last d gone
        → r ≡ answer_with (ticks_by_phase step.card) Done step (length (act_response c aid act)) → r ≡ as_answer (outcome_on_sound c (asked_work c (on aid act)))
    steps = accepts c (asked_work c (on aid act)) passes

    pub steps-silently : {d e : Card} {r : Answer} → d ≡ e → step_to c e no_aid ≡ act_step c aid act → e.last ≡ c.last
        → r ≡ silent_with (ticks_by_phase d) Done d (length (act_response c aid act)) → r ≡ as_answer (outcome_on_sound c (asked_work c (on aid act)))
    steps-silently = silent-accepts c (asked_work c (on aid act)) passes

    pub steps-into : {d e : Card} {r : Answer} {k : ℕ} {old new : List ℕ} → d ≡ e → step_to c e no_aid ≡ act_step c aid act → e.last ≡ c.last → r ≡ silent_with (ticks_by_phase d) Done d k
        → Wrote old 0 (act_response c aid act) k new → length (act_response c aid act) ≤ most_response → AnsweredInto old (outcome_on_sound c (asked_work c (on aid act))) r new
    steps-into = silent-into c (asked_work c (on aid act)) passes
