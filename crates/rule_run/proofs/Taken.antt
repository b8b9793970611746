-- What a call hands back is the card it was given or the one its step makes; an accepted one passed every row of its table. By the law on
-- every answer. Assumes nothing.
use mathlib.Core.Path.{◌≡◌, refl, ap, ◌∙◌}
use mathlib.Core.Bool.{true, false}
use Rattle.base_status.specs.declared.Status.{Status}
use Rattle.base_status.proofs.Tables.{succeeds}
use Rattle.base_status.specs.StatusWords.{is_done}
use Rattle.card_record.specs.declared.Card.{Card}
use Rattle.card_record.specs.Sound.{sound}
use Rattle.card_record.proofs.Outcomes.{Refusal, decide-card, took, refuses}
use Rattle.card_record.specs.Answers.{accepted}
use Rattle.rule_steps.specs.Steps.{step_of, response_of}
use Rattle.rule_run.specs.Calls.{Call, asked}
use Rattle.rule_run.specs.Table.{table}
use Rattle.rule_run.specs.Step.{step, step_by, work}
use Rattle.rule_run.specs.Runs.{table_word, taken}
use Rattle.rule_steps.proofs.Rows.{Passed}
use Rattle.rule_run.proofs.Kept.{rows-accepted}
use Rattle.rule_run.proofs.Words.{word-is, done-as}

module _ (c : Card) (call : Call) where
  pub hands-back : (P : Card → Type 0) → (is_done (step c call).status ≡ true → P (step_of c (asked c call)).card) → P c → P (step c call).card
  unfolding step_by
  hands-back P f g = decide-card P c (table_word c call) (step_of c (asked c call)) (response_of c (asked c call)) (λ e. f (rw (word-is c call) e)) g

  -- an accepted call takes its step
  pub takes_step : is_done (step c call).status ≡ true → step c call ≡ accepted (work c call).success (step_of c (asked c call)) (response_of c (asked c call))
  unfolding step_by
  takes_step e =
      let t = took c (table_word c call) (step_of c (asked c call)) (response_of c (asked c call)) e in
      t.1 ∙ ap (λ (w : Status). accepted w (step_of c (asked c call)) (response_of c (asked c call))) (succeeds (work c call).success (table c call) refl t.0)

  -- a refused one hands back the card, and nothing else
  pub refusal : is_done (step c call).status ≡ false → Refusal c (step c call)
  unfolding step_by
  refusal e = refuses c (table_word c call) (step_of c (asked c call)) (response_of c (asked c call)) (done-as c call false e)

-- an accepted call passed the card's rows, and the row of soundness
pub card-passed : (c : Card) (call : Call) → taken c call ≡ true → Passed c (asked c call)
card-passed c call e = (rows-accepted c call (work c call).success e).card

-- an accepted call was made on a sound card
pub taken-sound : (c : Card) (call : Call) → taken c call ≡ true → sound c ≡ true
taken-sound c call e = (rows-accepted c call (work c call).success e).whole
