-- The status of a call is the word of its table. Assumes nothing.
use mathlib.Core.Path.{◌≡◌, sym, ap, ◌∙◌}
use mathlib.Core.Bool.{Bool}
use Rattle.base_status.specs.StatusWords.{is_done}
use Rattle.card_record.specs.declared.Card.{Card}
use Rattle.card_record.proofs.Outcomes.{decided}
use Rattle.rule_steps.specs.Steps.{step_of, response_of}
use Rattle.rule_run.specs.Calls.{Call, asked}
use Rattle.rule_run.specs.Step.{step, step_by}
use Rattle.rule_run.specs.Runs.{table_word}

pub word-is : (c : Card) (call : Call) → (step c call).status ≡ table_word c call
unfolding step_by
word-is c call = decided c (table_word c call) (step_of c (asked c call)) (response_of c (asked c call))

-- whether it is a success
pub done-as : (c : Card) (call : Call) (b : Bool) → is_done (step c call).status ≡ b → is_done (table_word c call) ≡ b
done-as c call b e = sym (ap is_done (word-is c call)) ∙ e
