-- A part of a listing on a card known to be sound: where no row refuses it, the word is a success, whichever of the two it is. Assumes nothing.
use mathlib.Core.Path.{◌≡◌}
use mathlib.Core.Bool.{Bool, false, ◌&&◌}
use lib.Dec.{eqb}
use Rattle.base_status.specs.Rows.{word_of}
use Rattle.card_isdp.specs.Aids.{no_aid}
use Rattle.card_record.specs.Cards.{no_place, keeping}
use Rattle.card_record.specs.Steps.{step_to}
use Rattle.card_record.specs.Ticks.{ticks_by_phase}
use Rattle.card_record.specs.Answers.{accepted_with, outcome_on_sound}
use Rattle.card_record.specs.declared.Card.{Card}
use Rattle.rule_responses.specs.Responses.{part_given}
use Rattle.rule_steps.specs.Asked.{Asked.status_of_all}
use Rattle.rule_steps.proofs.Successes.{part-done}
use Rattle.rule_steps.specs.Steps.{begins_at, goes_on_at, part_word, asked_work}

pub part-known : (c : Card) (next life fallback : Bool) → (next && eqb c.kept no_place) ≡ false
    → outcome_on_sound c (asked_work c (status_of_all next life fallback)) ≡ accepted_with (ticks_by_phase (keeping c (goes_on_at c next life fallback))) (part_word (goes_on_at c next life fallback)) (step_to c (keeping c (goes_on_at c next life fallback)) no_aid) (part_given c (begins_at c next) life fallback)
unfolding word_of
part-known c next life fallback h =
    let left = goes_on_at c next life fallback in
    rw (h, part-done left)
