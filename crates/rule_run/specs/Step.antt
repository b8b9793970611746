-- Document 01, 'What is bought': what the manager answers to a call, and what a run of calls makes of a card.
-- The status is the word of the table; "Otherwise 90 00", or of a listing 63 10, the step is taken and its response given.
use Rattle.std.specs.Prelude.{List, [], ◌∷◌}
use Rattle.card_record.specs.Answers.{Outcome, Work, outcome, outcome_on_sound}
use Rattle.card_record.specs.declared.Card.{Card}
use Rattle.rule_steps.specs.Steps.{success_of, step_of, response_of}
use Rattle.rule_run.specs.Calls.{Call, asked}
use Rattle.rule_run.specs.Table.{rows_after}

-- the work of a call: the rows after the first, the word of success, the step, the response
abbrev pub work : Card → Call → Work
work c call =
    record {
      rows = rows_after c call;
      success = success_of c (asked c call);
      step = step_of c (asked c call);
      response = response_of c (asked c call);
    }

-- the answer that a work gives; another edition of the rules would be another work, and nothing else here
unfoldable pub step_by : (Card → Call → Work) → Card → Call → Outcome
step_by does c call = outcome c (does c call)

-- the answer: the word of the table with its success otherwise, and where it is a success the step and the response
abbrev pub step : Card → Call → Outcome
step c call = step_by work c call

-- the same on a card known to be sound: the row 6F 00 is not asked (statement `OnSoundAgrees`) (decision B10)
unfoldable pub on_sound : Card → Call → Outcome
on_sound c call = outcome_on_sound c (work c call)

-- a run of calls, in order: the card that it ends on, and every answer
unfoldable pub run : Card → List Call → Card
run c [] = c
run c (call ∷ calls) = run (step c call).card calls

unfoldable pub answers : Card → List Call → List Outcome
answers c [] = []
answers c (call ∷ calls) = step c call ∷ answers (step c call).card calls
