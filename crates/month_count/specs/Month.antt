-- docs/EVENTS.md, 'The report': "Each event is answered by the manager, in order, on the card then reached .. A refused event counts as an
-- event. A tick counts for the profile that is enabled before it".
use Rattle.std.specs.Prelude.{ℕ, ◌+◌, List, [], ◌∷◌, cond, Result, Ok, Err}
use Rattle.base_status.specs.StatusWords.{is_done}
use Rattle.card_record.specs.Cards.{enabled_aid}
use Rattle.card_record.specs.Answers.{Outcome}
use Rattle.card_record.specs.declared.Card.{Card}
use Rattle.rule_run.specs.Calls.{Call}
use Rattle.rule_run.specs.Step.{step}
use Rattle.rule_run.specs.Runs.{is_tick}
use Rattle.month_tally.specs.Lines.{line_of, no_names, noted, no_minutes, minute_on}
use Rattle.month_tally.specs.declared.Tally.{Tally}
use Rattle.month_file.specs.Inputs.{fresh_answer}
use Rattle.month_file.specs.File.{body_of, file_calls, Verdict, Verdict.Accepted, Verdict.Refused, verdict_of}
use Rattle.month_file.specs.declared.Refusal.{Refusal}
use Rattle.month_contents.specs.Contents.{fresh_kind}

-- what is counted: the tally, and the minutes of each line and of the rest
pub record Counted : Type 0 where
  pub tally : Tally
  pub minutes : List ℕ

-- before the first event: the profile of the fresh card is enabled
abbrev pub at_first : Card → Counted
at_first c =
    record {
      tally = record { names = noted no_names (enabled_aid c); ticks = 0; events = 0; refused = 0 };
      minutes = no_minutes;
    }

-- one event on a card, whose answer is `o`: a tick is a minute for the profile enabled before,
-- and then the one enabled after has its line (decisions B45, B46, B47)
abbrev pub tallied : Tally → Call → Outcome → Tally
tallied t call o =
    record {
      names = noted t.names (enabled_aid o.card);
      ticks = t.ticks + cond (is_tick call) 1 0;
      events = t.events + 1;
      refused = t.refused + cond (is_done o.status) 0 1;
    }

abbrev pub timed : Card → Call → Counted → List ℕ
timed c call k = cond (is_tick call) (minute_on (line_of k.tally.names (enabled_aid c)) k.minutes) k.minutes

abbrev pub counted : Card → Call → Counted → Counted
counted c call k = record { tally = tallied k.tally call (step c call); minutes = timed c call k }

-- events in order, each on the card then reached, by the rules as they stand (decision B64)
unfoldable pub counting : Card → List Call → Counted → Counted
counting c [] k = k
counting c (call ∷ calls) k = counting (step c call).card calls (counted c call k)

-- an accepted file
abbrev pub file_card : List ℕ → Card
file_card s = (fresh_answer (body_of s fresh_kind)).card

abbrev pub month_of : List ℕ → Counted
month_of s = counting (file_card s) (file_calls s) (at_first (file_card s))

-- a file: "no event is run before all of them were asked", so that of a refused file nothing is counted
abbrev pub nothing : Counted
nothing = record { tally = record { names = no_names; ticks = 0; events = 0; refused = 0 }; minutes = no_minutes }

abbrev pub counted_by : Verdict → List ℕ → Counted
counted_by Accepted s = month_of s
counted_by (Refused r) s = nothing

abbrev pub file_counted : List ℕ → Counted
file_counted s = counted_by (verdict_of s) s

-- the tally, or by which name the file is refused; the minutes are told beside it
abbrev pub month_by : Verdict → Counted → Result Tally Refusal
month_by Accepted k = Ok k.tally
month_by (Refused r) k = Err r

abbrev pub file_month : List ℕ → Result Tally Refusal
file_month s = month_by (verdict_of s) (file_counted s)
