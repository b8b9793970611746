-- Document 01, 'Status words' and 'Steps': what every call answers. "Every refusal returns the card as given .., no response,
-- no notification"; "Every answer carries the ticks still to come .., 0 when Quiet, with 6F 00 and with a refused fresh."
use Rattle.std.specs.Prelude.{ℕ, List, [], ◌∷◌, not, cond, length}
use Rattle.base_status.specs.StatusWords.{is_done}
use Rattle.base_status.specs.Rows.{Row, row, word_of}
use Rattle.base_status.specs.declared.Status.{Status}
use Rattle.base_status.specs.declared.Status.TheVariants.{Unsound}
use Rattle.card_record.specs.Sound.{sound}
use Rattle.card_record.specs.Ticks.{ticks_to_come, ticks_by_phase}
use Rattle.card_record.specs.Notifications.{silent}
use Rattle.card_record.specs.declared.Card.{Card}
use Rattle.card_record.specs.declared.Step.{Step}
use Rattle.card_record.specs.declared.Answer.{Answer}
use Rattle.card_record.specs.declared.Notification.{Notification}

-- a call's whole answer, with the response as bytes
pub record Outcome : Type 0 where
  pub status : Status
  pub card : Card
  pub response : List ℕ
  pub notification : Notification
  pub ticks : ℕ

-- the same as the code hands it out: the response stands in the lent buffer, and its length is told (decision B9)
abbrev pub as_answer : Outcome → Answer
as_answer o =
    record {
      status = o.status;
      card = o.card;
      length = length o.response;
      notification = o.notification;
      ticks = o.ticks;
    }

-- a refusal and a success, each with its word and a given figure of ticks
abbrev pub refused_with : ℕ → Card → Status → Outcome
refused_with ticks c word =
    record { status = word; card = c; response = []; notification = silent; ticks = ticks }

abbrev pub accepted_with : ℕ → Status → Step → List ℕ → Outcome
accepted_with ticks word s response =
    record { status = word; card = s.card; response = response; notification = s.notification; ticks = ticks }

-- the success as the code hands it out, where only the response's length is known
abbrev pub answer_with : ℕ → Status → Step → ℕ → Answer
answer_with ticks word s n =
    record { status = word; card = s.card; length = n; notification = s.notification; ticks = ticks }

-- an answer without a notification: a refusal has no response either, a success that issues no number may have one (decision B79)
abbrev pub silent_with : ℕ → Status → Card → ℕ → Answer
silent_with ticks word c n = record { status = word; card = c; length = n; notification = silent; ticks = ticks }

-- the ticks are counted by the tick rule, and 6F 00 carries 0 (decision 47)
unfoldable pub refused : Card → Status → Outcome
refused c word = refused_with (cond (sound c) (ticks_to_come c) 0) c word

unfoldable pub accepted : Status → Step → List ℕ → Outcome
accepted word s response = accepted_with (ticks_to_come s.card) word s response

-- the answer of a table's word and a step: a success takes the step, any other word refuses (decision B36)
abbrev pub settle : Card → Status → Step → List ℕ → Outcome
settle c word s response = cond (is_done word) (accepted word s response) (refused c word)

-- "6F 00: the card is not sound (every call but fresh)"
abbrev pub sound_row : Card → Row
sound_row c = row (not (sound c)) Unsound

-- what a call does on a card: its rows of the table after 6F 00, and where none of them refuses its word of success
-- (one that `is_done` takes), its step and its response
pub record Work : Type 0 where
  pub rows : List Row
  pub success : Status
  pub step : Step
  pub response : List ℕ

abbrev pub outcome : Card → Work → Outcome
outcome c w = settle c (word_of w.success (sound_row c ∷ w.rows)) w.step w.response

-- the same for a card known to be sound: the row 6F 00 is not asked, and the ticks are figured by the phase (decision B10)
abbrev pub settle_on_sound : Card → Status → Step → List ℕ → Outcome
settle_on_sound c word s response =
    cond (is_done word) (accepted_with (ticks_by_phase s.card) word s response) (refused_with (ticks_by_phase c) c word)

abbrev pub outcome_on_sound : Card → Work → Outcome
outcome_on_sound c w = settle_on_sound c (word_of w.success w.rows) w.step w.response
