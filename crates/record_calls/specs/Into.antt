-- Document 01, 'Sizes': "a response starts at its first byte, has at most 255, and bytes after it are untouched". An outcome over a lent
-- buffer of any size: what does not fit is left out, and the length told is of what was written. That the buffer has 256 bytes is a row
-- of the table, and the door asks it before a call is made.
use Rattle.std.specs.Prelude.{ℕ, ◌≤◌, List, ◌≡◌, length}
use Rattle.base_bytes.specs.Put.{put, after}
use Rattle.card_record.specs.Answers.{Outcome}
use Rattle.card_record.specs.declared.Answer.{Answer}
use Rattle.rule_responses.specs.Responses.{most_response}

-- the outcome as it is handed out over a buffer of so many bytes
abbrev pub handed_in : ℕ → Outcome → Answer
handed_in size o =
    record {
      status = o.status;
      card = o.card;
      length = after size 0 (length o.response);
      notification = o.notification;
      ticks = o.ticks;
    }

pub record AnsweredInto (old : List ℕ) (o : Outcome) (r : Answer) (new : List ℕ) : Type 0 where
  pub answer : r ≡ handed_in (length old) o
  pub content : new ≡ put old 0 o.response
  pub most : length o.response ≤ most_response

-- "two answers meeting one promise are equal", in a buffer of any size
abbrev pub OneInto : Type 0
OneInto = (o : Outcome) (old : List ℕ) (r s : Answer) (new newer : List ℕ) → AnsweredInto old o r new → AnsweredInto old o s newer → (r ≡ s) × (new ≡ newer)
