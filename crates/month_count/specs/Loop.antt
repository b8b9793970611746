-- What the loop over the events may take for granted of a file that is accepted: a sound card, right events, and so few of them that no
-- count of minutes passes 32 bits.
use Rattle.std.specs.Prelude.{ℕ, ◌≤◌, ◌<◌, ◌≡◌, List, true, length, get_or, Ok}
use Rattle.card_record.specs.Sound.{sound}
use Rattle.card_record.specs.declared.Card.{Card}
use Rattle.month_contents.specs.Contents.{most_file}
use Rattle.month_events.specs.Events.{checked_of}
use Rattle.month_tally.specs.Lines.{rest_line, no_minutes}

-- fresh makes the card sound and every call keeps it so: no event asks (decision B49)
pub record Countable (c : Card) (b : List ℕ) (minutes : List ℕ) : Type 0 where
  pub sound-card : sound c ≡ true
  pub right : checked_of b ≡ Ok tt
  pub short : length b ≤ most_file
  pub clear : minutes ≡ no_minutes

-- a line that there are minutes for, with room for one more
pub record MinutesLine (line : ℕ) (minutes : List ℕ) : Type 0 where
  pub within : line ≤ rest_line
  pub low : get_or minutes line 0 < 4294967295
