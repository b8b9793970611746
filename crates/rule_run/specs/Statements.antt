-- What an auditor needs beside the demands: the card known to be sound, the longest response, and which rows are parts of the table.
use Rattle.std.specs.Prelude.{ℕ, ◌≤◌, ◌≡◌, List, ◌∷◌, ◌++◌, true, cond, length, ltb, Ok, Err}
use Rattle.base_status.specs.Rows.{row, word_of}
use Rattle.base_status.specs.declared.Status.{Status}
use Rattle.base_status.specs.declared.Status.TheVariants.{BufferShort}
use Rattle.card_record.specs.Sound.{sound}
use Rattle.card_record.specs.Answers.{sound_row}
use Rattle.card_record.specs.declared.Card.{Card}
use Rattle.read_command.specs.Reading.{reading_rows}
use Rattle.read_operator.specs.Reading.{update_of}
use Rattle.rule_steps.specs.Asked.{Act.keyed, Act.stored, Act.finished, Act.set_policy, Asked.tick, Asked.lost}
use Rattle.rule_steps.specs.Conditions.{card_rows}
use Rattle.rule_steps.specs.Steps.{inner_work}
use Rattle.rule_run.specs.Calls.{Call, Call.Command, Call.Keyed, Call.Stored, Call.Finished, Call.Tick, Call.Lost, Call.PolicyUpdate, asked}
use Rattle.rule_run.specs.Table.{least_buffer, buffer_short, rows_after, table}
use Rattle.rule_run.specs.Step.{step, on_sound}

-- on a sound card nothing depends on whether soundness is asked (decision B10)
abbrev pub OnSoundAgrees : Type 0
OnSoundAgrees = (c : Card) (call : Call) → sound c ≡ true → on_sound c call ≡ step c call

-- no response has more than 255 bytes, so the least buffer has room for it
abbrev pub ResponseMost : Type 0
ResponseMost = (c : Card) (call : Call) → length (step c call).response ≤ 255

-- the table of a command is the rows of soundness and of the buffer, then those of reading, then the card's; of an inner call, tick
-- or lost the rows after soundness give the word that its values' row and then the card's rows give,
-- whatever the word of success (decision B3)
pub record TableParts (c : Card) (success : Status) : Type 0 where
  pub command : (verdict : ℕ) (s : List ℕ) (room : ℕ) → let call = Command verdict s room in table c call ≡ sound_row c ∷ row (buffer_short call) BufferShort ∷ (reading_rows s c.capacity ++ card_rows c (asked c call))
  pub keyed-rows : (aid : List ℕ) → word_of success (rows_after c (Keyed aid)) ≡ word_of success (inner_work c aid keyed).rows
  pub stored-rows : (aid : List ℕ) (n : ℕ) → word_of success (rows_after c (Stored aid n)) ≡ word_of success (inner_work c aid (stored n)).rows
  pub finished-rows : (aid : List ℕ) (policy mark : ℕ) → word_of success (rows_after c (Finished aid policy mark)) ≡ word_of success (inner_work c aid (finished policy mark)).rows
  pub tick-rows : word_of success (rows_after c Tick) ≡ word_of success (card_rows c tick)
  pub lost-rows : word_of success (rows_after c Lost) ≡ word_of success (card_rows c lost)
  -- of a policy update: the buffer's row, then the word of its reader, or once it is read the row of its values and the card's rows
  pub policy-refused : (speaker s : List ℕ) (room : ℕ) (word : Status) → Err word ≡ update_of s → word_of success (rows_after c (PolicyUpdate speaker s room)) ≡ cond (ltb room least_buffer) BufferShort word
  pub policy-read : (speaker s : List ℕ) (room policy : ℕ) → Ok policy ≡ update_of s → word_of success (rows_after c (PolicyUpdate speaker s room)) ≡ cond (ltb room least_buffer) BufferShort (word_of success (inner_work c speaker (set_policy policy)).rows)
