-- The manager's table over a command that was read, and over one that was not: the rows of reading stand before those of the card.
-- Assumes nothing.
use mathlib.Core.Path.{◌≡◌, refl, ap, sym, ◌∙◌}
use Prim.Native.Nat.{ℕ, ◌≤◌}
use mathlib.Core.List.{List, ◌++◌}
use mathlib.Core.Bool.{false}
use borrow.Author.Tests.{le-ltb}
use Rattle.std.specs.Prelude.{Ok, Err}
use Rattle.base_status.specs.StatusWords.{is_done}
use Rattle.base_status.specs.Rows.{word_of}
use Rattle.base_status.specs.declared.Status.{Status}
use Rattle.card_record.specs.Ticks.{ticks_by_phase}
use Rattle.card_record.specs.Answers.{refused_with, outcome_on_sound}
use Rattle.card_record.specs.declared.Card.{Card}
use Rattle.read_command.specs.Reading.{reading_rows, read_of}
use Rattle.read_fields.specs.declared.request.Request.{Request}
use Rattle.read_command.proofs.Answers.{refused-word, read_done, read-passes, rows-stop, rows_pass}
use Rattle.rule_steps.specs.Conditions.{card_rows}
use Rattle.rule_steps.specs.Steps.{asked_work}
use Rattle.rule_run.specs.Calls.{Call, Call.Command, request_asks, field_asks, asked}
use Rattle.rule_run.specs.Table.{least_buffer, rows_after}
use Rattle.rule_run.specs.Step.{work, on_sound}
use Rattle.rule_run.specs.Statements.{TableParts}
use Rattle.rule_run.proofs.Updates.{policy-refused, policy-read}

module _ (c : Card) (verdict : ℕ) (s : List ℕ) (room : ℕ) (h : least_buffer ≤ room) where
  abbrev call : Call
  call = Command verdict s room

  -- past the row of the buffer
  pub past-buffer : word_of (work c call).success (rows_after c call) ≡ word_of (work c call).success (reading_rows s c.capacity ++ card_rows c (asked c call))
  unfolding word_of
  past-buffer = rw (le-ltb room least_buffer h)

  -- a command that was not read
  pub not-read : (w : Status) → Err w ≡ read_of s c.capacity → (word_of (work c call).success (rows_after c call) ≡ w) × (is_done w ≡ false)
  not-read w q =
      let r = refused-word s c.capacity w q in
      (past-buffer ∙ rows-stop s c.capacity (work c call).success (card_rows c (asked c call)) (ap is_done (sym r.0) ∙ r.1) ∙ sym r.0, r.1)

  pub refused-read : (w : Status) → Err w ≡ read_of s c.capacity → on_sound c call ≡ refused_with (ticks_by_phase c) c w
  unfolding on_sound
  refused-read w q = let r = not-read w q in rw (r.0, r.1)

  -- one that was
  pub asks_read : (r : Request) → Ok r ≡ read_of s c.capacity → asked c call ≡ request_asks verdict s r
  asks_read r q = ap (field_asks verdict s) (sym (read_done s c.capacity r q).1)

  pub word_read : (r : Request) → Ok r ≡ read_of s c.capacity → word_of (work c call).success (rows_after c call) ≡ word_of (work c call).success (card_rows c (asked c call))
  word_read r q = past-buffer ∙ rows_pass s c.capacity (work c call).success (card_rows c (asked c call)) (read-passes s c.capacity r q)

  pub known_read : (r : Request) → Ok r ≡ read_of s c.capacity → on_sound c call ≡ outcome_on_sound c (asked_work c (request_asks verdict s r))
  unfolding on_sound
  known_read r q = rw (word_read r q, asks_read r q)

-- the rows that stand elsewhere are parts of the table
pub table-parts : (c : Card) (success : Status) → TableParts c success
unfolding word_of
table-parts c success =
    record {
      command = λ verdict s room. refl;
      keyed-rows = λ aid. refl;
      stored-rows = λ aid n. refl;
      finished-rows = λ aid policy mark. refl;
      tick-rows = refl;
      lost-rows = refl;
      policy-refused = λ speaker s room. policy-refused c success speaker s room;
      policy-read = λ speaker s room. policy-read c success speaker s room;
    }
