-- What a command is answered is the word of the rows: a refusal exactly where a row's condition holds, by the first such row, and a request
-- exactly where none does. By the laws of framing on rows and on a reader's answers, over the requests of the root domain.
use Prim.Native.Nat.{ℕ}
use mathlib.Core.Path.{◌≡◌}
use mathlib.Core.List.{List, ◌++◌}
use mathlib.Core.Bool.{false}
use Rattle.std.specs.Prelude.{Some, Ok, Err}
use Rattle.base_status.specs.StatusWords.{is_done}
use Rattle.base_status.specs.Rows.{Row, word_of}
use Rattle.base_status.specs.declared.Status.{Status}
use Rattle.base_status.specs.declared.Status.TheVariants as status
use Rattle.read_fields.specs.declared.request.Request.{Request}
use Rattle.read_frame.specs.Framing.{length_wrong, class_wrong, instruction_wrong, parameters_wrong, shape_wrong}
use Rattle.read_frame.proofs.Rows as rows
use Rattle.read_frame.proofs.Answers as answers
use Rattle.read_command.specs.Requests.{field_of, data_wrong}
use Rattle.read_command.specs.Reading.{reading_rows, request_read, read_of}

-- no row's condition holds
abbrev pub Passes : List ℕ → ℕ → Type 0
Passes s capacity = rows.Passes (length_wrong s) (class_wrong s) (instruction_wrong s) (parameters_wrong s) (shape_wrong s) (data_wrong s capacity)

module _ (s : List ℕ) (capacity : ℕ) where
  -- for a table that goes on after these rows: it stops at them, or goes past them
  pub rows-stop : (success : Status) (more : List Row) → is_done (word_of status.Done (reading_rows s capacity)) ≡ false → word_of success (reading_rows s capacity ++ more) ≡ word_of status.Done (reading_rows s capacity)
  rows-stop success more = rows.rows-stop (length_wrong s) (class_wrong s) (instruction_wrong s) (parameters_wrong s) (shape_wrong s) (data_wrong s capacity) (data_wrong s capacity) success more (λ e. e)

  pub rows_pass : (success : Status) (more : List Row) → Passes s capacity → word_of success (reading_rows s capacity ++ more) ≡ word_of success more
  rows_pass = rows.rows_pass (length_wrong s) (class_wrong s) (instruction_wrong s) (parameters_wrong s) (shape_wrong s) (data_wrong s capacity)

  pub passes-done : Passes s capacity → word_of status.Done (reading_rows s capacity) ≡ status.Done
  passes-done = rows.passes-done (length_wrong s) (class_wrong s) (instruction_wrong s) (parameters_wrong s) (shape_wrong s) (data_wrong s capacity)

  -- `Refused w` exactly where the rows' word is w and no success
  pub refused-word : (w : Status) → Err w ≡ read_of s capacity → (w ≡ word_of status.Done (reading_rows s capacity)) × (is_done w ≡ false)
  unfolding read_of data_wrong
  refused-word = answers.refused-word (length_wrong s) (class_wrong s) (instruction_wrong s) (parameters_wrong s) (shape_wrong s) (field_of s capacity)

  -- `Read r` exactly where the rows' word is 90 00; r is then what the data field's reader found
  pub read_done : (r : Request) → Ok r ≡ read_of s capacity → (word_of status.Done (reading_rows s capacity) ≡ status.Done) × (Some r ≡ field_of s capacity)
  unfolding read_of data_wrong
  read_done = answers.read_done (length_wrong s) (class_wrong s) (instruction_wrong s) (parameters_wrong s) (shape_wrong s) (field_of s capacity)

  pub done-read : word_of status.Done (reading_rows s capacity) ≡ status.Done → (r : Request) × (Ok r ≡ read_of s capacity)
  unfolding read_of data_wrong
  done-read = answers.done-read (length_wrong s) (class_wrong s) (instruction_wrong s) (parameters_wrong s) (shape_wrong s) (field_of s capacity)

  pub read-passes : (r : Request) → Ok r ≡ read_of s capacity → Passes s capacity
  unfolding read_of data_wrong
  read-passes = answers.read-passes (length_wrong s) (class_wrong s) (instruction_wrong s) (parameters_wrong s) (shape_wrong s) (field_of s capacity)

  pub passes-answer : Passes s capacity → request_read (field_of s capacity) ≡ read_of s capacity
  unfolding read_of data_wrong
  passes-answer = answers.passes-answer (length_wrong s) (class_wrong s) (instruction_wrong s) (parameters_wrong s) (shape_wrong s) (field_of s capacity)
