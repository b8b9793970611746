-- What a policy update is answered is the word of its rows: a refusal exactly where a row's condition holds, by the first such row, and a policy
-- exactly where none does. By the laws of framing on rows and on a reader's answers, over the policies of an operator.
use Prim.Native.Nat.{ℕ}
use mathlib.Core.Path.{◌≡◌}
use mathlib.Core.List.{List, ◌++◌}
use mathlib.Core.Bool.{Bool, true, false}
use Rattle.std.specs.Prelude.{Some, Ok, Err}
use Rattle.base_status.specs.StatusWords.{is_done}
use Rattle.base_status.specs.Rows.{Row, word_of}
use Rattle.base_status.specs.declared.Status.{Status}
use Rattle.base_status.specs.declared.Status.TheVariants as status
use Rattle.read_frame.specs.Framing.{length_wrong, class_wrong, parameters_wrong, shape_wrong}
use Rattle.read_frame.specs.Rows.{rows_by}
use Rattle.read_frame.proofs.Rows as rows
use Rattle.read_frame.proofs.Answers as answers
use Rattle.read_operator.specs.Field.{policy_of}
use Rattle.read_operator.specs.Reading.{not_store_data, policy_wrong, update_rows, update_read, update_of}

-- no row's condition holds
abbrev pub Passes : List ℕ → Type 0
Passes s = rows.Passes (length_wrong s) (class_wrong s) (not_store_data s) (parameters_wrong s) (shape_wrong s) (policy_wrong s)

module _ (s : List ℕ) where
  -- a table whose row of the values refuses what this reader does, and more: it stops where the reader stops
  pub rows-stop : (wider : Bool) (success : Status) (more : List Row) → (policy_wrong s ≡ true → wider ≡ true) → is_done (word_of status.Done (update_rows s)) ≡ false
      → word_of success (rows_by (length_wrong s) (class_wrong s) (not_store_data s) (parameters_wrong s) (shape_wrong s) wider ++ more) ≡ word_of status.Done (update_rows s)
  rows-stop = rows.rows-stop (length_wrong s) (class_wrong s) (not_store_data s) (parameters_wrong s) (shape_wrong s) (policy_wrong s)

  pub passes-done : Passes s → word_of status.Done (update_rows s) ≡ status.Done
  passes-done = rows.passes-done (length_wrong s) (class_wrong s) (not_store_data s) (parameters_wrong s) (shape_wrong s) (policy_wrong s)

  -- `Refused w` exactly where the rows' word is w and no success
  pub refused-word : (w : Status) → Err w ≡ update_of s → (w ≡ word_of status.Done (update_rows s)) × (is_done w ≡ false)
  unfolding update_of policy_wrong
  refused-word = answers.refused-word (length_wrong s) (class_wrong s) (not_store_data s) (parameters_wrong s) (shape_wrong s) (policy_of s)

  -- `Read p` exactly where the rows' word is 90 00; p is then what the data field's reader found
  pub read_done : (p : ℕ) → Ok p ≡ update_of s → (word_of status.Done (update_rows s) ≡ status.Done) × (Some p ≡ policy_of s)
  unfolding update_of policy_wrong
  read_done = answers.read_done (length_wrong s) (class_wrong s) (not_store_data s) (parameters_wrong s) (shape_wrong s) (policy_of s)

  pub done-read : word_of status.Done (update_rows s) ≡ status.Done → (p : ℕ) × (Ok p ≡ update_of s)
  unfolding update_of policy_wrong
  done-read = answers.done-read (length_wrong s) (class_wrong s) (not_store_data s) (parameters_wrong s) (shape_wrong s) (policy_of s)

  pub read-passes : (p : ℕ) → Ok p ≡ update_of s → Passes s
  unfolding update_of policy_wrong
  read-passes = answers.read-passes (length_wrong s) (class_wrong s) (not_store_data s) (parameters_wrong s) (shape_wrong s) (policy_of s)

  pub passes-answer : Passes s → update_read (policy_of s) ≡ update_of s
  unfolding update_of policy_wrong
  passes-answer = answers.passes-answer (length_wrong s) (class_wrong s) (not_store_data s) (parameters_wrong s) (shape_wrong s) (policy_of s)
