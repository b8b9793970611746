-- The manager's table over a policy update that was read, and over one that was not. By the conditions of the reader's rows: what its last
-- row refuses the table's row of the values refuses too, so that the table stops where the reader does. Assumes nothing.
use mathlib.Core.Path.{◌≡◌, refl, ap, sym, ◌∙◌}
use Prim.Native.Nat.{ℕ, ◌≤◌}
use mathlib.Core.List.{List}
use mathlib.Core.Bool.{true, cond, false≢true}
use lib.Dec.{ltb}
use borrow.Author.Tests.{le-ltb}
use Rattle.std.specs.Prelude.{Some, None, Ok, Err}
use Rattle.base_status.specs.StatusWords.{is_done}
use Rattle.base_status.specs.Rows.{word_of}
use Rattle.base_status.specs.declared.Status.{Status}
use Rattle.base_status.specs.declared.Status.TheVariants.{BufferShort}
use Rattle.card_record.specs.Ticks.{ticks_by_phase}
use Rattle.card_record.specs.Answers.{refused_with, outcome_on_sound}
use Rattle.card_record.specs.declared.Card.{Card}
use Rattle.read_operator.specs.Field.{policy_of, is_policy_wrong, Policy}
use Rattle.read_operator.specs.Reading.{policy_wrong, update_of}
use Rattle.read_operator.proofs.Answers.{rows-stop, refused-word, read_done, read-passes}
use Rattle.rule_steps.specs.Asked.{Act.set_policy, Asked.on}
use Rattle.rule_steps.specs.Conditions.{card_rows}
use Rattle.rule_steps.specs.Steps.{inner_work}
use Rattle.rule_run.specs.Calls.{Call, Call.PolicyUpdate, policy_asks, asked}
use Rattle.rule_run.specs.Table.{least_buffer, update_wrong, rows_after}
use Rattle.rule_run.specs.Step.{work, on_sound}

wrong-too : (speaker : List ℕ) (p : Policy) → is_policy_wrong p ≡ true → update_wrong speaker p ≡ true
wrong-too speaker None e = refl
wrong-too speaker (Some p) e = absurd (false≢true e)

field-too : (speaker s : List ℕ) → policy_wrong s ≡ true → update_wrong speaker (policy_of s) ≡ true
unfolding policy_wrong
field-too speaker s e = wrong-too speaker (policy_of s) e

module _ (c : Card) (success : Status) (speaker s : List ℕ) (room : ℕ) where
  abbrev call : Call
  call = PolicyUpdate speaker s room

  -- the reader's word, behind the row of the buffer
  pub policy-refused : (w : Status) → Err w ≡ update_of s → word_of success (rows_after c call) ≡ cond (ltb room least_buffer) BufferShort w
  unfolding word_of
  policy-refused w q =
      let r = refused-word s w q in
      ap (cond (ltb room least_buffer) BufferShort)
      (rows-stop s (update_wrong speaker (policy_of s)) success (card_rows c (asked c call)) (field-too speaker s) (ap is_done (sym r.0) ∙ r.1)
      ∙ sym r.0)

  -- the row of the values and the card's rows, behind it
  pub policy-read : (p : ℕ) → Ok p ≡ update_of s → word_of success (rows_after c call) ≡ cond (ltb room least_buffer) BufferShort (word_of success (inner_work c speaker (set_policy p)).rows)
  unfolding word_of
  policy-read p q =
      let k = read-passes s p q in
      rw (k.length_right, k.class_right, k.instruction_right, k.parameters_right, k.shape_right)
      (rw (← (read_done s p q).1) refl)

module _ (c : Card) (speaker s : List ℕ) (room : ℕ) (h : least_buffer ≤ room) where
  pub refused-update : (w : Status) → Err w ≡ update_of s → on_sound c (PolicyUpdate speaker s room) ≡ refused_with (ticks_by_phase c) c w
  unfolding on_sound
  refused-update w q =
      let call = PolicyUpdate speaker s room in
      rw (policy-refused c (work c call).success speaker s room w q, le-ltb room least_buffer h, (refused-word s w q).1)

  pub asks-update : (p : ℕ) → Ok p ≡ update_of s → asked c (PolicyUpdate speaker s room) ≡ on speaker (set_policy p)
  asks-update p q = ap (policy_asks speaker) (sym (read_done s p q).1)

  pub known-update : (p : ℕ) → Ok p ≡ update_of s → on_sound c (PolicyUpdate speaker s room) ≡ outcome_on_sound c (inner_work c speaker (set_policy p))
  unfolding on_sound
  known-update p q =
      let call = PolicyUpdate speaker s room in
      rw (policy-read c (work c call).success speaker s room p q, le-ltb room least_buffer h, asks-update p q)
