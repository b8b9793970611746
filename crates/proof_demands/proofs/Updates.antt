-- A policy update, from written bytes to the answer: what is written is read back, so the table is the row of its values and the card's rows;
-- what is accepted passed the reader's rows, so it was written; what nobody writes stops at one of them. Then all of `Written`. Assumes nothing.
use mathlib.Core.Path.{◌≡◌, refl, sym, ap, ◌∙◌}
use Prim.Native.Nat.{ℕ, ◌≤◌}
use mathlib.Core.List.{List, ◌∷◌}
use mathlib.Core.Bool.{true, false, cond, false≢true}
use lib.Dec.{ltb}
use borrow.Author.Tests.{le-ltb, ltb-false}
use Rattle.std.specs.Prelude.{Some, None, Ok, Err}
use Rattle.base_status.specs.StatusWords.{is_done}
use Rattle.base_status.specs.Rows.{word_of}
use Rattle.base_status.specs.declared.Status.{Status}
use Rattle.base_status.specs.declared.Status.TheVariants.{BufferShort}
use Rattle.card_record.specs.Sound.{sound}
use Rattle.card_record.specs.Answers.{sound_row, settle}
use Rattle.card_record.specs.declared.Card.{Card}
use Rattle.read_tlv.specs.Encoding.{Bytes}
use Rattle.read_frame.specs.Framing.{length_wrong, class_wrong, parameters_wrong, shape_wrong}
use Rattle.read_operator.specs.Field.{policy_of, is_policy_wrong, Policy}
use Rattle.read_operator.specs.Reading.{not_store_data, policy_wrong, update_of, Update}
use Rattle.read_operator.specs.Grammar.{EncodesUpdate}
use Rattle.read_operator.proofs.Answers.{passes-done, done-read, refused-word}
use Rattle.read_operator.proofs.UpdateGrammar.{update-back, update-written}
use Rattle.rule_steps.specs.Asked.{Act.set_policy, Asked}
use Rattle.rule_steps.specs.Steps.{step_of, response_of, success_of, inner_work}
use Rattle.rule_run.specs.Calls.{Call.PolicyUpdate, asked}
use Rattle.rule_run.specs.Table.{least_buffer, update_wrong, rows_after}
use Rattle.rule_run.specs.Step.{step, step_by, work}
use Rattle.rule_run.proofs.Kept.{rows-accepted}
use Rattle.rule_run.proofs.Updates.{policy-refused, policy-read, asks-update}
use Rattle.proof_demands.specs.Written as statement
use Rattle.proof_demands.specs.Written.{of_reading}
use Rattle.rule_run.proofs.Words.{word-is, done-as}
use Rattle.proof_demands.proofs.Written.{after-sound, past-sound, reading-word, written-answered, accepted-written, unwritten-refused, one-meaning}

past-buffer : (room : ℕ) (w : Status) → least_buffer ≤ room → cond (ltb room least_buffer) BufferShort w ≡ w
past-buffer room w h = rw (le-ltb room least_buffer h) refl

pub update-answered : statement.UpdateAnswered
unfolding step_by
update-answered c speaker s room p h encoded =
    let call = PolicyUpdate speaker s room in
    let q = update-back s p encoded in
    let rows = (inner_work c speaker (set_policy p)).rows in
    let word = after-sound c (work c call).success (rows_after c call) rows (policy-read c (work c call).success speaker s room p q ∙ past-buffer room _ h) in
    ap (λ (x : Status). settle c x (step_of c (asked c call)) (response_of c (asked c call))) word
    ∙ ap (λ (x : Asked). settle c (word_of (success_of c x) (sound_row c ∷ rows)) (step_of c x) (response_of c x)) (asks-update c speaker s room h p q)

right-field : (speaker : List ℕ) (p : Policy) → update_wrong speaker p ≡ false → is_policy_wrong p ≡ false
right-field speaker None e = absurd (false≢true (sym e))
right-field speaker (Some p) e = refl

field-right : (speaker s : List ℕ) → update_wrong speaker (policy_of s) ≡ false → policy_wrong s ≡ false
unfolding policy_wrong
field-right speaker s e = right-field speaker (policy_of s) e

pub accepted-update : statement.AcceptedUpdate
accepted-update c speaker s room b e =
    let call = PolicyUpdate speaker s room in
    let p = rows-accepted c call (work c call).success (done-as c call true e) in
    let r = done-read s (passes-done s record {
      length_right = p.length;
      class_right = p.class;
      instruction_right = p.instruction;
      parameters_right = p.parameters;
      shape_right = p.shape;
      data_right = field-right speaker s p.values;
    }) in
    (r.0, (ltb-false room least_buffer p.buffer, update-written s r.0 b r.1))

module _ (c : Card) (speaker s : List ℕ) (room : ℕ) (b : Bytes s) (e : sound c ≡ true) (h : least_buffer ≤ room) (none : (p : ℕ) → EncodesUpdate p s → ⊥) where
  refused-case : (x : Update) → x ≡ update_of s → of_reading (step c (PolicyUpdate speaker s room)).status ≡ true
  refused-case (Ok p) q = absurd (none p (update-written s p b q))
  refused-case (Err w) q =
      let call = PolicyUpdate speaker s room in
      let r = refused-word s w q in
      ap of_reading (word-is c call ∙ past-sound c (work c call).success (rows_after c call) e ∙ policy-refused c (work c call).success speaker s room w q ∙ past-buffer room w h ∙ r.0)
      ∙ reading-word (length_wrong s) (class_wrong s) (not_store_data s) (parameters_wrong s) (shape_wrong s) (policy_wrong s) (ap is_done (sym r.0) ∙ r.1)

pub unwritten-update : statement.UnwrittenUpdate
unwritten-update c speaker s room b e h none = refused-case c speaker s room b e h none (update_of s) refl

pub one-policy : statement.OnePolicy
one-policy s p q e f = let x = update-back s p e in let y = update-back s q f in cc

pub written : statement.Written
written =
    record {
      written-answered = written-answered;
      accepted-written = accepted-written;
      unwritten-refused = unwritten-refused;
      one-meaning = one-meaning;
      update-answered = update-answered;
      accepted-update = accepted-update;
      unwritten-update = unwritten-update;
      one-policy = one-policy;
    }
