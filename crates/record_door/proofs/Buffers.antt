-- What a call of `record_calls` answers, as the door hands it out: a work without a response leaves the buffer as it was; one with a response
-- finds room for it, as the buffer has 256 bytes and no response more than 255. Assumes nothing.
use mathlib.Core.Path.{◌≡◌, refl, sym, ◌∙◌}
use Prim.Native.Nat.{ℕ, ◌≤◌}
use native.Mathlib.Omega.{arith}
use native.Mathlib.Nat.{zero-add}
use mathlib.Core.List.{List, []}
use mathlib.Core.Bool.{Bool, true, false, cond}
use lib.ListN.{length}
use Rattle.base_status.specs.StatusWords.{is_done}
use Rattle.base_status.specs.Rows.{word_of}
use Rattle.base_bytes.proofs.PutLaws.{after-fits, put-none}
use Rattle.card_record.specs.Ticks.{ticks_by_phase}
use Rattle.card_record.specs.Answers.{Outcome, Work, accepted_with, refused_with, as_answer, outcome_on_sound}
use Rattle.card_record.specs.declared.Card.{Card}
use Rattle.card_record.specs.declared.Answer.{Answer}
use Rattle.rule_run.specs.Table.{least_buffer}
use Rattle.record_calls.specs.Into.{AnsweredInto}
use Rattle.record_door.specs.Door.{Served}

pub served : {old new : List ℕ} {o : Outcome} {r : Answer} → least_buffer ≤ length old → AnsweredInto old o r new → Served old o r new
served {old} {new} {o} h i =
    let m = i.most in
    let e = after-fits (length old) 0 (length o.response) (omega arith) ∙ zero-add (length o.response) in
    let q : _ ≡ as_answer o = rw e at i.answer in
    (record { answer = q; content = i.content }, rw q (omega arith))

-- an outcome without a response leaves the buffer as it was: every refusal, and a call whose work has none
pub kept : (old : List ℕ) {o : Outcome} {r : Answer} → o.response ≡ [] → r ≡ as_answer o → Served old o r old
kept old n q = (record { answer = q; content = rw n (sym (put-none old 0)) }, rw (q, n) (omega arith))

none-case : (c : Card) (w : Work) (b : Bool) → w.response ≡ [] → (cond b (accepted_with (ticks_by_phase w.step.card) (word_of w.success w.rows) w.step w.response) (refused_with (ticks_by_phase c) c (word_of w.success w.rows))).response ≡ []
none-case c w true e = e
none-case c w false e = refl

pub none-served : (c : Card) (w : Work) (old : List ℕ) {r : Answer} → w.response ≡ [] → r ≡ as_answer (outcome_on_sound c w) → Served old (outcome_on_sound c w) r old
none-served c w old e q = kept old (none-case c w (is_done (word_of w.success w.rows)) e) q
