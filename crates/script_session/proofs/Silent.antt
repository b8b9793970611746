-- A call that hands in a card has no response, accepted or refused, so the text that `first_reply` writes is the text of its outcome,
-- and the buffers lent stay as they were. By cases of the word. Assumes nothing.
use Prim.Native.Nat.{ℕ, ◌≤◌}
use mathlib.Core.Path.{◌≡◌, refl, ap, sym, ◌∙◌, subst}
use mathlib.Core.List.{List, [], ◌∷◌}
use mathlib.Core.Bool.{Bool, true, false, not, cond}
use native.Mathlib.Omega.{arith}
use lib.ListN.{length}
use Rattle.base_status.specs.StatusWords.{is_done}
use Rattle.base_status.specs.Rows.{row, word_of}
use Rattle.base_status.specs.declared.Status.{Status}
use Rattle.base_status.specs.declared.Status.TheVariants.{DataWrong, Done}
use Rattle.base_bytes.specs.Put.{put, Wrote}
use Rattle.base_bytes.proofs.PutLaws.{put-none}
use Rattle.card_isdp.specs.Aids.{no_aid}
use Rattle.card_record.specs.Steps.{step_to}
use Rattle.card_record.specs.Answers.{Outcome, accepted, refused, settle, as_answer, sound_row}
use Rattle.card_record.specs.Fresh.{zero_card, fresh_card, fresh_ok, fresh_outcome}
use Rattle.card_record.specs.declared.Card.{Card}
use Rattle.card_record.specs.declared.Step.{Step}
use Rattle.card_record.specs.declared.Answer.{Answer}
use Rattle.script_line.specs.Orders.{order_of}
use Rattle.std.specs.Prelude.{Result, Ok, Err}
use Rattle.script_words.specs.Arguments.{on_ok}
use Rattle.script_words.specs.declared.Reason.{Reason}
use Rattle.script_line.specs.declared.Order.{Order}
use Rattle.script_reply.specs.Reasons.{reason_line, most_fault}
use Rattle.script_reply.specs.Replies.{record_outcome, answer_text, first_reply, fault_reply, answer_to, Reply, reply_by, reply_to_line, most_text}
use Rattle.script_session.specs.Session.{Replied, Used}
use Rattle.script_session.specs.declared.Turn.{Turn}
use Rattle.script_session.proofs.Spelled.{replied}

in_both : (c : Card) (word : Status) (s : Step) (done : Bool) → (cond done (accepted word s []) (refused c word)).response ≡ []
unfolding accepted refused
in_both c word s true = refl
in_both c word s false = refl

decided-silent : (c : Card) (word : Status) (s : Step) → (settle c word s []).response ≡ []
decided-silent c word s = in_both c word s (is_done word)

pub fresh-silent : (eid aid : List ℕ) (capacity quota used volatile : ℕ) → (fresh_outcome eid aid capacity quota used volatile).response ≡ []
unfolding fresh_outcome
fresh-silent eid aid capacity quota used volatile = decided-silent zero_card (word_of Done (row (not (fresh_ok eid aid capacity quota used)) DataWrong ∷ [])) (step_to zero_card (fresh_card eid aid capacity quota used volatile) no_aid)

pub record-silent : (c : Card) → (record_outcome c).response ≡ []
record-silent c = decided-silent c (word_of Done (sound_row c ∷ [])) (step_to c c no_aid)

-- an answer written without a response, as `first_reply` promises it
abbrev pub Silently : List ℕ → ℕ → Bool → Answer → Turn → List ℕ → Type 0
Silently old at explain a r new = (r.card ≡ a.card) × ((r.sound ≡ is_done a.status) × ((r.goes ≡ true) × (Wrote old at (answer_text explain a []) r.filled new × (length (answer_text explain a []) ≤ most_text))))

pub first-replied : {old new : List ℕ} {at : ℕ} {a : Answer} {r : Turn} (explain : Bool) (o : Outcome) → o.response ≡ [] → a ≡ as_answer o → Silently old at explain a r new → Replied old at (first_reply explain o) r new
first-replied explain o none e t =
    replied explain (is_done o.status) [] o e (sym none) t.0 (t.1.0 ∙ ap (λ (x : Answer). is_done x.status) e) t.1.1.0 t.1.1.1.0 t.1.1.1.1

-- a line that cannot be read, once it is named
pub fault-replied : {old new : List ℕ} {at filled : ℕ} {r : Turn} (c : Card) (found : Bool) (n : ℕ) (reason : Reason)
    → r ≡ record { card = c; sound = found; filled = filled; goes = false }
    → Wrote old at (reason_line n reason) filled new × (length (reason_line n reason) ≤ most_fault)
    → Replied old at (fault_reply c found n reason) r new
fault-replied c found n reason e w =
    let k = w.1 in
    record {
      same-card = ap (λ (t : Turn). t.card) e;
      same-sound = ap (λ (t : Turn). t.sound) e;
      same-goes = ap (λ (t : Turn). t.goes) e;
      wrote = rw e w.0;
      short = omega arith;
    }

-- the buffers of a line that spells nothing and has no response
pub unused : (bytes response : List ℕ) (x : Reply) → x.bytes ≡ [] → x.response ≡ [] → Used bytes response x bytes response
unused bytes response x e f =
    record { left-bytes = sym (ap (put bytes 0) e ∙ put-none bytes 0); left-response = sym (ap (put response 0) f ∙ put-none response 0) }

-- the same of a line of a record
pub record-unused : (bytes response : List ℕ) (c : Card) (found explain : Bool) (n : ℕ) (r : Result Card Reason)
    → Used bytes response (on_ok r (fault_reply c found n) (λ d. first_reply explain (record_outcome d))) bytes response
record-unused bytes response c found explain n (Err why) = unused bytes response _ refl refl
record-unused bytes response c found explain n (Ok d) = unused bytes response _ refl (record-silent d)

-- the order of a line, once its case is known
pub order-is : (s : List ℕ) {r : Result Order Reason} {o x : Order} → r ≡ Ok o → o ≡ x → r ≡ order_of s → Ok x ≡ order_of s
order-is s e f q = ap (λ (y : Order). Ok y) (sym f) ∙ sym e ∙ q

-- what `take_line` promises, read off the line's order
pub as-ordered : {old new bytes response bytes₁ response₁ : List ℕ} {at : ℕ} {r : Turn} (c : Card) (found explain : Bool) (n : ℕ) (s : List ℕ) (o : Result Order Reason) → o ≡ order_of s
    → Replied old at (reply_by (answer_to found c) c found explain n s o) r new × Used bytes response (reply_by (answer_to found c) c found explain n s o) bytes₁ response₁
    → Replied old at (reply_to_line c found explain n s) r new × Used bytes response (reply_to_line c found explain n s) bytes₁ response₁
unfolding reply_to_line
as-ordered {old} {new} {bytes} {response} {bytes₁} {response₁} {at} {r} c found explain n s o e =
    let P : Result Order Reason → Type 0 = λ x. Replied old at (reply_by (answer_to found c) c found explain n s x) r new × Used bytes response (reply_by (answer_to found c) c found explain n s x) bytes₁ response₁ in
    subst P e
