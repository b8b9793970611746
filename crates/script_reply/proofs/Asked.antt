-- Every script is answered as if soundness were asked at every call: where the flag says that the card is sound it is, and each line
-- leaves that so, since a call keeps a sound card sound and a card handed in is asked. By induction over the lines.
use mathlib.Core.Path.{◌≡◌, refl, ap, sym, ◌∙◌}
use Prim.Native.Nat.{ℕ, suc}
use mathlib.Core.List.{List, [], ◌∷◌, ◌++◌}
use mathlib.Core.Bool.{Bool, true, false, cond, ◌&&◌, false≢true}
use Rattle.base_status.specs.StatusWords.{is_done}
use Rattle.base_status.specs.Rows.{word_of}
use Rattle.card_isdp.proofs.Bools.{and_r}
use Rattle.card_record.specs.Sound.{sound}
use Rattle.card_record.specs.Fresh.{zero_card}
use Rattle.card_record.specs.declared.Card.{Card}
use Rattle.card_record.proofs.Outcomes.{checked, stopped}
use Rattle.card_record.proofs.Freshness.{fresh-sound}
use Rattle.rule_run.specs.Calls.{Call}
use Rattle.rule_run.specs.Step.{step}
use Rattle.rule_run.proofs.Kept.{on-sound-agrees, step-sound}
use Rattle.script_line.specs.Orders.{order_of}
use Rattle.std.specs.Prelude.{Result, Ok, Err}
use Rattle.script_words.specs.Arguments.{on_ok}
use Rattle.script_words.specs.declared.Reason.{Reason}
use Rattle.script_record.specs.Records.{record_at}
use Rattle.script_line.specs.declared.Order.{Order}
use Rattle.script_line.specs.declared.Order.TheVariants as order
use Rattle.script_reply.specs.Replies.{spelled_bytes, bytes_in, call_spelled, record_work, record_outcome, reply_of, first_reply, fault_reply, answer_to, Reply, reply_by, reply_to_line, checked_line, script_of, checked_script, CheckedOnce}

-- the flag is right: where it says that the card is sound, it is
abbrev Right : Card → Bool → Type 0
Right c found = found ≡ true → sound c ≡ true

answers_agree : (c : Card) (found : Bool) (call : Call) → Right c found → answer_to found c call ≡ step c call
answers_agree c true call h = on-sound-agrees c call (h refl)
answers_agree c false call h = refl

-- the calls that hand in a card
record-flag : (c : Card) (found : Bool) → sound c ≡ found → Right (record_outcome c).card (is_done (record_outcome c).status)
unfolding word_of
record-flag c true e = λ z. rw (checked c (record_work c) e (λ y. e)) e
record-flag c false e = λ z. absurd (false≢true (sym (ap (λ (o : _). is_done o.status) (stopped c (record_work c) e)) ∙ z))

-- what a `card` line comes to, of the record that it hands in
abbrev record-reply : Card → Bool → Bool → ℕ → Result Card Reason → Reply
record-reply c found explain n r = on_ok r (fault_reply c found n) λ d. first_reply explain (record_outcome d)

record-right : (c : Card) (found explain : Bool) (n : ℕ) (r : Result Card Reason) → Right c found → Right (record-reply c found explain n r).card (record-reply c found explain n r).sound
record-right c found explain n (Err why) h = h
record-right c found explain n (Ok d) h = record-flag d (sound d) refl

-- a line
orders-agree : (c : Card) (found explain : Bool) (n : ℕ) (s : List ℕ) (o : Result Order Reason) → Right c found → reply_by (answer_to found c) c found explain n s o ≡ reply_by (step c) c found explain n s o
orders-agree c found explain n s (Err reason) h = refl
orders-agree c found explain n s (Ok order.Nothing) h = refl
orders-agree c found explain n s (Ok (order.Fresh asked)) h = refl
orders-agree c found explain n s (Ok (order.Call x room)) h = ap (reply_of explain found (bytes_in s x)) (answers_agree c found (call_spelled s room x) h)
orders-agree c found explain n s (Ok (order.Record at)) h = refl

order-flag : (c : Card) (found explain : Bool) (n : ℕ) (s : List ℕ) (o : Result Order Reason) → Right c found → Right (reply_by (step c) c found explain n s o).card (reply_by (step c) c found explain n s o).sound
order-flag c found explain n s (Err reason) h = h
order-flag c found explain n s (Ok order.Nothing) h = h
order-flag c found explain n s (Ok (order.Fresh asked)) h = fresh-sound (spelled_bytes s asked.eid) (spelled_bytes s asked.aid) asked.capacity asked.quota asked.used asked.volatile
order-flag c found explain n s (Ok (order.Call x room)) h = λ z. step-sound c (call_spelled s room x) (h z)
order-flag c found explain n s (Ok (order.Record at)) h = record-right c found explain n (record_at s at) h

-- what is said, and the card, do not depend on the flag where every call asks
record Alike (x y : Reply) : Type 0 where
  same_text : x.text ≡ y.text
  same-goes : x.goes ≡ y.goes
  same-card : x.card ≡ y.card

record-alike : (c : Card) (found explain : Bool) (n : ℕ) (r : Result Card Reason) → Alike (record-reply c found explain n r) (record-reply c false explain n r)
record-alike c found explain n (Err why) = record { same_text = refl; same-goes = refl; same-card = refl }
record-alike c found explain n (Ok d) = record { same_text = refl; same-goes = refl; same-card = refl }

order_alike : (c : Card) (found explain : Bool) (n : ℕ) (s : List ℕ) (o : Result Order Reason) → Alike (reply_by (step c) c found explain n s o) (reply_by (step c) c false explain n s o)
order_alike c found explain n s (Err reason) = record { same_text = refl; same-goes = refl; same-card = refl }
order_alike c found explain n s (Ok order.Nothing) = record { same_text = refl; same-goes = refl; same-card = refl }
order_alike c found explain n s (Ok (order.Fresh asked)) = record { same_text = refl; same-goes = refl; same-card = refl }
order_alike c found explain n s (Ok (order.Call x room)) = record { same_text = refl; same-goes = refl; same-card = refl }
order_alike c found explain n s (Ok (order.Record at)) = record-alike c found explain n (record_at s at)

line-alike : (c : Card) (found explain : Bool) (n : ℕ) (s : List ℕ) → Right c found → Alike (reply_to_line c found explain n s) (checked_line c explain n s)
unfolding reply_to_line checked_line
line-alike c found explain n s h = rw (orders-agree c found explain n s (order_of s) h) (order_alike c found explain n s (order_of s))

line-flag : (c : Card) (found explain : Bool) (n : ℕ) (s : List ℕ) → Right c found → Right (reply_to_line c found explain n s).card (reply_to_line c found explain n s).sound
unfolding reply_to_line
line-flag c found explain n s h = rw (orders-agree c found explain n s (order_of s) h) (order-flag c found explain n s (order_of s) h)

-- a script
scripts-agree : (keep : ℕ → Bool) (c : Card) (found explain : Bool) (n : ℕ) (lines : List (List ℕ)) → Right c found → script_of keep c found explain n lines ≡ checked_script c explain n lines
unfolding script_of checked_script
scripts-agree keep c found explain n [] h = refl
scripts-agree keep c found explain n (s ∷ rest) h =
    let k : Right c (keep n && found) = λ z. h (and_r (keep n) found z) in
    let x = reply_to_line c (keep n && found) explain n s in
    let e = line-alike c (keep n && found) explain n s k in
    ap (λ (t : List ℕ). x.text ++ cond x.goes t []) (scripts-agree keep x.card x.sound explain (suc n) rest (line-flag c (keep n && found) explain n s k))
    ∙ rw (e.same_text, e.same-goes, e.same-card)

pub asked-once : CheckedOnce
asked-once keep explain lines = scripts-agree keep zero_card false explain 1 lines (λ z. absurd (false≢true z))
