-- What is written to the front of a buffer is read back from it whole: the bytes of a word, or of two one after the other, and a
-- response, which fits in the buffer lent to the call, as the manager promises. Assumes nothing.
use Prim.Native.Nat.{ℕ, ◌+◌, ◌-◌, ◌*◌, ◌≤◌}
use mathlib.Core.Path.{◌≡◌, sym, ap, ◌∙◌, subst}
use mathlib.Core.List.{List, ◌++◌, append_assoc}
use mathlib.Core.Bool.{Bool, true}
use native.Mathlib.Omega.{arith}
use lib.ListN.{length, take, drop, take-append-drop, length-append, length-drop}
use lib.Seq.{take-append_seam, drop-append_seam, drop-append-le, drop-drop, take_all, length-take-le}
use Rattle.base_bytes.specs.Put.{put, Wrote}
use Rattle.base_bytes.proofs.PutLaws.{put_front, length-put, wrote_as}
use Rattle.card_record.specs.Answers.{Outcome, as_answer}
use Rattle.card_record.specs.declared.Card.{Card}
use Rattle.card_record.specs.declared.Answer.{Answer}
use Rattle.base_bytes.specs.declared.Part.{Part}
use Rattle.base_bytes.specs.Bytes.{part_of}
use Rattle.rule_run.specs.Calls.{Call.PolicyUpdate}
use Rattle.record_door.specs.Door.{call_of}
use Rattle.record_door.specs.Door.{Served}
use Rattle.record_door.specs.declared.Call as declared
use Rattle.record_door.specs.declared.Call.TheVariants as code
use Rattle.script_answer.specs.Explained.{most_explained}
use Rattle.script_line.specs.Orders.{most_buffer}
use Rattle.script_reply.specs.Replies.{spelled_bytes, bytes_in, call_spelled, answer_text, reply_of, answer_to, most_text}
use Rattle.script_session.specs.Session.{LaidOut, Replied}
use Rattle.script_session.specs.declared.Turn.{Turn}

-- read back
taken-put : (l vs : List ℕ) → length vs ≤ length l → take (length vs) (put l 0 vs) ≡ vs
taken-put l vs h = ap (take (length vs)) (put_front l vs h) ∙ take-append_seam vs (drop (length vs) l)

pub front-is : {m vs : List ℕ} {p : Part} (l : List ℕ) → length vs ≤ length l → p ≡ record { start = 0; len = length vs } → m ≡ put l 0 vs → part_of m p ≡ vs
front-is {vs = vs} l h e f = rw (e, f) (taken-put l vs h)

-- written to the front of a buffer, or to the front of its front
front-put : (l vs : List ℕ) (n : ℕ) → n ≤ length l → length vs ≤ n → put (take n l) 0 vs ++ drop n l ≡ put l 0 vs
front-put l vs n h k =
    let m = length-take-le n l h in
    let i : length vs ≤ length (take n l) = omega arith in
    let j : length vs ≤ length l = omega arith in
    ap (λ (x : List ℕ). x ++ drop n l) (put_front (take n l) vs i)
    ∙ append_assoc vs (drop (length vs) (take n l)) (drop n l)
    ∙ ap (λ (x : List ℕ). vs ++ x) (sym (drop-append-le (length vs) (take n l) (drop n l) i) ∙ ap (drop (length vs)) (take-append-drop n l))
    ∙ sym (put_front l vs j)

-- a call known to be another
pub still-fits : (l s : List ℕ) {x y : declared.Call} → x ≡ y → length (bytes_in s x) ≤ length l → length (bytes_in s y) ≤ length l
still-fits l s e h = subst (λ (z : declared.Call). length (bytes_in s z) ≤ length l) e h

-- two byte strings, one after the other
module _ (l us vs : List ℕ) (h : length (us ++ vs) ≤ length l) where
  two-fit : length us + length vs ≤ length l
  two-fit = rw (length-append us vs) at h

  two-are : put l 0 (us ++ vs) ≡ us ++ (vs ++ drop (length (us ++ vs)) l)
  two-are = put_front l (us ++ vs) h ∙ append_assoc us vs (drop (length (us ++ vs)) l)

  first_fits : length us ≤ length l
  first_fits = let k = two-fit in omega arith

  first-left : put l 0 us ≡ us ++ drop (length us) l
  first-left = put_front l us first_fits

  second_fits : length vs ≤ length (drop (length us) (put l 0 us))
  second_fits = let k = two-fit in rw (first-left, drop-append_seam us (drop (length us) l), length-drop (length us) l) (omega arith)

  two-left : take (length us) (put l 0 us) ++ put (drop (length us) (put l 0 us)) 0 vs ≡ put l 0 (us ++ vs)
  two-left =
      let rest = drop (length us) l in
      let k = two-fit in
      let fits : length vs ≤ length rest = rw (length-drop (length us) l) (omega arith) in
      let past : drop (length vs) rest ≡ drop (length (us ++ vs)) l = drop-drop (length vs) (length us) l ∙ ap (λ (n : ℕ). drop n l) (sym (length-append us vs)) in
      ap (λ (x : List ℕ). take (length us) x ++ put (drop (length us) x) 0 vs) first-left
      ∙ rw (take-append_seam us rest, drop-append_seam us rest, put_front rest vs fits, past) (sym two-are)

  first-is : part_of (put l 0 (us ++ vs)) (record { start = 0; len = length us }) ≡ us
  first-is = rw two-are (take-append_seam us (vs ++ drop (length (us ++ vs)) l))

  second_is : part_of (put l 0 (us ++ vs)) (record { start = length us; len = length vs }) ≡ vs
  second_is =
      ap (λ (x : List ℕ). take (length vs) (drop (length us) x)) two-are
      ∙ ap (take (length vs)) (drop-append_seam us (vs ++ drop (length (us ++ vs)) l))
      ∙ take-append_seam vs (drop (length (us ++ vs)) l)

-- a policy update, whose command is spelled into what is left of the buffer after its speaker
pub speaker-fits : (l s : List ℕ) (speaker bytes : Part) → length (bytes_in s (code.PolicyUpdate speaker bytes)) ≤ length l → length (spelled_bytes s speaker) ≤ length l
speaker-fits l s speaker bytes h = first_fits l (spelled_bytes s speaker) (spelled_bytes s bytes) h

module _ (l s : List ℕ) (speaker bytes : Part) (h : length (bytes_in s (code.PolicyUpdate speaker bytes)) ≤ length l)
    {m : List ℕ} {p : Part} (e : p ≡ record { start = 0; len = length (spelled_bytes s speaker) }) (f : m ≡ put l 0 (spelled_bytes s speaker)) where
  pub left-starts : p.len ≤ length m
  left-starts = rw (e, f, length-put l 0 (spelled_bytes s speaker)) (speaker-fits l s speaker bytes h)

  left : take (length m - p.len) (drop p.len m) ≡ drop p.len m
  left = take_all (length m - p.len) (drop p.len m) (rw (length-drop p.len m) (omega arith))

  pub left-fits : length (spelled_bytes s bytes) ≤ length (take (length m - p.len) (drop p.len m))
  left-fits = rw (left, e, f) (second_fits l (spelled_bytes s speaker) (spelled_bytes s bytes) h)

  module _ {t : List ℕ} {q : Part} (i : q ≡ record { start = 0; len = length (spelled_bytes s bytes) }) (j : t ≡ put (take (length m - p.len) (drop p.len m)) 0 (spelled_bytes s bytes)) where
    both_left : take p.len m ++ (t ++ drop (length m - p.len) (drop p.len m)) ≡ put l 0 (spelled_bytes s speaker ++ spelled_bytes s bytes)
    both_left =
        let n = length-drop p.len m in
        let k : length (spelled_bytes s bytes) ≤ length (drop p.len m) = rw (← left) left-fits in
        ap (λ (x : List ℕ). take p.len m ++ (x ++ drop (length m - p.len) (drop p.len m))) j
        ∙ ap (λ (x : List ℕ). take p.len m ++ x) (front-put (drop p.len m) (spelled_bytes s bytes) (length m - p.len) (omega arith) (omega arith))
        ∙ rw (e, f) (two-left l (spelled_bytes s speaker) (spelled_bytes s bytes) h)

    pub update-laid : LaidOut l s (code.PolicyUpdate speaker bytes) (code.PolicyUpdate p (record { start = p.len; len = q.len })) (take p.len m ++ (t ++ drop (length m - p.len) (drop p.len m)))
    update-laid =
        let us = spelled_bytes s speaker in
        let vs = spelled_bytes s bytes in
        record {
          same-call = λ room.
              ap (λ (x : List ℕ). call_of x room (code.PolicyUpdate p (record { start = p.len; len = q.len }))) both_left
              ∙ rw (e, i) (ap (λ (x : List ℕ). PolicyUpdate x (part_of (put l 0 (us ++ vs)) (record { start = length us; len = length vs })) room) (first-is l us vs h) ∙ ap (λ (x : List ℕ). PolicyUpdate us x room) (second_is l us vs h));
          content = both_left;
        }

-- a call over its bytes, and its response in the first bytes of the buffer lent
module _ (found : Bool) (c : Card) (s : List ℕ) (x : declared.Call) (room : ℕ) (old : List ℕ) {l t new : List ℕ} {y : declared.Call} {r : Answer}
    (h : Served (take room old) (answer_to found c (call_of t (length (take room old)) y)) r new) (lies : LaidOut l s x y t)
    (size : length old ≡ most_buffer) (small : room ≤ most_buffer) where
  lent : length (take room old) ≡ room
  lent = length-take-le room old (omega arith)

  as-asked : answer_to found c (call_of t (length (take room old)) y) ≡ answer_to found c (call_spelled s room x)
  as-asked = ap (λ (k : ℕ). answer_to found c (call_of t k y)) lent ∙ ap (answer_to found c) (lies.same-call room)

  pub answer-is : r ≡ as_answer (answer_to found c (call_spelled s room x))
  answer-is = h.0.answer ∙ ap as_answer as-asked

  fits : length (answer_to found c (call_spelled s room x)).response ≤ room
  fits = let k = h.1 in let e = ap (λ (a : Answer). a.length) answer-is in let m = lent in omega arith

  new_is : new ≡ put (take room old) 0 (answer_to found c (call_spelled s room x)).response
  new_is = h.0.content ∙ ap (λ (o : Outcome). put (take room old) 0 o.response) as-asked

  pub response-left : new ++ drop room old ≡ put old 0 (answer_to found c (call_spelled s room x)).response
  response-left =
      ap (λ (y : List ℕ). y ++ drop room old) new_is
      ∙ front-put old (answer_to found c (call_spelled s room x)).response room (omega arith) fits

  pub response-is : take r.length (new ++ drop room old) ≡ (answer_to found c (call_spelled s room x)).response
  response-is =
      ap (λ (a : Answer). take a.length (new ++ drop room old)) answer-is
      ∙ ap (take (length (answer_to found c (call_spelled s room x)).response)) response-left
      ∙ taken-put old (answer_to found c (call_spelled s room x)).response (let k = fits in omega arith)

  pub response-size : r.length ≡ length (take r.length (new ++ drop room old))
  response-size = ap (λ (a : Answer). a.length) answer-is ∙ sym (ap length response-is)

  pub response-fits : r.length ≤ length (new ++ drop room old)
  response-fits =
      let e = ap (λ (a : Answer). a.length) answer-is in
      let k = fits in
      rw (response-left, length-put old 0 (answer_to found c (call_spelled s room x)).response) (omega arith)

  -- so that its line is within the longest
  pub text-short : (long : ℕ) → long ≤ length (take r.length (new ++ drop room old)) * 2 + most_explained → long ≤ most_text
  text-short long k =
      let n = response-size in
      let e = ap (λ (a : Answer). a.length) answer-is in
      let f = fits in
      omega arith

-- what was written is the outcome's reply
pub replied : {old new rsp : List ℕ} {at : ℕ} {r : Turn} {a : Answer} (explain found : Bool) (bytes : List ℕ) (o : Outcome) → a ≡ as_answer o → rsp ≡ o.response → r.card ≡ a.card
    → r.sound ≡ found → r.goes ≡ true → Wrote old at (answer_text explain a rsp) r.filled new → length (answer_text explain a rsp) ≤ most_text → Replied old at (reply_of explain found bytes o) r new
replied {rsp = rsp} explain found bytes o e f p q g w k =
    let z = ap (λ (x : Answer). answer_text explain x rsp) e ∙ ap (answer_text explain (as_answer o)) f in
    record {
      same-card = p ∙ ap (λ (x : Answer). x.card) e;
      same-sound = q;
      same-goes = g;
      wrote = wrote_as _ z w;
      short = subst (λ (x : List ℕ). length x ≤ most_text) z k;
    }
