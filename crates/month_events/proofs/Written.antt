-- A body that is written is read as the events that were written: by induction over the events, each of which is the first of the body
-- that it begins (`begun`). A body that is right was so written: by induction over its length, since its first event written is its beginning.
use Prim.Native.Nat.{ℕ, zero, suc, ◌+◌, ◌*◌, ◌/◌, ◌%◌, ◌≤◌, ◌<◌}
use mathlib.Core.Path.{◌≡◌, refl, sym, ap, subst, ◌∙◌}
use mathlib.Core.List.{List, [], ◌∷◌, ◌++◌}
use mathlib.Core.Bool.{false, false≢true}
use native.Mathlib.Omega.{arith}
use lib.ListN.{length, take, drop, length-append, length-take, length-drop, take-append-drop, get_or-eq_default}
use lib.Seq.{take_at, drop_at, drop-drop, get_or-take, get_or-drop, length-take-le}
use Rattle.base_bytes.specs.Bytes.{pair_at}
use Rattle.base_choice.specs.Choice.{pick}
use Rattle.base_choice.proofs.Branches.{on-lt}
use Rattle.read_tlv.specs.Encoding.{Bytes}
use Rattle.month_events.specs.Events.{Event, first_stop, first_event, events_of, cut_short, some_event, of_unknown_kind, of_wrong_length, kind_unknown, wrong_length, checked_of}
use Rattle.month_events.specs.Written.{encode_event, encode_events, Writable, AllWritable, EventsBack, EventsWritten}
use Rattle.month_events.proofs.Numbers.{kinds-in-numbers}
use Rattle.month_events.proofs.Turns.{cut-none, events-none, cut-here, cut_on, events-on, none_first, right-tests}

-- a body that begins with a written event
module _ (e : Event) (r : List ℕ) where
  abbrev begun : List ℕ
  begun = encode_event e ++ r

  begun-stop : first_stop begun ≡ 3 + length e.bytes
  begun-stop = omega arith

  begun-length : length begun ≡ 3 + length e.bytes + length r
  begun-length = omega (arith, length-append e.bytes r)

  begun-event : first_event begun ≡ e
  begun-event =
      let n : pair_at begun 1 ≡ length e.bytes = omega arith in
      ap (λ (k : ℕ). record { kind = e.kind; bytes = take k (e.bytes ++ r) }) n
      ∙ ap (λ (l : List ℕ). record { kind = e.kind; bytes = l }) (take_at e.bytes r (length e.bytes) refl)

  begun-rest : drop (first_stop begun) begun ≡ r
  begun-rest =
      ap (λ (k : ℕ). drop k begun) begun-stop
      ∙ sym (drop-drop (length e.bytes) 3 begun)
      ∙ drop_at e.bytes r (length e.bytes) refl

  pub begun-events : events_of begun ≡ e ∷ events_of r
  begun-events =
      let s = begun-stop in
      let l = begun-length in
      events-on begun (omega arith) (omega arith)
      ∙ ap (λ (f : Event). f ∷ events_of (drop (first_stop begun) begun)) begun-event
      ∙ ap (λ (b : List ℕ). e ∷ events_of b) begun-rest

  pub begun-cut : cut_short begun ≡ cut_short r
  begun-cut =
      let s = begun-stop in
      let l = begun-length in
      cut_on begun (omega arith) (omega arith) ∙ ap cut_short begun-rest

-- the whole body: the events, and the three tests
pub written-events : (es : List Event) → events_of (encode_events es) ≡ es
unfolding encode_events
written-events [] = events-none
written-events (e ∷ es) = begun-events e (encode_events es) ∙ ap (λ (l : List Event). e ∷ l) (written-events es)

written-whole : (es : List Event) → cut_short (encode_events es) ≡ false
unfolding encode_events
written-whole [] = cut-none
written-whole (e ∷ es) = begun-cut e (encode_events es) ∙ written-whole es

known-all : (es : List Event) → AllWritable es → some_event of_unknown_kind es ≡ false
unfolding some_event
known-all [] p = refl
known-all (e ∷ es) p = rw (kinds-in-numbers.known e p.0.least p.0.most) (known-all es p.1)

right-all : (es : List Event) → AllWritable es → some_event of_wrong_length es ≡ false
unfolding some_event
right-all [] p = refl
right-all (e ∷ es) p = rw (kinds-in-numbers.right e p.0.right) (right-all es p.1)

pub events-back : EventsBack
unfolding checked_of kind_unknown wrong_length pick
events-back es p =
    let e = written-events es in
    (rw (written-whole es, e, known-all es p, right-all es p), e)

-- the first event of a body that is not cut, written, is how the body begins
ends-in : (b : List ℕ) → Bytes b → 0 < length b → first_stop b ≤ length b → encode_event (first_event b) ++ drop (first_stop b) b ≡ b
ends-in [] w h k = absurd (omega arith)
ends-in (x ∷ []) w h k = absurd (omega arith)
ends-in (x ∷ y ∷ []) w h k = absurd (omega arith)
ends-in (x ∷ y ∷ z ∷ r) w h k =
    let n = y * 256 + z in
    let l : length (take n r) ≡ n = length-take-le n r (omega arith) in
    let small : z < 256 = w 2 in
    let high : length (take n r) / 256 ≡ y = omega arith in
    let low : length (take n r) % 256 ≡ z = omega arith in
    ap (λ (t : List ℕ). x ∷ length (take n r) / 256 ∷ length (take n r) % 256 ∷ (take n r ++ t)) (sym (drop-drop n 3 (x ∷ y ∷ z ∷ r)))
    ∙ ap (λ (t : List ℕ). x ∷ length (take n r) / 256 ∷ length (take n r) % 256 ∷ t) (take-append-drop n r)
    ∙ ap (λ (v : ℕ). x ∷ v ∷ length (take n r) % 256 ∷ r) high
    ∙ ap (λ (v : ℕ). x ∷ y ∷ v ∷ r) low

pub bytes_drop : (n : ℕ) (b : List ℕ) → Bytes b → Bytes (drop n b)
bytes_drop n b w i = let e = get_or-drop n b i 0 in let h = w (n + i) in omega arith

pub bytes_take : (n : ℕ) (b : List ℕ) → Bytes b → Bytes (take n b)
bytes_take n b w i =
    on-lt i n
    (λ h. let e = get_or-take n b i 0 h in let k = w i in omega arith)
    (λ h. let e = get_or-eq_default (take n b) 0 {n = i} (omega (arith, length-take n b)) in omega arith)

-- none of the tests holds of the events of a body
record Sound (b : List ℕ) : Type 0 where
  whole : cut_short b ≡ false
  known : some_event of_unknown_kind (events_of b) ≡ false
  right : some_event of_wrong_length (events_of b) ≡ false

abbrev WrittenSo : List ℕ → Type 0
WrittenSo b = (encode_events (events_of b) ≡ b) × AllWritable (events_of b)

module _ (b : List ℕ) (w : Bytes b) (h : 0 < length b) (k : first_stop b ≤ length b) where
  first-length : length (first_event b).bytes ≡ pair_at b 1
  first-length = length-take-le (pair_at b 1) (drop 3 b) (omega (arith, length-drop 3 b))

  first-writable : of_unknown_kind (first_event b) ≡ false → of_wrong_length (first_event b) ≡ false → Writable (first_event b)
  first-writable p q =
      let l = first-length in
      let y = w 1 in
      let z = w 2 in
      let known = kinds-in-numbers.only-known (first_event b) p in
      record {
        least = known.0;
        most = known.1;
        right = kinds-in-numbers.only-right (first_event b) q;
        short = omega arith;
        octets = bytes_take (pair_at b 1) (drop 3 b) (bytes_drop 3 b w);
      }

  first-sound : Sound b → Sound (drop (first_stop b) b)
  first-sound s =
      let e = events-on b h k in
      record {
        whole = sym (cut_on b h k) ∙ s.whole;
        known = (none_first of_unknown_kind b (first_event b) (drop (first_stop b) b) e s.known).1;
        right = (none_first of_wrong_length b (first_event b) (drop (first_stop b) b) e s.right).1;
      }

  written_on : Sound b → WrittenSo (drop (first_stop b) b) → WrittenSo b
  unfolding encode_events
  written_on s r =
      let e = events-on b h k in
      let p = (none_first of_unknown_kind b (first_event b) (drop (first_stop b) b) e s.known).0 in
      let q = (none_first of_wrong_length b (first_event b) (drop (first_stop b) b) e s.right).0 in (
        ap encode_events e ∙ ap (λ (l : List ℕ). encode_event (first_event b) ++ l) r.0 ∙ ends-in b w h k,
        subst AllWritable (sym e) (first-writable p q, r.1),
      )

none_written : WrittenSo []
unfolding encode_events
none_written = subst (λ (es : List Event). (encode_events es ≡ []) × AllWritable es) (sym events-none) (refl, tt)

written-within : (n : ℕ) (b : List ℕ) → length b ≤ n → Bytes b → Sound b → WrittenSo b
written-within zero [] l w s = none_written
written-within zero (x ∷ b) l w s = absurd (omega arith)
written-within (suc n) [] l w s = none_written
written-within (suc n) (x ∷ b) l w s =
    let c = x ∷ b in
    let h : 0 < length c = omega arith in
    on-lt (length c) (first_stop c)
    (λ k. absurd (false≢true (sym s.whole ∙ cut-here c h k)))
    (λ k.
    let r = drop (first_stop c) c in
    written_on c w h k s (written-within n r (omega (arith, length-drop (first_stop c) c)) (bytes_drop (first_stop c) c w) (first-sound c w h k s)))

pub events-written : EventsWritten
unfolding checked_of kind_unknown wrong_length
events-written b w p =
    let t = right-tests (cut_short b) (kind_unknown b) (wrong_length b) p in
    written-within (length b) b (omega arith) w (record { whole = t.0; known = t.1.0; right = t.1.1 })
