-- One turn of a walk over the events of a body, and its end. The walks of the definition count their steps; any count that is no less than the
-- body's length gives the same (`same-within`), so that the events from a place on are one event and the events from where it stops.
use Prim.Native.Nat.{ℕ, zero, suc, ◌+◌, ◌-◌, ◌≤◌, ◌<◌}
use mathlib.Core.Path.{◌≡◌, refl, sym, ap, subst, ◌∙◌}
use mathlib.Core.List.{List, [], ◌∷◌}
use Rattle.std.specs.Prelude.{Some, None, Result, Ok, Err}
use mathlib.Core.Bool.{Bool, true, false, ◌||◌, false≢true, or-true, or-false, or_assoc}
use native.Mathlib.Nat.{add-zero}
use native.Mathlib.Omega.{arith}
use lib.ListN.{length, take, drop, length-take, length-drop, drop_of_length-le}
use lib.Seq.{get_or-drop, get_or-take, drop-drop, take-take}
use lib.Dec.{ltb}
use borrow.Author.Tests.{lt-ltb, le-ltb, ltb-false}
use Rattle.base_bytes.specs.Bytes.{byte, pair_at, four_at}
use Rattle.std.proofs.lemmas.List.{drop-take}
use Rattle.std.proofs.lemmas.Bool.{or_parts}
use Rattle.base_choice.specs.Choice.{pick}
use Rattle.base_choice.proofs.Branches.{on-lt}
use Rattle.record_door.specs.Door as door
use Rattle.rule_run.specs.Table.{least_buffer}
use Rattle.record_door.specs.declared.Call.{Call}
use Rattle.month_events.specs.Kinds.{kind_of, is_unknown, speaker_size, event_length_wrong, call_for}
use Rattle.month_events.specs.Events.{Event, head_size, first_stop, first_event, events_within, events_of, cut_within, cut_short, some_event, of_unknown_kind, of_wrong_length, kind_unknown, wrong_length, checked_of, call_of_event, call_over, stop_of, next_event}
use Rattle.month_events.specs.declared.Kind.{Kind}
use Rattle.month_events.specs.declared.Kind.TheVariants as kind
use Rattle.month_events.specs.declared.NoKind.{NoKind}
use Rattle.month_events.specs.declared.EventsWrong.{EventsWrong}
use Rattle.month_events.specs.declared.EventsWrong.TheVariants.{CutShort, UnknownKind, WrongLength}
use Rattle.month_events.specs.declared.Next.{Next}

abbrev Same : ℕ → ℕ → List ℕ → Type 0
Same m n b = (events_within m b ≡ events_within n b) × (cut_within m b ≡ cut_within n b)

same-within : (m n : ℕ) (b : List ℕ) → length b ≤ m → length b ≤ n → Same m n b
unfolding events_within cut_within
same-within zero zero b h k = (refl, refl)
same-within zero (suc n) [] h k = (refl, refl)
same-within zero (suc n) (x ∷ b) h k = absurd (omega arith)
same-within (suc m) zero [] h k = (refl, refl)
same-within (suc m) zero (x ∷ b) h k = absurd (omega arith)
same-within (suc m) (suc n) [] h k = (refl, refl)
same-within (suc m) (suc n) (x ∷ b) h k =
    let e = length-drop (first_stop (x ∷ b)) (x ∷ b) in
    let r = same-within m n (drop (first_stop (x ∷ b)) (x ∷ b)) (omega arith) (omega arith) in
    (rw r.0, rw r.1)

same_rest : (x : ℕ) (b : List ℕ) → let r = drop (first_stop (x ∷ b)) (x ∷ b) in Same (length b) (length r) r
same_rest x b =
    let r = drop (first_stop (x ∷ b)) (x ∷ b) in
    let e = length-drop (first_stop (x ∷ b)) (x ∷ b) in
    same-within (length b) (length r) r (omega arith) (omega arith)

-- an empty body
pub events-none : events_of [] ≡ []
unfolding events_of events_within
events-none = refl

pub cut-none : cut_short [] ≡ false
unfolding cut_short cut_within
cut-none = refl

-- a body that is not: its first event is cut, or the rest begins where it stops
pub cut-here : (b : List ℕ) → 0 < length b → length b < first_stop b → cut_short b ≡ true
unfolding cut_short cut_within
cut-here [] h k = absurd (omega arith)
cut-here (x ∷ b) h k = rw (lt-ltb (length (x ∷ b)) (first_stop (x ∷ b)) k)

pub cut_on : (b : List ℕ) → 0 < length b → first_stop b ≤ length b → cut_short b ≡ cut_short (drop (first_stop b) b)
unfolding cut_short cut_within
cut_on [] h k = absurd (omega arith)
cut_on (x ∷ b) h k =
    rw (le-ltb (length (x ∷ b)) (first_stop (x ∷ b)) k) (same_rest x b).1

pub events-on : (b : List ℕ) → 0 < length b → first_stop b ≤ length b → events_of b ≡ first_event b ∷ events_of (drop (first_stop b) b)
unfolding events_of events_within
events-on [] h k = absurd (omega arith)
events-on (x ∷ b) h k =
    rw (le-ltb (length (x ∷ b)) (first_stop (x ∷ b)) k) (ap (λ (es : List Event). first_event (x ∷ b) ∷ es) (same_rest x b).0)

-- the event at a place, read from the body that it stands in
abbrev pub event_at : List ℕ → ℕ → Event
event_at b at = record { kind = byte b at; bytes = take (pair_at b (at + 1)) (drop (at + head_size) b) }

module _ (b : List ℕ) (at : ℕ) where
  pair-from : pair_at (drop at b) 1 ≡ pair_at b (at + 1)
  pair-from =
      let e : at + 1 + 1 ≡ at + 2 = omega arith in
      rw (get_or-drop at b 1 0, get_or-drop at b 2 0, e)

  stop-from : at + first_stop (drop at b) ≡ stop_of b at
  stop-from = ap (λ (n : ℕ). at + (head_size + n)) pair-from

  rest_from : drop (first_stop (drop at b)) (drop at b) ≡ drop (stop_of b at) b
  rest_from = drop-drop (first_stop (drop at b)) at b ∙ ap (λ (n : ℕ). drop n b) stop-from

  event-from : first_event (drop at b) ≡ event_at b at
  event-from =
      let k : byte (drop at b) 0 ≡ byte b at = get_or-drop at b 0 0 ∙ ap (byte b) (add-zero at) in
      ap (λ (n : ℕ). record { kind = n; bytes = take (pair_at (drop at b) 1) (drop head_size (drop at b)) }) k
      ∙ ap (λ (n : ℕ). record { kind = byte b at; bytes = take n (drop head_size (drop at b)) }) pair-from
      ∙ ap (λ (l : List ℕ). record { kind = byte b at; bytes = take (pair_at b (at + 1)) l }) (drop-drop head_size at b)

  -- its bytes stand from its head to where it stops
  bytes-from : (event_at b at).bytes ≡ take (stop_of b at - (at + head_size)) (drop (at + head_size) b)
  bytes-from =
      let n : pair_at b (at + 1) ≡ stop_of b at - (at + head_size) = omega arith in
      ap (λ (k : ℕ). take k (drop (at + head_size) b)) n

module _ (b : List ℕ) (at : ℕ) (h : at < length b) where
  pub turn-cut : length b < stop_of b at → cut_short (drop at b) ≡ true
  turn-cut k =
      let l = length-drop at b in
      let e = stop-from b at in
      cut-here (drop at b) (omega arith) (omega arith)

  pub turn-whole : stop_of b at ≤ length b → cut_short (drop at b) ≡ cut_short (drop (stop_of b at) b)
  turn-whole k =
      let l = length-drop at b in
      let e = stop-from b at in
      cut_on (drop at b) (omega arith) (omega arith) ∙ ap cut_short (rest_from b at)

  pub turn-events : stop_of b at ≤ length b → events_of (drop at b) ≡ event_at b at ∷ events_of (drop (stop_of b at) b)
  turn-events k =
      let l = length-drop at b in
      let e = stop-from b at in
      events-on (drop at b) (omega arith) (omega arith)
      ∙ ap (λ (f : Event). f ∷ events_of (drop (first_stop (drop at b)) (drop at b))) (event-from b at)
      ∙ ap (λ (r : List ℕ). event_at b at ∷ events_of r) (rest_from b at)

-- at the end
pub events-end : (b : List ℕ) (at : ℕ) → length b ≤ at → events_of (drop at b) ≡ []
events-end b at h = ap events_of (drop_of_length-le b h) ∙ events-none

pub cut-end : (b : List ℕ) (at : ℕ) → length b ≤ at → cut_short (drop at b) ≡ false
cut-end b at h = ap cut_short (drop_of_length-le b h) ∙ cut-none

-- the bytes of an event, and of the rest of them, are those of the body
module _ (b : List ℕ) (from n : ℕ) where
  byte-in : (i : ℕ) → i < n → byte b (from + i) ≡ byte (take n (drop from b)) i
  byte-in i h = sym (get_or-take n (drop from b) i 0 h ∙ get_or-drop from b i 0)

  part_in : (k : ℕ) → k ≤ n → take (from + n - (from + k)) (drop (from + k) b) ≡ drop k (take n (drop from b))
  part_in k h =
      let e : from + n - (from + k) ≡ n - k = omega arith in
      let f : n ≡ k + (n - k) = omega arith in
      ap (λ (m : ℕ). take m (drop (from + k) b)) e
      ∙ ap (take (n - k)) (sym (drop-drop k from b))
      ∙ sym (drop-take k (n - k) (drop from b))
      ∙ ap (λ (m : ℕ). drop k (take m (drop from b))) (sym f)

  -- a part that does not run past them
  part-within : (k m : ℕ) → k + m ≤ n → take (from + (k + m) - (from + k)) (drop (from + k) b) ≡ take m (drop k (take n (drop from b)))
  part-within k m h =
      let e : from + (k + m) - (from + k) ≡ m = omega arith in
      ap (λ (x : ℕ). take x (drop (from + k) b)) e
      ∙ sym (take-take m (from + n - (from + k)) (drop (from + k) b) (omega arith))
      ∙ ap (take m) (part_in k (omega arith))

  byte-first : 0 < n → byte b from ≡ byte (take n (drop from b)) 0
  byte-first h = ap (byte b) (sym (add-zero from)) ∙ byte-in 0 h

  four-in : 4 ≤ n → four_at b from ≡ four_at (take n (drop from b)) 0
  four-in h =
      let e : from + 2 + 1 ≡ from + 3 = omega arith in
      rw (e, byte-first (omega arith), byte-in 1 (omega arith), byte-in 2 (omega arith), byte-in 3 (omega arith))

  -- so many bytes are in the body, where the event has them
  least : (m : ℕ) → ltb (length (take n (drop from b))) m ≡ false → m ≤ n
  least m e =
      let h = ltb-false (length (take n (drop from b))) m e in
      omega (arith, length-take n (drop from b))

  -- the call over the body is the call of the event's bytes, where these are neither too few nor too many
  pub call-in : (k : Result Kind NoKind) → event_length_wrong k (take n (drop from b)) ≡ false → door.call_of b least_buffer (call_over b k from (from + n)) ≡ call_for k (take n (drop from b))
  call-in (Ok kind.Command) e =
      let h = least 1 e in
      rw (byte-first (omega arith), part_in 1 (omega arith))
  call-in (Ok kind.Keyed) e =
      let f : from + n - from ≡ n = omega arith in
      rw f
  call-in (Ok kind.Stored) e =
      let h = least 4 e in
      rw (four-in (omega arith), part_in 4 (omega arith))
  call-in (Ok kind.Finished) e =
      let h = least 1 e in
      rw (byte-first (omega arith), part_in 1 (omega arith))
  call-in (Ok kind.Tick) e = refl
  call-in (Ok kind.Lost) e = refl
  call-in (Ok kind.FinishedWithMark) e =
      let h = least 2 e in
      rw (byte-first (omega arith), byte-in 1 (omega arith), part_in 2 (omega arith))
  call-in (Ok kind.Policy) e =
      let m = byte (take n (drop from b)) 0 in
      let h = least (speaker_size (take n (drop from b)) 0) e in
      rw (byte-first (omega arith), part-within 1 m (omega arith), part_in (1 + m) (omega arith))
  call-in (Err x) e = refl

-- from this place on no event is cut, and none has a wrong length
pub record RightFrom (b : List ℕ) (at : ℕ) : Type 0 where
  pub whole : cut_short (drop at b) ≡ false
  pub lengths : wrong_length (drop at b) ≡ false

-- what the event at a place is: the first of those from there on, and those after it begin where it stops
pub record Turn (b : List ℕ) (at : ℕ) (call : Call) (stop : ℕ) : Type 0 where
  pub event : Event
  pub begins : at < length b
  pub goes : at + head_size ≤ stop
  pub inside : stop ≤ length b
  pub events : events_of (drop at b) ≡ event ∷ events_of (drop stop b)
  pub asks : door.call_of b least_buffer call ≡ call_of_event event
  pub rest : RightFrom b stop

-- a test of all events is one of the first and one of the others
module _ (t : Event → Bool) (b : List ℕ) (e : Event) (r : List ℕ) (p : events_of b ≡ e ∷ events_of r) where
  pub some_first : some_event t (events_of b) ≡ (t e || some_event t (events_of r))
  unfolding some_event
  some_first = ap (some_event t) p

  pub none_first : some_event t (events_of b) ≡ false → (t e ≡ false) × (some_event t (events_of r) ≡ false)
  none_first q = or_parts (t e) (some_event t (events_of r)) (sym some_first ∙ q)

-- the event at a place, where the body does not end within it
module _ (b : List ℕ) (at : ℕ) where
  abbrev call_at : Call
  call_at = call_over b (kind_of (byte b at)) (at + head_size) (stop_of b at)

  pub next-is : stop_of b at ≤ length b → next_event b at ≡ Some (record { call = call_at; stop = stop_of b at })
  unfolding next_event
  next-is h = rw (le-ltb (length b) (stop_of b at) h)

  pub next-ends : length b < stop_of b at → next_event b at ≡ None
  unfolding next_event
  next-ends h = rw (lt-ltb (length b) (stop_of b at) h)

  turn_at : stop_of b at ≤ length b → RightFrom b at → Turn b at call_at (stop_of b at)
  unfolding wrong_length
  turn_at h f =
      let n = pair_at b (at + 1) in
      let l : at < length b = omega arith in
      let g = none_first of_wrong_length (drop at b) (event_at b at) (drop (stop_of b at) b) (turn-events b at l h) f.lengths in
      let s : stop_of b at ≡ at + head_size + n = omega arith in
      record {
        event = event_at b at;
        begins = l;
        goes = omega arith;
        inside = h;
        events = turn-events b at l h;
        asks =
            ap (λ (k : ℕ). door.call_of b least_buffer (call_over b (kind_of (byte b at)) (at + head_size) k)) s
            ∙ call-in b (at + head_size) n (kind_of (byte b at)) g.0;
        rest = record { whole = sym (turn-whole b at l h) ∙ f.whole; lengths = g.1 };
      }

pub next-event : (b : List ℕ) (at : ℕ) (call : Call) (stop : ℕ) → RightFrom b at → next_event b at ≡ Some (record { call = call; stop = stop }) → Turn b at call stop
next-event b at call stop f p = on-lt (length b) (stop_of b at)
    (λ h. let q = next-ends b at h in let z : ◌≡◌ {A = ℕ} 0 1 = cc in absurd (omega arith))
    (λ h.
    let q = next-is b at h in
    let e : ◌≡◌ {A = Next} (record { call = call_at b at; stop = stop_of b at }) (record { call = call; stop = stop }) = cc in
    subst (Turn b at call) (ap (λ (x : Next). x.stop) e) (subst (λ (o : Call). Turn b at o (stop_of b at)) (ap (λ (x : Next). x.call) e) (turn_at b at h f)))

pub none_left : (b : List ℕ) (at : ℕ) → RightFrom b at → next_event b at ≡ None → events_of (drop at b) ≡ []
none_left b at f p = on-lt at (length b)
    (λ l. on-lt (length b) (stop_of b at)
    (λ h. absurd (false≢true (sym f.whole ∙ turn-cut b at l h)))
    (λ h. let q = next-is b at h in let z : ◌≡◌ {A = ℕ} 0 1 = cc in absurd (omega arith)))
    (λ l. events-end b at l)

-- the three tests in their order, once they are made
abbrev pub verdict : Bool → Bool → Bool → Result (Unit {0}) EventsWrong
verdict cut unknown wrong = pick cut (Err CutShort) (pick unknown (Err UnknownKind) (pick wrong (Err WrongLength) (Ok tt)))

pub right-tests : (cut unknown wrong : Bool) → verdict cut unknown wrong ≡ Ok tt → (cut ≡ false) × ((unknown ≡ false) × (wrong ≡ false))
unfolding pick
right-tests true unknown wrong p = let z : ◌≡◌ {A = ℕ} 0 1 = cc in absurd (omega arith)
right-tests false true wrong p = let z : ◌≡◌ {A = ℕ} 0 1 = cc in absurd (omega arith)
right-tests false false true p = let z : ◌≡◌ {A = ℕ} 0 1 = cc in absurd (omega arith)
right-tests false false false p = (refl, (refl, refl))

pub right-first : (b : List ℕ) → checked_of b ≡ Ok tt → RightFrom b 0
unfolding checked_of
right-first b p =
    let t = right-tests (cut_short b) (kind_unknown b) (wrong_length b) p in
    record { whole = t.0; lengths = t.1.1 }

-- the verdict of a walk that stands at a place: what it met before, and what comes from there on
unfoldable pub checked_from : List ℕ → ℕ → Bool → Bool → Result (Unit {0}) EventsWrong
checked_from b at unknown wrong = verdict (cut_short (drop at b)) (unknown || kind_unknown (drop at b)) (wrong || wrong_length (drop at b))

pub checked-first : (b : List ℕ) → checked_from b 0 false false ≡ checked_of b
unfolding checked_from checked_of
checked-first b = refl

module _ (b : List ℕ) (at : ℕ) (unknown wrong : Bool) where
  pub checked-cut : at < length b → length b < stop_of b at → checked_from b at unknown wrong ≡ Err CutShort
  unfolding checked_from pick
  checked-cut h k = rw (turn-cut b at h k)

  pub checked-end : length b ≤ at → checked_from b at unknown wrong ≡ verdict false unknown wrong
  unfolding checked_from kind_unknown wrong_length some_event
  checked-end h = rw (cut-end b at h, events-end b at h, or-false unknown, or-false wrong)

  some_turn : at < length b → stop_of b at ≤ length b → (t : Event → Bool)
      → some_event t (events_of (drop at b)) ≡ (t (event_at b at) || some_event t (events_of (drop (stop_of b at) b)))
  some_turn h k t = some_first t (drop at b) (event_at b at) (drop (stop_of b at) b) (turn-events b at h k)

  pub checked-on : at < length b → stop_of b at ≤ length b
      → checked_from b at unknown wrong
      ≡ checked_from b (stop_of b at) (unknown || is_unknown (kind_of (byte b at))) (wrong || event_length_wrong (kind_of (byte b at)) (take (stop_of b at - (at + head_size)) (drop (at + head_size) b)))
  unfolding checked_from kind_unknown wrong_length
  checked-on h k =
      let some = some_turn h k in
      rw (turn-whole b at h k, some of_unknown_kind, some of_wrong_length, bytes-from b at, or_assoc unknown, or_assoc wrong)

  module _ (h : at < length b) (l : stop_of b at ≤ length b) where
    -- an event of a kind in the table, and one of no kind
    pub checked-known : (k : Kind) → kind_of (byte b at) ≡ Ok k
        → checked_from b at unknown wrong
        ≡ checked_from b (stop_of b at) unknown (wrong || event_length_wrong (Ok k) (take (stop_of b at - (at + head_size)) (drop (at + head_size) b)))
    checked-known k e = checked-on h l ∙ rw (e, or-false unknown)

    pub checked-unknown : (x : NoKind) → kind_of (byte b at) ≡ Err x → checked_from b at unknown wrong ≡ checked_from b (stop_of b at) true wrong
    checked-unknown x e = checked-on h l ∙ rw (e, or-true unknown, or-false wrong)
