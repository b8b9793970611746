-- docs/EVENTS.md, 'The file': "events one after the other, to its end. An event is its kind (1 byte), the length of its bytes (2 bytes),
-- its bytes". The walks count their steps: no body has more events than bytes.
use Rattle.std.specs.Prelude.{ℕ, zero, suc, ◌+◌, List, [], ◌∷◌, Bool, true, false, cond, ◌||◌, length, take, drop, ltb, Option, Some, None, Result, Ok, Err}
use Rattle.base_bytes.specs.Bytes.{byte, pair_at, four_at, between}
use Rattle.base_choice.specs.Choice.{pick}
use Rattle.rule_run.specs.Calls as manager
use Rattle.record_door.specs.declared.Call as declared
use Rattle.record_door.specs.declared.Call.TheVariants as call
use Rattle.month_events.specs.Kinds.{kind_of, is_unknown, speaker_size, event_length_wrong, call_for}
use Rattle.month_events.specs.declared.Kind.{Kind}
use Rattle.month_events.specs.declared.Kind.TheVariants as kind
use Rattle.month_events.specs.declared.NoKind.{NoKind}
use Rattle.month_events.specs.declared.EventsWrong.{EventsWrong}
use Rattle.month_events.specs.declared.EventsWrong.TheVariants.{CutShort, UnknownKind, WrongLength}
use Rattle.month_events.specs.declared.Next.{Next}

pub record Event : Type 0 where
  pub kind : ℕ
  pub bytes : List ℕ

-- the bytes of kind and length
abbrev pub head_size : ℕ
head_size = 3

-- the first event of a body that is not empty: where it ends, whether the body ends within it, and the event itself
abbrev pub first_stop : List ℕ → ℕ
first_stop b = head_size + pair_at b 1

abbrev pub first_cut : List ℕ → Bool
first_cut b = ltb (length b) (first_stop b)

abbrev pub first_event : List ℕ → Event
first_event b = record { kind = byte b 0; bytes = take (pair_at b 1) (drop head_size b) }

-- the events of a body, up to its end or to the one that is cut
unfoldable pub events_within : ℕ → List ℕ → List Event
events_within zero b = []
events_within (suc n) [] = []
events_within (suc n) (x ∷ b) =
    cond (first_cut (x ∷ b)) [] (first_event (x ∷ b) ∷ events_within n (drop (first_stop (x ∷ b)) (x ∷ b)))

unfoldable pub events_of : List ℕ → List Event
events_of b = events_within (length b) b

-- "the events' body ends within an event"
unfoldable pub cut_within : ℕ → List ℕ → Bool
cut_within zero b = false
cut_within (suc n) [] = false
cut_within (suc n) (x ∷ b) = cond (first_cut (x ∷ b)) true (cut_within n (drop (first_stop (x ∷ b)) (x ∷ b)))

unfoldable pub cut_short : List ℕ → Bool
cut_short b = cut_within (length b) b

-- "some event has .."
unfoldable pub some_event : (Event → Bool) → List Event → Bool
some_event t [] = false
some_event t (e ∷ es) = t e || some_event t es

abbrev pub of_unknown_kind : Event → Bool
of_unknown_kind e = is_unknown (kind_of e.kind)

abbrev pub of_wrong_length : Event → Bool
of_wrong_length e = event_length_wrong (kind_of e.kind) e.bytes

unfoldable pub kind_unknown : List ℕ → Bool
kind_unknown b = some_event of_unknown_kind (events_of b)

unfoldable pub wrong_length : List ℕ → Bool
wrong_length b = some_event of_wrong_length (events_of b)

-- the three tests of a body, in their order (decision B44)
unfoldable pub checked_of : List ℕ → Result (Unit {0}) EventsWrong
checked_of b = pick (cut_short b) (Err CutShort) (pick (kind_unknown b) (Err UnknownKind) (pick (wrong_length b) (Err WrongLength) (Ok tt)))

-- an event as the manager's call
abbrev pub call_of_event : Event → manager.Call
call_of_event e = call_for (kind_of e.kind) e.bytes

unfoldable pub calls_of : List Event → List manager.Call
calls_of [] = []
calls_of (e ∷ es) = call_of_event e ∷ calls_of es

-- the call of an event whose bytes stand from `from` up to `to`, as the code has it: over the body that the event stands in
abbrev pub call_over : List ℕ → Result Kind NoKind → ℕ → ℕ → declared.Call
call_over b (Ok kind.Command) from to = call.Command (byte b from) (between (from + 1) to)
call_over b (Ok kind.Keyed) from to = call.Keyed (between from to)
call_over b (Ok kind.Stored) from to = call.Stored (between (from + 4) to) (four_at b from)
call_over b (Ok kind.Finished) from to = call.Finished (between (from + 1) to) (byte b from) 1
call_over b (Ok kind.Tick) from to = call.Tick
call_over b (Ok kind.Lost) from to = call.Lost
call_over b (Ok kind.FinishedWithMark) from to = call.Finished (between (from + 2) to) (byte b from) (byte b (from + 1))
call_over b (Ok kind.Policy) from to = call.PolicyUpdate (between (from + 1) (from + speaker_size b from)) (between (from + speaker_size b from) to)
call_over b (Err e) from to = call.Lost

-- the event at a place; none where the body ends there or within it
abbrev pub stop_of : List ℕ → ℕ → ℕ
stop_of b at = at + (head_size + pair_at b (at + 1))

unfoldable pub next_event : List ℕ → ℕ → Option Next
next_event b at =
    cond (ltb (length b) (stop_of b at)) None
    (Some (record { call = call_over b (kind_of (byte b at)) (at + head_size) (stop_of b at); stop = stop_of b at }))
