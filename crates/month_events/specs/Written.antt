-- docs/EVENTS.md, 'The file', from the writer's side: "An event is its kind (1 byte), the length of its bytes (2 bytes), its bytes", and
-- that a body so written is read as the events that were written, and no other body is right.
use Rattle.std.specs.Prelude.{ℕ, ◌≤◌, ◌<◌, ◌≡◌, List, [], ◌∷◌, ◌++◌, length, Ok}
use Rattle.read_tlv.specs.Encoding.{Bytes, encode_number}
use Rattle.month_events.specs.Events.{Event, events_of, checked_of}
use Rattle.month_events.specs.Numbers.{RightLength}

abbrev pub encode_event : Event → List ℕ
encode_event e = e.kind ∷ (encode_number (length e.bytes) ++ e.bytes)

unfoldable pub encode_events : List Event → List ℕ
encode_events [] = []
encode_events (e ∷ es) = encode_event e ++ encode_events es

-- an event that can be written: of a kind that there is, with the right number of bytes, which two bytes tell
pub record Writable (e : Event) : Type 0 where
  pub least : 1 ≤ e.kind
  pub most : e.kind ≤ 8
  pub right : RightLength e.kind e.bytes
  pub short : length e.bytes < 65536
  pub octets : Bytes e.bytes

abbrev pub AllWritable : List Event → Type 0
AllWritable [] = Unit {0}
AllWritable (e ∷ es) = Writable e × AllWritable es

-- what is written is right, and is read as what was written
abbrev pub EventsBack : Type 0
EventsBack = (es : List Event) → AllWritable es → (checked_of (encode_events es) ≡ Ok tt) × (events_of (encode_events es) ≡ es)

-- what is right was so written
abbrev pub EventsWritten : Type 0
EventsWritten = (b : List ℕ) → Bytes b → checked_of b ≡ Ok tt → (encode_events (events_of b) ≡ b) × AllWritable (events_of b)
