-- docs/EVENTS.md, 'The file', from the logger's hand: the event that is written of each call, row for row of the table of kinds. What is
-- written of calls is read as those calls, every byte of an AID or a command with it, and every right body was so written.
use Rattle.std.specs.Prelude.{ℕ, ◌+◌, ◌<◌, ◌≡◌, List, [], ◌∷◌, ◌++◌, false, length, take, drop, replicate, Result, Ok}
use Rattle.base_bytes.specs.Bytes.{four_bytes}
use Rattle.read_tlv.specs.Encoding.{Bytes}
use Rattle.rule_run.specs.Calls.{Call, Call.Command, Call.Keyed, Call.Stored, Call.Finished, Call.Tick, Call.Lost, Call.PolicyUpdate}
use Rattle.rule_run.specs.Table.{least_buffer}
use Rattle.record_door.specs.Door as door
use Rattle.month_events.specs.Kinds.{event_length_wrong, call_for}
use Rattle.month_events.specs.Events.{Event, events_of, checked_of, calls_of, call_over}
use Rattle.month_events.specs.Written.{encode_events}
use Rattle.month_events.specs.declared.Kind.{Kind}
use Rattle.month_events.specs.declared.NoKind.{NoKind}

abbrev pub event : ℕ → List ℕ → Event
event kind bytes = record { kind = kind; bytes = bytes }

-- the table: "the response buffer of a command and of a policy update has 256 bytes"; a finished call with the mark 1 has two events,
-- of a logger that knows no mark and of one that does
pub data LoggedAs : Call → Event → Type 0 where
  command : {verdict : ℕ} {s : List ℕ} → LoggedAs (Command verdict s 256) (event 1 (verdict ∷ s))
  keyed : {aid : List ℕ} → LoggedAs (Keyed aid) (event 2 aid)
  stored : {aid : List ℕ} {n : ℕ} → n < 4294967296 → LoggedAs (Stored aid n) (event 3 (four_bytes n ++ aid))
  old-finished : {aid : List ℕ} {policy : ℕ} → LoggedAs (Finished aid policy 1) (event 4 (policy ∷ aid))
  tick : LoggedAs Tick (event 5 [])
  lost : LoggedAs Lost (event 6 [])
  finished : {aid : List ℕ} {policy mark : ℕ} → LoggedAs (Finished aid policy mark) (event 7 (policy ∷ mark ∷ aid))
  policy-update : {speaker s : List ℕ} → LoggedAs (PolicyUpdate speaker s 256) (event 8 (length speaker ∷ (speaker ++ s)))

-- an event that a logger writes of a call: two bytes tell its length, and what it holds are bytes
pub record Logged (call : Call) (e : Event) : Type 0 where
  pub row : LoggedAs call e
  pub short : length e.bytes < 65536
  pub octets : Bytes e.bytes

abbrev pub AllLogged : List Call → List Event → Type 0
AllLogged [] [] = Unit {0}
AllLogged [] (e ∷ es) = ⊥
AllLogged (call ∷ calls) [] = ⊥
AllLogged (call ∷ calls) (e ∷ es) = Logged call e × AllLogged calls es

-- what is written of calls is right, and is read as those calls
abbrev pub CallsBack : Type 0
CallsBack =
    (calls : List Call) (es : List Event) → AllLogged calls es
    → (checked_of (encode_events es) ≡ Ok tt) × (calls_of (events_of (encode_events es)) ≡ calls)

-- what is right was written of the calls that it is read as
abbrev pub CallsWritten : Type 0
CallsWritten =
    (b : List ℕ) → Bytes b → checked_of b ≡ Ok tt
    → (encode_events (events_of b) ≡ b) × AllLogged (calls_of (events_of b)) (events_of b)

-- calls that can be written: an AID of 17 bytes, and one that fills an event
abbrev pub CallsMet : Type 0
CallsMet =
    AllLogged
    (Keyed (replicate 17 0xA0) ∷ Keyed (replicate 65535 0xA0) ∷ Tick ∷ [])
    (event 2 (replicate 17 0xA0) ∷ event 2 (replicate 65535 0xA0) ∷ event 5 [] ∷ [])

-- the code's table, over the body that an event stands in, is the table of an event's own bytes
abbrev pub OneTable : Type 0
OneTable =
    (b : List ℕ) (from n : ℕ) (k : Result Kind NoKind) → event_length_wrong k (take n (drop from b)) ≡ false
    → door.call_of b least_buffer (call_over b k from (from + n)) ≡ call_for k (take n (drop from b))
