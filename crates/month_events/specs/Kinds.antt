-- docs/EVENTS.md, 'The file': the table of event kinds: number, wrong length, and the call that an event of the kind is.
use Rattle.std.specs.Prelude.{ℕ, ◌+◌, List, Bool, true, false, not, length, take, drop, ltb, eqb, Result, Ok, Err}
use Rattle.base_bytes.specs.Bytes.{byte, four_at}
use Rattle.base_choice.specs.Choice.{pick, is_same}
use Rattle.rule_run.specs.Calls as manager
use Rattle.rule_run.specs.Table.{least_buffer}
use Rattle.month_events.specs.declared.Kind.{Kind}
use Rattle.month_events.specs.declared.Kind.TheVariants.{Command, Keyed, Stored, Finished, Tick, Lost, FinishedWithMark, Policy}
use Rattle.month_events.specs.declared.NoKind.{NoKind}

-- a number that is not in the table
abbrev pub no_kind : NoKind
no_kind = record {}

-- 7 has the mark that an old finished event, 4, has not; 8 is a policy update (decisions B59, B85)
unfoldable pub kind_of : ℕ → Result Kind NoKind
kind_of n =
    pick (is_same n 1) (Ok Command)
    (pick (is_same n 2) (Ok Keyed)
    (pick (is_same n 3) (Ok Stored)
    (pick (is_same n 4) (Ok Finished)
    (pick (is_same n 5) (Ok Tick)
    (pick (is_same n 6) (Ok Lost)
    (pick (is_same n 7) (Ok FinishedWithMark)
    (pick (is_same n 8) (Ok Policy) (Err no_kind))))))))

abbrev pub is_unknown : Result Kind NoKind → Bool
is_unknown (Ok kind) = false
is_unknown (Err e) = true

-- "the speaker's length (1), the speaker": the bytes that both have, at a place (decision B85)
abbrev pub speaker_size : List ℕ → ℕ → ℕ
speaker_size b at = 1 + byte b at

-- too few or too many bytes for an event of this kind; a byte that is not there counts as 00,
-- so a policy update of no bytes has too few (decisions B45, B85)
abbrev pub event_length_wrong : Result Kind NoKind → List ℕ → Bool
event_length_wrong (Ok Command) bytes = ltb (length bytes) 1
event_length_wrong (Ok Keyed) bytes = false
event_length_wrong (Ok Stored) bytes = ltb (length bytes) 4
event_length_wrong (Ok Finished) bytes = ltb (length bytes) 1
event_length_wrong (Ok Tick) bytes = not (eqb (length bytes) 0)
event_length_wrong (Ok Lost) bytes = not (eqb (length bytes) 0)
event_length_wrong (Ok FinishedWithMark) bytes = ltb (length bytes) 2
event_length_wrong (Ok Policy) bytes = ltb (length bytes) (speaker_size bytes 0)
event_length_wrong (Err e) bytes = false

-- the manager's call; "the response buffer of a command and of a policy update has 256 bytes"; request 2026-02: "Old finished events count as marked".
-- An event of unknown kind is never run: what it would be does not matter (decision B59)
abbrev pub call_for : Result Kind NoKind → List ℕ → manager.Call
call_for (Ok Command) bytes = manager.Call.Command (byte bytes 0) (drop 1 bytes) least_buffer
call_for (Ok Keyed) bytes = manager.Call.Keyed bytes
call_for (Ok Stored) bytes = manager.Call.Stored (drop 4 bytes) (four_at bytes 0)
call_for (Ok Finished) bytes = manager.Call.Finished (drop 1 bytes) (byte bytes 0) 1
call_for (Ok Tick) bytes = manager.Call.Tick
call_for (Ok Lost) bytes = manager.Call.Lost
call_for (Ok FinishedWithMark) bytes = manager.Call.Finished (drop 2 bytes) (byte bytes 0) (byte bytes 1)
call_for (Ok Policy) bytes = manager.Call.PolicyUpdate (take (byte bytes 0) (drop 1 bytes)) (drop (speaker_size bytes 0) bytes) least_buffer
call_for (Err e) bytes = manager.Call.Lost
