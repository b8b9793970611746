-- The one door of the engine over the record: the code's call as the rules' call, and an answer over a lent buffer.
-- What a call means and what it is answered stand in the rules (`rule_run`).
use Rattle.std.specs.Prelude.{ℕ, ◌≤◌, List, length}
use Rattle.base_bytes.specs.Bytes.{part_of}
use Rattle.card_record.specs.Answers.{Outcome}
use Rattle.card_record.specs.declared.Answer.{Answer}
use Rattle.rule_steps.specs.Steps.{HandedWhole}
use Rattle.rule_run.specs.Calls.{Call, Call.Command, Call.Keyed, Call.Stored, Call.Finished, Call.Tick, Call.Lost, Call.PolicyUpdate}
use Rattle.record_door.specs.declared.Call as declared
use Rattle.record_door.specs.declared.Call.TheVariants as code

-- the call that the code's value names over the bytes it came in, with a response buffer of so many bytes lent (decision B32)
abbrev pub call_of : List ℕ → ℕ → declared.Call → Call
call_of s room (code.Command verdict bytes) = Command verdict (part_of s bytes) room
call_of s room (code.Keyed aid) = Keyed (part_of s aid)
call_of s room (code.Stored aid n) = Stored (part_of s aid) n
call_of s room (code.Finished aid policy mark) = Finished (part_of s aid) policy mark
call_of s room code.Tick = Tick
call_of s room code.Lost = Lost
call_of s room (code.PolicyUpdate speaker bytes) = PolicyUpdate (part_of s speaker) (part_of s bytes) room

-- an outcome as it is handed out over a lent buffer that has room for the whole response (decision B33)
abbrev pub Served : List ℕ → Outcome → Answer → List ℕ → Type 0
Served old o r new = HandedWhole old o r new × (r.length ≤ length old)
