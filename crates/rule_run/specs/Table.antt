-- Document 01, 'Status words': the table, row for row. "Given exactly when, in this order". This is the table; `reading_rows` of the
-- reader, `inner_work`'s row and `card_rows` of the steps are parts of it (statement `TableParts`).
use Rattle.std.specs.Prelude.{ℕ, List, [], ◌∷◌, Bool, true, false, ltb, Some, None}
use Rattle.base_status.specs.Rows.{Row, row}
use Rattle.base_status.specs.declared.Status.TheVariants.{BufferShort, LengthWrong, ClassWrong, InstructionWrong, ParametersWrong, DataWrong, StateWrong, NotHeld, PolicyForbids, VerdictWrong, NoRoom}
use Rattle.card_record.specs.Answers.{sound_row}
use Rattle.card_record.specs.declared.Card.{Card}
use Rattle.read_frame.specs.Framing.{length_wrong, class_wrong, instruction_wrong, parameters_wrong, shape_wrong}
use Rattle.read_command.specs.Requests.{data_wrong}
use Rattle.read_operator.specs.Field.{policy_of, Policy}
use Rattle.read_operator.specs.Reading.{not_store_data}
use Rattle.rule_steps.specs.Asked.{Act.keyed, Act.stored, Act.finished, Act.set_policy}
use Rattle.rule_steps.specs.Conditions.{inner_wrong, change_wrong, target_missing, already_held, state_wrong, policy_forbids, verdict_wrong, no_room}
use Rattle.rule_run.specs.Calls.{Call, Call.Command, Call.Keyed, Call.Stored, Call.Finished, Call.Tick, Call.Lost, Call.PolicyUpdate, asked}

-- a lent response buffer has at least so many bytes
abbrev pub least_buffer : ℕ
least_buffer = 256

-- "response buffer under 256 bytes (commands only)"; request 2026-06: of the policy update's command too (decisions 20, 41)
abbrev pub buffer_short : Call → Bool
buffer_short (Command verdict s room) = ltb room least_buffer
buffer_short (Keyed aid) = false
buffer_short (Stored aid n) = false
buffer_short (Finished aid policy mark) = false
buffer_short Tick = false
buffer_short Lost = false
buffer_short (PolicyUpdate speaker s room) = ltb room least_buffer

-- a test of a command's bytes, the operator's too; no other call meets it (decision 41)
abbrev pub in_command : (List ℕ → Bool) → Call → Bool
in_command test (Command verdict s room) = test s
in_command test (Keyed aid) = false
in_command test (Stored aid n) = false
in_command test (Finished aid policy mark) = false
in_command test Tick = false
in_command test Lost = false
in_command test (PolicyUpdate speaker s room) = test s

-- "INS not E6, E4, E2, F2, CA"; of a policy update not E2 (decision B81)
abbrev pub instruction_unknown : Call → Bool
instruction_unknown (Command verdict s room) = instruction_wrong s
instruction_unknown (Keyed aid) = false
instruction_unknown (Stored aid n) = false
instruction_unknown (Finished aid policy mark) = false
instruction_unknown Tick = false
instruction_unknown Lost = false
instruction_unknown (PolicyUpdate speaker s room) = not_store_data s

-- a policy update's data field, or else its speaker and its policy (decision B83)
abbrev pub update_wrong : List ℕ → Policy → Bool
update_wrong speaker None = true
update_wrong speaker (Some p) = inner_wrong speaker (set_policy p)

-- "data field, DGI, or inner call's values wrong"
abbrev pub values_wrong : Card → Call → Bool
values_wrong c (Command verdict s room) = data_wrong s c.capacity
values_wrong c (Keyed aid) = inner_wrong aid keyed
values_wrong c (Stored aid n) = inner_wrong aid (stored n)
values_wrong c (Finished aid policy mark) = inner_wrong aid (finished policy mark)
values_wrong c Tick = false
values_wrong c Lost = false
values_wrong c (PolicyUpdate speaker s room) = update_wrong speaker (policy_of s)

-- the rows after the first
abbrev pub rows_after : Card → Call → List Row
rows_after c call =
    row (buffer_short call) BufferShort
    ∷ row (in_command length_wrong call) LengthWrong
    ∷ row (in_command class_wrong call) ClassWrong
    ∷ row (instruction_unknown call) InstructionWrong
    ∷ row (in_command parameters_wrong call) ParametersWrong
    ∷ row (in_command shape_wrong call) LengthWrong
    ∷ row (values_wrong c call) DataWrong
    ∷ row (change_wrong c (asked c call)) StateWrong
    ∷ row (target_missing c (asked c call)) NotHeld
    ∷ row (already_held c (asked c call)) DataWrong
    ∷ row (state_wrong c (asked c call)) StateWrong
    ∷ row (policy_forbids c (asked c call)) PolicyForbids
    ∷ row (verdict_wrong (asked c call)) VerdictWrong
    ∷ row (no_room c (asked c call)) NoRoom
    ∷ []

-- the whole table: "the card is not sound" stands first (decisions 15, B3)
abbrev pub table : Card → Call → List Row
table c call = sound_row c ∷ rows_after c call
