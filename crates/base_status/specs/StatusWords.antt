-- Document 01, 'Status words': the number of each word.
use Rattle.std.specs.Prelude.{ℕ, Bool, true, false}
use Rattle.base_status.specs.declared.Status.{Status}
use Rattle.base_status.specs.declared.Status.TheVariants.{Unsound, BufferShort, LengthWrong, ClassWrong, InstructionWrong, ParametersWrong, DataWrong, StateWrong, NotHeld, PolicyForbids, VerdictWrong, NoRoom, More, Done}

-- the cases stand in the order of the table (decision B2)
abbrev pub number_of : Status → ℕ
number_of Unsound = 0x6F00
number_of BufferShort = 0x6F02
number_of LengthWrong = 0x6700
number_of ClassWrong = 0x6E00
number_of InstructionWrong = 0x6D00
number_of ParametersWrong = 0x6A86
number_of DataWrong = 0x6A80
number_of StateWrong = 0x6985
number_of NotHeld = 0x6A88
number_of PolicyForbids = 0x69E1
number_of VerdictWrong = 0x6982
number_of NoRoom = 0x6A84
number_of More = 0x6310
number_of Done = 0x9000

-- the words that are a success, and no others: 90 00, and of GET STATUS, where rows are left, 63 10 (request 2026-05, "63 10 is a success").
-- A call is accepted exactly where its word is one of them (decision B74)
abbrev pub is_done : Status → Bool
is_done Unsound = false
is_done BufferShort = false
is_done LengthWrong = false
is_done ClassWrong = false
is_done InstructionWrong = false
is_done ParametersWrong = false
is_done DataWrong = false
is_done StateWrong = false
is_done NotHeld = false
is_done PolicyForbids = false
is_done VerdictWrong = false
is_done NoRoom = false
is_done More = true
is_done Done = true
