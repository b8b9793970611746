-- Document 01, 'Status words': the rows that a command meets while it is read, in the order of the table, by their conditions. The root
-- domain's commands and the operators' have them with their own.
use Rattle.std.specs.Prelude.{List, [], ◌∷◌, ◌++◌, Bool, cond, Result, Ok, Err, ⊤}
use Rattle.base_status.specs.StatusWords.{is_done}
use Rattle.base_status.specs.Rows.{Row, row, word_of}
use Rattle.base_status.specs.declared.Status.{Status}
use Rattle.base_status.specs.declared.Status.TheVariants.{LengthWrong, ClassWrong, InstructionWrong, ParametersWrong, DataWrong, Done}

-- the rows before the data field
abbrev pub framing_rows : Bool → Bool → Bool → Bool → Bool → List Row
framing_rows length class instruction parameters shape =
    row length LengthWrong
    ∷ row class ClassWrong
    ∷ row instruction InstructionWrong
    ∷ row parameters ParametersWrong
    ∷ row shape LengthWrong
    ∷ []

-- "in this order", said once for both readers (decisions 15, B87)
abbrev pub rows_by : Bool → Bool → Bool → Bool → Bool → Bool → List Row
rows_by length class instruction parameters shape field =
    framing_rows length class instruction parameters shape ++ row field DataWrong ∷ []

-- what the rows before the data field say: the word of the first whose condition holds, where one does
unfoldable pub framing_by : Bool → Bool → Bool → Bool → Bool → Result ⊤ Status
framing_by length class instruction parameters shape =
    let word = word_of Done (framing_rows length class instruction parameters shape) in cond (is_done word) (Ok tt) (Err word)

-- the word of a reader's answer: that of a refusal; 90 00 where something was read
abbrev pub word_read : {T : Type 0} → Result T Status → Status
word_read (Ok x) = Done
word_read (Err word) = word
