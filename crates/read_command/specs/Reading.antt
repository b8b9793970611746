-- Document 01, 'Status words': the rows that a command meets while it is read, in the order of the table.
use Rattle.std.specs.Prelude.{ℕ, List, cond, Result, Err, ok_or}
use Rattle.base_status.specs.StatusWords.{is_done}
use Rattle.base_status.specs.Rows.{Row, word_of}
use Rattle.base_status.specs.declared.Status.{Status}
use Rattle.base_status.specs.declared.Status.TheVariants as status
use Rattle.read_fields.specs.declared.request.Request.{Request}
use Rattle.read_fields.specs.Found.{Field}
use Rattle.read_frame.specs.Framing.{length_wrong, class_wrong, instruction_wrong, parameters_wrong, shape_wrong}
use Rattle.read_frame.specs.Rows.{rows_by, word_read}
use Rattle.read_command.specs.Requests.{field_of, data_wrong}

-- what reading a command answers: the request, or the word of its refusal
abbrev pub Reading : Type 0
Reading = Result Request Status

abbrev pub reading_rows : List ℕ → ℕ → List Row
reading_rows s capacity =
    rows_by (length_wrong s) (class_wrong s) (instruction_wrong s) (parameters_wrong s) (shape_wrong s) (data_wrong s capacity)

-- the request of a field that no row refuses; a wrong one never comes here
abbrev pub request_read : Field → Reading
request_read field = ok_or field status.DataWrong

-- the word of the first row whose condition holds, otherwise the request
unfoldable pub read_of : List ℕ → ℕ → Reading
read_of s capacity =
    cond (is_done (word_of status.Done (reading_rows s capacity))) (request_read (field_of s capacity)) (Err (word_of status.Done (reading_rows s capacity)))

-- the word of a refusal; 90 00 where the command was read (decision B18)
abbrev pub reading_word : Reading → Status
reading_word reading = word_read reading
