-- `read` meets its contract: the rows before the data field, and then what the data field makes.
use Rattle.std.proofs.lemmas.Result.{err_from_is_err_and}
use mathlib.Core.Path.{sym, ◌∙◌}
use Rattle.read_frame.proofs.Rows.{framing-refused, framing-passed}
use Rattle.read_command.specs.Requests.{field_of, data_wrong}
use Rattle.read_command.specs.Reading.{request_read, read_of}
use Rattle.read_frame.proofs.Answers.{wrong-refused}
use Rattle.read_command.proofs.read.Goals as goal

pub returns-in_err-framing : goal.returns-in_err-framing
unfolding read_of
returns-in_err-framing c = let s = c.args.bytes.now in
    let f = field_of s c.args.capacity in
    let p = err_from_is_err_and c.from_residual.result c.from_residual.ensures.1 in
    let e = sym c.in_err-framing.was ∙ c.framing.ensures in
    rw (p.1, p.2) (framing-refused _ _ _ _ _ (data_wrong s c.args.capacity) (request_read f) _ (rw c.instruction_wrong.ensures at e))

pub returns : goal.returns
unfolding read_of data_wrong
returns c = let s = c.args.bytes.now in
    let f = field_of s c.args.capacity in
    let e = sym c.in_ok-framing.was ∙ c.framing.ensures in
    rw (c.ok_or.ensures.value, c.read_field.ensures) (framing-passed _ _ _ _ _ _ (request_read f) (wrong-refused f) (rw c.instruction_wrong.ensures at e))
