-- `read` meets its contract: the rows before the data field, and then what the data field makes.
use Rattle.std.proofs.lemmas.Result.{err_from_is_err_and}
use mathlib.Core.Path.{sym, ◌∙◌}
use Rattle.read_frame.proofs.Rows.{framing-refused, framing-passed}
use Rattle.read_operator.specs.Field.{policy_of}
use Rattle.read_operator.specs.Reading.{policy_wrong, update_read, update_of}
use Rattle.read_frame.proofs.Answers.{wrong-refused}
use Rattle.read_operator.proofs.read.Goals as goal

pub returns-in_err-framing : goal.returns-in_err-framing
unfolding update_of
returns-in_err-framing c = let s = c.args.bytes.now in
    let p = err_from_is_err_and c.from_residual.result c.from_residual.ensures.1 in
    let e = sym c.in_err-framing.was ∙ c.framing.ensures in
    rw (p.1, p.2) (framing-refused _ _ _ _ _ (policy_wrong s) (update_read (policy_of s)) _ (rw c.not_store_data.ensures at e))

pub returns : goal.returns
unfolding update_of policy_wrong
returns c = let f = policy_of c.args.bytes.now in
    let e = sym c.in_ok-framing.was ∙ c.framing.ensures in
    rw (c.ok_or.ensures.value, c.read_policy.ensures) (framing-passed _ _ _ _ _ _ (update_read f) (wrong-refused f) (rw c.not_store_data.ensures at e))
