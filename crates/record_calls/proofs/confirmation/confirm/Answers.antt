-- `confirmation::confirm`: the rows of the change and of the number, then the step, and the AID that it deleted is written.
use mathlib.Core.Path.{sym, ◌∙◌}
use native.Mathlib.Omega.{arith}
use borrow.Author.Rules.{rules}
use Rattle.base_bytes.proofs.PutLaws.{wrote_by}
use Rattle.base_status.specs.Rows.{word_of}
use Rattle.record_calls.proofs.Asking.{asks}
use Rattle.record_calls.proofs.Accepted.{kept, written}
use Rattle.record_calls.proofs.confirmation.confirm.Goals as goal

pub returns-then-is_quiet : goal.returns-then-is_quiet
unfolding word_of
returns-then-is_quiet c = rw (sym c.is_quiet.ensures ∙ c.if-is_quiet.true) (kept c.refused.ensures)

pub returns-then-not-is_outstanding : goal.returns-then-not-is_outstanding
unfolding word_of
returns-then-not-is_outstanding c = rw (sym c.is_quiet.ensures ∙ c.if-is_quiet.false, asks c.is_outstanding.ensures c.if-not-is_outstanding.true) (kept c.refused-then-not-is_outstanding.ensures)

pub returns : goal.returns
unfolding word_of
returns c = let w = c.write_deleted.ensures in
    let k = w.1 in
    rw (sym c.is_quiet.ensures ∙ c.if-is_quiet.false, asks c.is_outstanding.ensures c.if-not-is_outstanding.false, ← c.confirmed-step.ensures) (written c.confirmed-step.result c.answer.ensures (wrote_by c.new-out.ensures.as_lent (search rules) w.0) (omega arith))
