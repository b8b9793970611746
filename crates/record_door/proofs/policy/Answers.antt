-- `door::policy`: the row of the buffer, then the rows of reading (proofs/Updates), then what the update asks, which has no response.
use mathlib.Core.Path.{refl, ap, sym, ◌∙◌}
use native.Mathlib.Omega.{arith}
use lib.ListN.{length}
use borrow.Author.Tests.{lt-ltb}
use Rattle.base_status.specs.Rows.{word_of}
use Rattle.read_operator.specs.Reading.{update_word}
use Rattle.rule_steps.specs.Asked.{Act.set_policy}
use Rattle.rule_steps.specs.Steps.{inner_work}
use Rattle.rule_run.specs.Table.{least_buffer}
use Rattle.rule_run.specs.Step.{on_sound}
use Rattle.record_door.proofs.Buffers.{kept, none-served}
use Rattle.rule_run.proofs.Updates.{refused-update, known-update}
use Rattle.record_door.proofs.policy.Goals as goal

pub returns-then-buf-lt-LEAST_BUFFER : goal.returns-then-buf-lt-LEAST_BUFFER
unfolding on_sound word_of
returns-then-buf-lt-LEAST_BUFFER c = let e = lt-ltb (length c.args.buf.now) least_buffer c.if-buf-lt-LEAST_BUFFER.true in
    rw e (kept _ refl c.refused.ensures)

pub returns-in_default : goal.returns-in_default
returns-in_default c = let s = c.args in
    let e = refused-update s.card s.speaker.now s.bytes.now (length s.buf.now) (omega arith) _ (sym c.in_default.is ∙ c.read-update.ensures) in
    let w = c.word.ensures ∙ ap update_word c.in_default.is in
    rw e (kept _ refl (rw w at c.refused-in_default.ensures))

pub returns : goal.returns
returns c = let s = c.args in
    rw (known-update s.card s.speaker.now s.bytes.now (length s.buf.now) (omega arith) _ (sym c.in-Ok.is ∙ c.read-update.ensures))
    (none-served s.card (inner_work s.card s.speaker.now (set_policy c.in-Ok.policy)) _ refl c.set_policy.ensures)
