-- `door::command`: the row of the buffer, then the rows of reading (proofs/Readings), then what the request asks.
use mathlib.Core.Path.{refl, ap, sym, ◌∙◌}
use native.Mathlib.Omega.{arith}
use lib.ListN.{length}
use borrow.Author.Tests.{lt-ltb}
use Rattle.base_status.specs.Rows.{word_of}
use Rattle.read_command.specs.Reading.{reading_word}
use Rattle.rule_run.specs.Table.{least_buffer}
use Rattle.rule_run.specs.Step.{on_sound}
use Rattle.rule_run.proofs.Readings.{refused-read, known_read}
use Rattle.record_door.proofs.Buffers.{kept}
use Rattle.record_door.proofs.command.Goals as goal

pub returns-then-buf-lt-LEAST_BUFFER : goal.returns-then-buf-lt-LEAST_BUFFER
unfolding on_sound word_of
returns-then-buf-lt-LEAST_BUFFER c = let e = lt-ltb (length c.args.buf.now) least_buffer c.if-buf-lt-LEAST_BUFFER.true in
    rw e (kept _ refl c.refused.ensures)

pub returns-in_default : goal.returns-in_default
returns-in_default c = let e = refused-read c.args.card c.args.verdict c.args.bytes.now (length c.args.buf.now) (omega arith) _ (sym c.in_default.is ∙ c.read-reading.ensures) in
    let w = c.word.ensures ∙ ap reading_word c.in_default.is in
    rw e (kept _ refl (rw w at c.refused-in_default.ensures))

pub returns : goal.returns
returns c = rw (known_read c.args.card c.args.verdict c.args.bytes.now (length c.args.buf.now) (omega arith) _ (sym c.in-Ok.is ∙ c.read-reading.ensures)) c.serve.ensures
