-- `door::answer`: a card that is not sound is stopped by the first row; on a sound one `answer_on_sound` answers the same.
use mathlib.Core.Path.{refl, sym, ◌∙◌}
use lib.ListN.{length}
use Rattle.card_record.proofs.Outcomes.{stopped}
use Rattle.record_door.specs.Door.{call_of}
use Rattle.rule_run.specs.Step.{work, step_by}
use Rattle.rule_run.proofs.Kept.{on-sound-agrees}
use Rattle.record_door.proofs.Buffers.{kept}
use Rattle.record_door.proofs.answer.Goals as goal

pub returns-then-not-is_sound : goal.returns-then-not-is_sound
unfolding step_by
returns-then-not-is_sound c = let z = stopped c.args.card (work c.args.card ((call_of c.args.bytes.now (length c.args.buf.now) c.args.call))) (sym c.is_sound.ensures ∙ c.if-not-is_sound.true) in
    rw z (kept _ refl c.unsound.ensures)

pub returns : goal.returns
returns c = rw (← (on-sound-agrees c.args.card ((call_of c.args.bytes.now (length c.args.buf.now) c.args.call)) (sym c.is_sound.ensures ∙ c.if-not-is_sound.false))) c.answer_on_sound.ensures
