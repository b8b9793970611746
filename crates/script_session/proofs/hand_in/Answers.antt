-- `script_session::hand_in`: a record that is not sound is stopped by the first row, a sound one is answered as it is.
use mathlib.Core.Path.{ap, sym, ◌∙◌}
use Rattle.base_status.specs.Rows.{word_of}
use Rattle.card_record.specs.Answers.{as_answer}
use Rattle.script_reply.specs.Replies.{record_work}
use Rattle.card_record.proofs.Outcomes.{checked, stopped}
use Rattle.script_session.proofs.hand_in.Goals as goal

pub returns-then-not-is_sound : goal.returns-then-not-is_sound
returns-then-not-is_sound c = c.unsound.ensures ∙ ap as_answer (sym (stopped c.args.card (record_work c.args.card) (sym c.is_sound.ensures ∙ c.if-not-is_sound.true)))

pub returns : goal.returns
unfolding word_of
returns c = let g = sym c.is_sound.ensures ∙ c.if-not-is_sound.false in
    rw (checked c.args.card (record_work c.args.card) g (λ z. g)) (rw (c.answer.ensures, c.step_since.ensures))
