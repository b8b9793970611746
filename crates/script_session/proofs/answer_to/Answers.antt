-- `script_session::answer_to`: the flag chooses the door.
use Rattle.script_session.proofs.answer_to.Goals as goal

pub returns-then-sound : goal.returns-then-sound
returns-then-sound c = rw c.if-sound.true c.answer_on_sound.ensures

pub returns : goal.returns
returns c = rw c.if-sound.false c.answer.ensures
