-- `Turn::first`: the record of zeros by its promise.
use Rattle.script_session.proofs.Turn.first.Goals as goal

pub returns : goal.returns
returns c = rw c.zero-card.ensures
