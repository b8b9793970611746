-- `card_places::enable_at`: all places off and one on is `enable_at` (`on_one`).
use mathlib.Core.Path.{◌∙◌}
use Rattle.card_places.proofs.Switching.{on_one}
use Rattle.card_places.proofs.enable_at.Goals as goal

pub returns : goal.returns
returns c = c.put.ensures
    ∙ rw (c.with_life.ensures, c.at-p.ensures, c.all_off-all.ensures) (on_one c.args.places c.args.i)
