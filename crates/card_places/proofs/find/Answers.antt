-- `card_places::find`: the position of the first place that bears the AID, as a byte.
use mathlib.Core.Path.{◌∙◌}
use Rattle.std.proofs.Common.{rules, tests}
use Rattle.std.proofs.lemmas.Iterator.{YieldsList-from_slice}
use Rattle.std.proofs.lemmas.Iterator.Search.{position_from_yields_List}
use Rattle.card_isdp.specs.Place.{is_for}
use Rattle.card_places.proofs.Library.{found_position}
use Rattle.card_places.proofs.find.Goals as goal

pub returns : goal.returns
returns c = let l = c.args.places.now in
    c.number.ensures
    ∙ position_from_yields_List (is_for c.args.aid.now) _ _ _ c.position.ensures.ran (YieldsList-from_slice l cc) (λ x b q k. search (rules, tests))
    ∙ found_position (is_for c.args.aid.now) l (search rules)
