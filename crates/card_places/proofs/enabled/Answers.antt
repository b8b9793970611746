-- `card_places::enabled`: the position of the first enabled place, as a byte.
use mathlib.Core.Path.{◌∙◌}
use Rattle.std.proofs.Common.{rules, tests}
use Rattle.std.proofs.lemmas.Iterator.{YieldsList-from_slice}
use Rattle.std.proofs.lemmas.Iterator.Search.{position_from_yields_List}
use Rattle.card_isdp.specs.LifeCycle.{is_enabled}
use Rattle.card_places.proofs.Library.{found_position}
use Rattle.card_places.proofs.enabled.Goals as goal

pub returns : goal.returns
returns c = let l = c.args.places.now in
    c.number.ensures
    ∙ position_from_yields_List is_enabled _ _ _ c.position.ensures.ran (YieldsList-from_slice l cc) (λ x b q k. search (rules, tests))
    ∙ found_position is_enabled l (search rules)
