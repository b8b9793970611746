-- `record_responses::count_held`: a filter's count is `count_by`, and that is `count_of`.
use mathlib.Core.Path.{◌≡◌, ◌∙◌}
use native.Mathlib.Omega.{arith}
use Rattle.std.specs.Prelude.{count_by}
use Rattle.std.proofs.lemmas.Grind.{common_steps}
use Rattle.card_isdp.specs.Place.{held}
use Rattle.card_places.proofs.Library.{count_list}
use Rattle.record_responses.proofs.count_held.Goals as goal

pub returns : goal.returns
returns c = let e : c.count.result ≡ count_by held c.args.places.now = grind (arith, common_steps) in
    e ∙ count_list _ _
