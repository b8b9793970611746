-- `Card::enabled_place`: what the search found, or the number of places.
use mathlib.Core.Path.{◌≡◌, ◌∙◌, ap}
use Prim.Native.Nat.{ℕ}
use lib.ListN.{length}
use borrow.Author.Rules.{rules}
use Rattle.std.specs.Prelude.{Option}
use Rattle.std.specs.Option.{unwrap_or}
use Rattle.card_isdp.specs.Sizes.{most_places}
use Rattle.card_isdp.specs.LifeCycle.{is_enabled}
use Rattle.card_places.proofs.Seeks.{or_places}
use Rattle.card_record.proofs.Card.enabled_place.Goals as goal

pub returns : goal.returns
returns c = let l = c.args.self.now.places in
    let n : length l ≡ most_places = search rules in
    c.unwrap_or.ensures ∙ ap (λ (o : Option ℕ). unwrap_or o most_places) c.enabled.ensures ∙ or_places is_enabled l n
