-- Document 01, 'Steps': "Roll-back and fall-back ask no policy and delete nothing."
use Rattle.std.specs.Prelude.{ℕ, ◌≡◌, List, [], ◌∷◌}
use Rattle.card_isdp.specs.LifeCycle.{with_policy}
use Rattle.card_isdp.specs.declared.Isdp.{Isdp}
use Rattle.card_places.specs.Places.{at}
use Rattle.card_record.specs.Cards.{over}
use Rattle.card_record.specs.Clock.{tick_of, without_network}
use Rattle.card_record.specs.declared.Card.{Card}

-- the places, as far as the list goes, with these policies
unfoldable pub repolicy : List ℕ → List Isdp → List Isdp
repolicy [] l = l
repolicy (b ∷ bs) [] = []
repolicy (b ∷ bs) (p ∷ ps) = with_policy p b ∷ repolicy bs ps

-- the same card with other policies, place for place
abbrev pub with_policies : List ℕ → Card → Card
with_policies bs c = over c (repolicy bs c.places)

-- a tick and a lost network do the same whatever the policies, and leave every place held that was (decisions 10, 43)
pub record NoPolicyAsked : Type 0 where
  pub tick-blind : (policies : List ℕ) (c : Card) → tick_of (with_policies policies c) ≡ with_policies policies (tick_of c)
  pub lost-blind : (policies : List ℕ) (c : Card) → without_network (with_policies policies c) ≡ with_policies policies (without_network c)
  pub tick-deletes-nothing : (c : Card) (place : ℕ) → (at (tick_of c).places place).aid.len ≡ (at c.places place).aid.len
  pub lost-deletes-nothing : (c : Card) (place : ℕ) → (at (without_network c).places place).aid.len ≡ (at c.places place).aid.len
