-- The target of a call: what the search for its AID found tells of the row "target AID not held" and of its place.
-- Assumes nothing.
use mathlib.Core.Path.{◌≡◌, sym, ◌∙◌}
use Prim.Native.Nat.{ℕ}
use mathlib.Core.List.{List}
use mathlib.Core.Bool.{true, false}
use mir.Val.{Val}
use denote.Laws.{Is}
use denote.Struct.Declared.{row}
use Rattle.card_isdp.specs.Place.{held}
use Rattle.card_places.specs.Places.{found_of}
use Rattle.std.specs.Prelude.{Option, Some, None}
use Rattle.card_places.proofs.Seeks.{held_none, held-some}
use Rattle.card_record.specs.Cards.{place_of, profile_of}
use Rattle.card_record.specs.declared.Card.{Card}
use Rattle.card_record.specs.contracts.Card as C
use Rattle.card_record.proofs.Records.{full}

-- the AID stands at place t
pub record Target (c : Card) (aid : List ℕ) (t : ℕ) : Type 0 where
  pub place : place_of c aid ≡ t
  pub there : held (profile_of c aid) ≡ true

module _ (c : Card) (aid : List ℕ) {f : Option ℕ} {vs : List Val} (g : Is (row C.the_type) c vs) (e : f ≡ found_of (place_of c aid)) where
  pub absent : f ≡ None → held (profile_of c aid) ≡ false
  absent n = held_none c.places aid (full c vs g) (sym e ∙ n)

  pub found : {t : ℕ} → f ≡ Some t → Target c aid t
  found {t} h = let k = held-some c.places aid t (full c vs g) (sym e ∙ h) in record { place = k.0; there = k.1 }
