-- When two places bear one AID: the comparison looks at nothing but the AID, and a place not held clashes with none.
-- Assumes nothing.
use mathlib.Core.Path.{◌≡◌, refl}
use mathlib.Core.Bool.{false, and-false}
use Rattle.card_isdp.specs.Place.{vacant, held, is_for, clash}
use Rattle.card_isdp.specs.declared.Isdp.{Isdp}

-- a place that bears the AID of another
module _ (x p : Isdp) (e : x.aid ≡ p.aid) where
  pub clash-left : (q : Isdp) → clash x q ≡ clash p q
  unfolding clash
  clash-left q = rw e

  pub clash-right : (q : Isdp) → clash q x ≡ clash q p
  unfolding clash is_for
  clash-right q = rw e

pub clash-none : (p : Isdp) → clash p vacant ≡ false
unfolding clash is_for
clash-none p = and-false (held p)

pub none-clash : (q : Isdp) → clash vacant q ≡ false
unfolding clash
none-clash q = refl
