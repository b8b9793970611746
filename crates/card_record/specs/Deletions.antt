-- Request 2026-03: what the two tests of a deletion say, by life cycle, and what every deletion leaves. "The test of whether a profile may be
-- deleted now says yes for SELECTABLE and PERSONALIZED too ..; master delete stays with DISABLED only." The fall-back is never deleted.
use Rattle.std.specs.Prelude.{ℕ, ◌+◌, ◌≡◌, Bool, true, false, cond, eqb}
use Rattle.card_isdp.specs.LifeCycle.{selectable, personalized, disabled, enabled}
use Rattle.card_isdp.specs.Place.{vacant}
use Rattle.card_places.specs.Places.{at}
use Rattle.card_record.specs.Cards.{free_in, may_be_deleted, may_be_master_deleted, cleared}
use Rattle.card_record.specs.Sound.{sound}
use Rattle.card_record.specs.declared.Card.{Card}

-- of every card and every place with this life cycle: what delete's and master delete's test say, which is no at the fall-back's place
abbrev pub Says : ℕ → Bool → Bool → Type 0
Says life delete master_delete =
    (c : Card) (i : ℕ) → (at c.places i).life ≡ life
    → (may_be_deleted c i ≡ cond (eqb i c.fallback) false delete)
    × (may_be_master_deleted c i ≡ cond (eqb i c.fallback) false master_delete)

pub record DeletionTests : Type 0 where
  pub not-held : Says 0 false false
  pub if-selectable : Says selectable true false
  pub if-personalized : Says personalized true false
  pub if-disabled : Says disabled true true
  pub if-enabled : Says enabled false false

-- the place is zero, and of a sound card free has grown by the quota (decision 49)
pub record DeletionLeaves : Type 0 where
  pub place-zero : (c : Card) (i : ℕ) → at (cleared c i).places i ≡ vacant
  pub free-grows : (c : Card) (i : ℕ) → sound c ≡ true → free_in (cleared c i) ≡ free_in c + (at c.places i).quota
