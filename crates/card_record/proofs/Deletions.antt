-- What a deletion leaves; what the two tests of it say of each life cycle, and what they tell: the profile is not ENABLED and not the fall-back,
-- and of a place with one of the four life cycles that is all that delete's test asks. By the life cycles that the tests name. Assumes nothing.
use mathlib.Core.Path.{◌≡◌, refl, sym, ◌∙◌}
use Prim.Native.Nat.{ℕ}
use mathlib.Core.Bool.{Bool, true, false, not, cond, ◌&&◌, ◌||◌, false≢true}
use lib.Dec.{eqb}
use borrow.Author.Tests.{eqb-true, eqb-false, ne_eqb, not-true}
use Rattle.card_isdp.specs.LifeCycle.{selectable, personalized, disabled, enabled, is_enabled, is_created}
use Rattle.card_isdp.specs.Place.{life_ok}
use Rattle.card_isdp.proofs.Bools.{and_l, and_r}
use Rattle.card_places.specs.Places.{at}
use Rattle.card_places.proofs.Sets.{clear_at}
use Rattle.card_record.specs.Cards.{may_be_deleted, may_be_master_deleted}
use Rattle.card_record.specs.Deletions.{DeletionTests, DeletionLeaves}
use Rattle.card_record.specs.declared.Card.{Card}
use Rattle.card_record.proofs.Sounds.{parts}
use Rattle.card_record.proofs.Free.{given_back_lem}

-- a test that says this where the place is not the fall-back's, and two of them
says : (x b : Bool) → (x && not b) ≡ cond b false x
says true true = refl
says true false = refl
says false true = refl
says false false = refl

say : (x y b : Bool) → ((x && not b) ≡ cond b false x) × ((y && not b) ≡ cond b false y)
say x y b = (says x b, says y b)

pub deletion-tests : DeletionTests
deletion-tests =
    record {
      not-held = λ c i e. rw e (say false false (eqb i c.fallback));
      if-selectable = λ c i e. rw e (say true false (eqb i c.fallback));
      if-personalized = λ c i e. rw e (say true false (eqb i c.fallback));
      if-disabled = λ c i e. rw e (say true true (eqb i c.fallback));
      if-enabled = λ c i e. rw e (say false false (eqb i c.fallback));
    }

pub deletion-leaves : DeletionLeaves
deletion-leaves =
    record {
      place-zero = λ c i. clear_at c.places i;
      free-grows = λ c i s. given_back_lem i c (parts c s).placed.room;
    }

-- the profile at place i may be deleted
pub record Deletable (c : Card) (i : ℕ) : Type 0 where
  pub off : is_enabled (at c.places i) ≡ false
  pub apart : i ≡ c.fallback → ⊥

-- a life cycle that delete takes
taken-case : (v : ℕ) (x y z : Bool) → eqb v selectable ≡ x → eqb v personalized ≡ y → eqb v disabled ≡ z → ((x || y) || z) ≡ true → eqb v enabled ≡ false
taken-case v true y z e f g h = rw (eqb-true v selectable e)
taken-case v false true z e f g h = rw (eqb-true v personalized f)
taken-case v false false true e f g h = rw (eqb-true v disabled g)
taken-case v false false false e f g h = absurd (false≢true h)

-- of the four life cycles, each but ENABLED
left-case : (x y z w : Bool) → (x || (y || (z || w))) ≡ true → w ≡ false → ((x || y) || z) ≡ true
left-case true y z w h n = refl
left-case false true z w h n = refl
left-case false false true w h n = refl
left-case false false false w h n = absurd (false≢true (sym n ∙ h))

module _ (c : Card) (i : ℕ) where
  abbrev v : ℕ
  v = (at c.places i).life

  pub deletable : may_be_deleted c i ≡ true → Deletable c i
  deletable e =
      record {
        off = taken-case v (eqb v selectable) (eqb v personalized) (eqb v disabled) refl refl refl (and_l (is_created v || eqb v disabled) _ e);
        apart = eqb-false _ _ (not-true _ (and_r (is_created v || eqb v disabled) _ e));
      }

  pub may-be-deleted : life_ok v ≡ true → (v ≡ enabled → ⊥) → (i ≡ c.fallback → ⊥) → may_be_deleted c i ≡ true
  may-be-deleted l n f =
      rw (left-case (eqb v selectable) (eqb v personalized) (eqb v disabled) (eqb v enabled) l (ne_eqb _ _ n), ne_eqb _ _ f)

  -- what master delete may take delete may take too, its policy apart
  pub by-delete-too : may_be_master_deleted c i ≡ true → may_be_deleted c i ≡ true
  by-delete-too e = rw (eqb-true v disabled (and_l (eqb v disabled) _ e)) (and_r (eqb v disabled) _ e)
