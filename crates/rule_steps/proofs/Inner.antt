-- Keyed, stored and finished write a Created profile anew, with the same AID and quota, and the policy update the enabled one, in Quiet: the
-- card stays sound. The profile's state is what the rows that were passed say of it. Assumes nothing.
use mathlib.Core.Path.{◌≡◌, refl, sym, ◌∙◌}
use Prim.Native.Nat.{ℕ}
use mathlib.Core.Bool.{true, false}
use lib.Dec.{leb, eqb}
use borrow.Author.Tests.{eqb-false, ne_eqb}
use Rattle.card_isdp.specs.Policy.{policy_ok}
use Rattle.card_isdp.specs.Provisioning.{mark_ok}
use Rattle.card_isdp.specs.LifeCycle.{selectable, personalized, enabled, is_enabled, is_finished, with_life, with_used, with_policy, finish}
use Rattle.card_isdp.specs.Place.{life_ok, place_ok}
use Rattle.card_isdp.specs.declared.Isdp.{Isdp}
use Rattle.card_isdp.proofs.Placed.{Placed, placed, placed-ok, relife}
use Rattle.card_places.specs.Places.{at}
use Rattle.card_places.proofs.Lives.{within}
use Rattle.card_places.proofs.Sets.{all-at}
use Rattle.card_record.specs.Cards.{rewritten}
use Rattle.card_record.specs.declared.Card.{Card}
use Rattle.card_record.proofs.Sounds.{Sound}
use Rattle.card_record.specs.declared.Phase.TheVariants.{Quiet}
use Rattle.card_record.proofs.Rewrites.{rewrites, restates}

-- a held profile of a sound card, and what the four calls make of it
module _ (c : Card) (i v : ℕ) (s : Sound c) (e : (at c.places i).life ≡ v) (n : eqb v 0 ≡ false) where
  abbrev p : Isdp
  p = at c.places i

  there : p.life ≡ 0 → ⊥
  there z = eqb-false v 0 n (sym e ∙ z)

  ok : place_ok c.capacity p ≡ true
  ok = all-at (place_ok c.capacity) c.places i (within c.places i there) s.placed.each

  pub parted : Placed c.capacity p
  parted = placed c.capacity p (ne_eqb _ _ there) ok

  lively : (w : ℕ) → life_ok w ≡ true → place_ok c.capacity (with_life p w) ≡ true
  lively w l = relife c.capacity p w (ne_eqb _ _ there) l ok

  fuller : (u : ℕ) → life_ok v ≡ true → leb u p.quota ≡ true → place_ok c.capacity (with_used p u) ≡ true
  fuller u q l =
      let k = parted in
      placed-ok c.capacity (with_used p u) (rw e q)
      (record { wide = k.wide; there = k.there; five = k.five; sixteen = k.sixteen; some = k.some; most = k.most; fits = l; rule = k.rule; mark = k.mark; ended = k.ended })

  finisher : (b m : ℕ) → policy_ok b ≡ true → mark_ok m ≡ true → place_ok c.capacity (finish p b m) ≡ true
  finisher b m l o =
      let k = parted in
      placed-ok c.capacity (finish p b m) refl
      (record { wide = k.wide; there = k.there; five = k.five; sixteen = k.sixteen; some = k.some; most = k.most; fits = k.fits; rule = l; mark = o; ended = k.ended })

  ruled : (b : ℕ) → life_ok v ≡ true → policy_ok b ≡ true → place_ok c.capacity (with_policy p b) ≡ true
  ruled b q l =
      let k = parted in
      placed-ok c.capacity (with_policy p b) (rw e q)
      (record { wide = k.wide; there = k.there; five = k.five; sixteen = k.sixteen; some = k.some; most = k.most; fits = k.fits; rule = l; mark = k.mark; ended = k.ended })

pub keyed-at : (c : Card) (i : ℕ) → Sound c → (at c.places i).life ≡ selectable → Sound (rewritten c i (with_life (at c.places i) personalized))
keyed-at c i s e =
    let d : is_finished (at c.places i).life ≡ false = rw e in
    rewrites c i (with_life (at c.places i) personalized) s d refl (lively c i selectable s e refl personalized refl) refl refl

pub stored_at : (c : Card) (i u : ℕ) → Sound c → (at c.places i).life ≡ personalized → leb u (at c.places i).quota ≡ true → Sound (rewritten c i (with_used (at c.places i) u))
stored_at c i u s e l =
    let d : is_finished (at c.places i).life ≡ false = rw e in
    let w : is_enabled (with_used (at c.places i) u) ≡ false = rw e in
    rewrites c i (with_used (at c.places i) u) s d w (fuller c i personalized s e refl u refl l) refl refl

pub finished-at : (c : Card) (i b m : ℕ) → Sound c → (at c.places i).life ≡ personalized → policy_ok b ≡ true → mark_ok m ≡ true → Sound (rewritten c i (finish (at c.places i) b m))
finished-at c i b m s e l o =
    let d : is_finished (at c.places i).life ≡ false = rw e in
    rewrites c i (finish (at c.places i) b m) s d refl (finisher c i personalized s e refl b m l o) refl refl

pub policy-at : (c : Card) (i b : ℕ) → Sound c → c.phase ≡ Quiet → (at c.places i).life ≡ enabled → policy_ok b ≡ true → Sound (rewritten c i (with_policy (at c.places i) b))
policy-at c i b s o e l =
    restates c i (with_policy (at c.places i) b) s o (ruled c i enabled s e refl b refl l) refl refl refl refl
