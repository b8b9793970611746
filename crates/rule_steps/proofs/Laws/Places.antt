-- The places as the laws tell them: the search for an AID finds the place that holds it, and no other, since AIDs are distinct; a place set
-- anew and a profile enabled over another are told place by place. By induction over the places. Assumes nothing.
use mathlib.Core.Path.{◌≡◌, refl, sym, ap, ◌∙◌}
use Prim.Native.Nat.{ℕ, zero, suc, ◌<◌}
use native.Mathlib.Omega.{arith}
use mathlib.Core.List.{List, [], ◌∷◌}
use mathlib.Core.Bool.{Bool, true, false, not, cond, false≢true}
use lib.ListN.{length, set}
use lib.Seq.{get_or-set_same, get_or-set_other}
use lib.Dec.{eqb}
use borrow.Author.Tests.{eqb-true, eqb-false, eq-eqb, not-true}
use Rattle.card_isdp.specs.Aids.{aid_of}
use Rattle.card_isdp.specs.LifeCycle.{disabled, enabled, is_enabled, with_life}
use Rattle.card_isdp.specs.Place.{vacant, held, is_for, clash}
use Rattle.card_isdp.specs.declared.Isdp.{Isdp}
use Rattle.base_bytes.proofs.Alike.{same_true, same_self}
use Rattle.card_isdp.proofs.Bools.{and_l, and_r, or_l, or_r}
use Rattle.card_places.specs.Places.{at, seek, any_of, distinct, count_of, enable_at}
use Rattle.card_places.proofs.Lives.{enable-at, enable-other, enable-lives, lives_at}
use Rattle.card_places.proofs.Seeks.{seek-below}
use Rattle.card_places.proofs.Numbered.{only}
use Rattle.card_record.specs.Cards.{place_of, profile_of}
use Rattle.card_record.specs.declared.Card.{Card}
use Rattle.card_record.proofs.Sounds.{Sound}
use Rattle.rule_steps.specs.Laws.Answer.{profile_at, Holds, only_at, traded}

-- a held place is within the list
pub held-within : (l : List Isdp) (i : ℕ) → held (at l i) ≡ true → i < length l
held-within [] i h = absurd (false≢true h)
held-within (p ∷ ps) zero h = omega arith
held-within (p ∷ ps) (suc i) h = let k = held-within ps i h in omega arith

-- a test that one place passes
passes : (t : Isdp → Bool) (l : List Isdp) (i : ℕ) → i < length l → any_of t l ≡ false → t (at l i) ≡ false
unfolding any_of
passes t [] i h e = absurd (omega arith)
passes t (p ∷ ps) zero h e = or_l (t p) _ e
passes t (p ∷ ps) (suc i) h e = passes t ps i (omega arith) (or_r (t p) _ e)

for-parts : (aid : List ℕ) (p : Isdp) → is_for aid p ≡ true → (held p ≡ true) × (aid_of p ≡ aid)
unfolding is_for
for-parts aid p e = (and_l (held p) _ e, same_true (aid_of p) aid (and_r (held p) _ e))

for-whole : (aid : List ℕ) (p : Isdp) → held p ≡ true → aid_of p ≡ aid → is_for aid p ≡ true
unfolding is_for
for-whole aid p h n = rw (h, n) (same_self aid)

clashes : (aid : List ℕ) (p q : Isdp) → is_for aid p ≡ true → is_for aid q ≡ true → clash p q ≡ true
unfolding clash
clashes aid p q e f = let k = for-parts aid p e in rw (k.0, k.1) f

-- the search for an AID ends at the place that bears it
seek-case : (aid : List ℕ) (p : Isdp) (ps : List Isdp) (t : ℕ) (b : Bool) → is_for aid p ≡ b → t < length ps → is_for aid (at ps t) ≡ true → any_of (clash p) ps ≡ false → seek (is_for aid) ps ≡ t → cond b 0 (suc (seek (is_for aid) ps)) ≡ suc t
seek-case aid p ps t true e h f n r = absurd (false≢true (sym (passes (clash p) ps t h n) ∙ clashes aid p (at ps t) e f))
seek-case aid p ps t false e h f n r = ap suc r

seek_is : (aid : List ℕ) (l : List Isdp) (t : ℕ) → distinct l ≡ true → t < length l → is_for aid (at l t) ≡ true → seek (is_for aid) l ≡ t
unfolding seek distinct
seek_is aid [] t d h f = absurd (omega arith)
seek_is aid (p ∷ ps) zero d h f = rw f
seek_is aid (p ∷ ps) (suc t) d h f =
    let n = not-true (any_of (clash p) ps) (and_l (not (any_of (clash p) ps)) _ d) in
    seek-case aid p ps t (is_for aid p) refl (omega arith) f n (seek_is aid ps t (and_r (not (any_of (clash p) ps)) _ d) (omega arith) f)

pub place_is : (c : Card) (aid : List ℕ) (t : ℕ) → Sound c → Holds c aid t → place_of c aid ≡ t
place_is c aid t s h =
    seek_is aid c.places t s.placed.apart (held-within c.places t h.held-there) (for-whole aid (profile_at c t) h.held-there h.named)

-- an AID that is held is held at the place that the search finds
pub holds : (c : Card) (aid : List ℕ) → held (profile_of c aid) ≡ true → Holds c aid (place_of c aid)
holds c aid h =
    let f = seek-below (is_for aid) c.places (held-within c.places (place_of c aid) h) in
    record { held-there = h; named = (for-parts aid (profile_of c aid) f).1 }

-- a place set anew, place by place
set-case : (l : List Isdp) (t i : ℕ) (p : Isdp) (b : Bool) → eqb i t ≡ b → t < length l → at (set l t p) i ≡ cond b p (at l i)
set-case l t i p true e h = rw (eqb-true i t e) (get_or-set_same l t p vacant h)
set-case l t i p false e h = get_or-set_other l t i p vacant (eqb-false i t e)

pub set-places : (c : Card) (t : ℕ) (p : Isdp) → t < length c.places → (i : ℕ) → at (set c.places t p) i ≡ only_at c t p i
set-places c t p h i = set-case c.places t i p (eqb i t) refl h

-- a profile enabled over the enabled one, place by place
module _ (l : List Isdp) (e t : ℕ) (one : count_of is_enabled l ≡ 1) (v : (at l e).life ≡ enabled) (h : t < length l) where
  off-case : (i : ℕ) (b d : Bool) → is_enabled (at l i) ≡ b → eqb i e ≡ d → with_life (at l i) (cond b disabled (at l i).life) ≡ cond d (with_life (at l i) disabled) (at l i)
  off-case i true true p q = refl
  off-case i true false p q = absurd (eqb-false i e q (only l i e one p (eq-eqb _ _ v)))
  off-case i false true p q = absurd (false≢true (sym p ∙ rw (eqb-true i e q) (eq-eqb _ _ v)))
  off-case i false false p q = refl

  trade-case : (i : ℕ) (b : Bool) → eqb i t ≡ b → at (enable_at l t) i ≡ cond b (with_life (at l i) enabled) (cond (eqb i e) (with_life (at l i) disabled) (at l i))
  trade-case i true q = rw (eqb-true i t q) (lives_at (enable-lives l t) t ∙ ap (with_life (at l t)) (enable-at l t h))
  trade-case i false q = enable-other l t i (eqb-false i t q) ∙ off-case i (is_enabled (at l i)) (eqb i e) refl refl

pub trade-places : (c : Card) (e t : ℕ) → Sound c → (profile_at c e).life ≡ enabled → t < length c.places → (i : ℕ) → at (enable_at c.places t) i ≡ traded c e t i
trade-places c e t s v h i = trade-case c.places e t s.roles.one v h i (eqb i t) refl
