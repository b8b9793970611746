-- One place of a sound card by the names of its parts, under another life cycle, made anew, and where it is not held. Assumes nothing.
use mathlib.Core.Path.{◌≡◌, refl, ap, sym, ◌∙◌}
use Prim.Native.Nat.{ℕ, zero, suc, ◌-◌, ◌≤◌}
use native.Mathlib.Omega.{arith}
use mathlib.Core.List.{List, [], ◌∷◌}
use mathlib.Core.Bool.{Bool, true, false, cond, ◌&&◌, false≢true}
use lib.ListN.{length, drop, take, replicate, length-append, length-replicate}
use lib.Seq.{drop-append_seam, take-append_seam, take_all}
use lib.Dec.{leb, eqb}
use borrow.Author.Tests.{eqb-true, ne_eqb, leb-true, not-false}
use Rattle.card_isdp.specs.Sizes.{least_aid, most_aid}
use Rattle.card_isdp.specs.Aids.{padded, aid_ok, no_aid, aid_of}
use Rattle.card_isdp.specs.Policy.{policy_ok}
use Rattle.card_isdp.specs.LifeCycle.{disabled, is_enabled, with_life, with_mark, off}
use Rattle.card_isdp.specs.Provisioning.{mark_ok}
use Rattle.card_isdp.specs.Place.{vacant, made, held, zeros, life_ok, blank, empty_ok, held_ok, place_ok}
use Rattle.card_isdp.specs.Profile.{profile}
use Rattle.card_isdp.specs.declared.Aid.{Aid}
use Rattle.card_isdp.specs.declared.Isdp.{Isdp}
use Rattle.card_isdp.proofs.Bools.{and_l, and_r}

-- the test of a held profile, by name (its life cycle apart)
pub record Placed (k : ℕ) (p : Isdp) : Type 0 where
  pub wide : length p.aid.bytes ≡ most_aid
  pub there : held p ≡ true
  pub five : leb least_aid p.aid.len ≡ true
  pub sixteen : leb p.aid.len most_aid ≡ true
  pub some : leb 1 p.quota ≡ true
  pub most : leb p.quota k ≡ true
  pub fits : leb p.used p.quota ≡ true
  pub rule : policy_ok p.policy ≡ true
  pub mark : mark_ok p.mark ≡ true
  pub ended : zeros (drop p.aid.len p.aid.bytes) ≡ true

held-case : (w h a x r s z : Bool) → a ≡ false → (w && cond h (x && (r && z)) ((a && s) && z)) ≡ true → (w ≡ true) × (h ≡ true) × (r ≡ true) × (z ≡ true)
held-case true true a x r s z n e = (refl, refl, and_l r z (and_r x (r && z) e), and_r r z (and_r x (r && z) e))
held-case true false true x r s z n e = absurd (false≢true (sym n))
held-case true false false x r s z n e = absurd (false≢true e)
held-case false h a x r s z n e = absurd (false≢true e)

pub placed : (k : ℕ) (p : Isdp) → eqb p.life 0 ≡ false → place_ok k p ≡ true → Placed k p
unfolding place_ok
placed k p n e =
    let h = held-case (eqb (length p.aid.bytes) most_aid) (held p) (eqb p.life 0) (life_ok p.life) (held_ok k p) (blank p) (zeros (drop p.aid.len p.aid.bytes)) n e in
    let r : held_ok k p ≡ true = h.2 in
    let r1 = and_r (leb least_aid p.aid.len) _ r in
    let r2 = and_r (leb p.aid.len most_aid) _ r1 in
    let r3 = and_r (leb 1 p.quota) _ r2 in
    let r4 = and_r (leb p.quota k) _ r3 in
    let r5 = and_r (leb p.used p.quota) _ r4 in
    record {
      wide = eqb-true (length p.aid.bytes) most_aid h.0;
      there = h.1;
      five = and_l _ _ r;
      sixteen = and_l _ _ r1;
      some = and_l _ _ r2;
      most = and_l _ _ r3;
      fits = and_l _ _ r4;
      rule = and_l _ _ r5;
      mark = and_r (policy_ok p.policy) _ r5;
      ended = h.3;
    }

pub placed-ok : (k : ℕ) (p : Isdp) → life_ok p.life ≡ true → Placed k p → place_ok k p ≡ true
unfolding place_ok
placed-ok k p l h = rw (h.wide, h.there, l, h.five, h.sixteen, h.some, h.most, h.fits, h.rule, h.mark, h.ended)

-- a held place has one of the four life cycles
lived-case : (w h x r s : Bool) → h ≡ true → (w && cond h (x && r) s) ≡ true → x ≡ true
lived-case true true x r s n e = and_l x r e
lived-case true false x r s n e = absurd (false≢true n)
lived-case false h x r s n e = absurd (false≢true e)

pub lived : (k : ℕ) (p : Isdp) → held p ≡ true → place_ok k p ≡ true → life_ok p.life ≡ true
unfolding place_ok
lived k p h e =
    let ended = zeros (drop p.aid.len p.aid.bytes) in
    lived-case (eqb (length p.aid.bytes) most_aid) (held p) (life_ok p.life) (held_ok k p && ended) (empty_ok p && ended) h e

-- one that is not held is zero in every field
not-held-case : (w h x s z : Bool) → h ≡ false → (w && cond h x (s && z)) ≡ true → (w ≡ true) × (s ≡ true) × (z ≡ true)
not-held-case true true x s z n e = absurd (false≢true (sym n))
not-held-case true false x s z n e = (refl, and_l s z e, and_r s z e)
not-held-case false h x s z n e = absurd (false≢true e)

zeros-are : (l : List ℕ) → zeros l ≡ true → l ≡ replicate (length l) 0
unfolding zeros
zeros-are [] e = refl
zeros-are (x ∷ xs) e = rw (eqb-true x 0 (and_l (eqb x 0) _ e)) (ap (λ (l : List ℕ). 0 ∷ l) (zeros-are xs (and_r (eqb x 0) _ e)))

unnamed : (bytes : List ℕ) (len : ℕ) → length bytes ≡ most_aid → len ≡ 0 → zeros (drop len bytes) ≡ true → ◌≡◌ {A = Aid} (record { bytes = bytes; len = len }) no_aid
unnamed bytes len w n z = rw n (ap (λ (b : List ℕ). record { bytes = b; len = 0 }) (zeros-are bytes (rw n at z) ∙ ap (λ (k : ℕ). replicate k 0) w))

all-zero : (a : Aid) (life quota used policy mark : ℕ) → a ≡ no_aid → life ≡ 0 → quota ≡ 0 → used ≡ 0 → policy ≡ 0 → mark ≡ 0 → profile a life quota used policy mark ≡ vacant
all-zero a life quota used policy mark e l q u p m = rw (e, l, q, u, p, m)

pub vacant-is : (k : ℕ) (p : Isdp) → held p ≡ false → place_ok k p ≡ true → p ≡ vacant
unfolding place_ok
vacant-is k p h e =
    let ended = zeros (drop p.aid.len p.aid.bytes) in
    let n = not-held-case (eqb (length p.aid.bytes) most_aid) (held p) (life_ok p.life && (held_ok k p && ended)) (empty_ok p) ended h e in
    let r : empty_ok p ≡ true = n.1 in
    let r1 = and_r (eqb p.life 0) _ r in
    let r2 = and_r (eqb p.quota 0) _ r1 in
    let r3 = and_r (eqb p.used 0) _ r2 in
    all-zero p.aid p.life p.quota p.used p.policy p.mark
    (unnamed p.aid.bytes p.aid.len (eqb-true _ _ n.0) (eqb-true _ _ (not-false _ h)) n.2)
    (eqb-true _ _ (and_l _ _ r)) (eqb-true _ _ (and_l _ _ r1)) (eqb-true _ _ (and_l _ _ r2)) (eqb-true _ _ (and_l _ _ r3))
    (eqb-true _ _ (and_r (eqb p.policy 0) _ r3))

-- the test of one place under another life cycle
relife-case : (w h a x y r s z : Bool) → a ≡ false → (w && cond h (x && (r && z)) ((a && s) && z)) ≡ true → (w && cond h (true && (r && z)) ((y && s) && z)) ≡ true
relife-case true true a true y r s z n e = e
relife-case true true a false y r s z n e = absurd (false≢true e)
relife-case true false true x y r s z n e = absurd (false≢true (sym n))
relife-case true false false x y r s z n e = absurd (false≢true e)
relife-case false h a x y r s z n e = absurd (false≢true e)

pub relife : (k : ℕ) (p : Isdp) (v : ℕ) → eqb p.life 0 ≡ false → life_ok v ≡ true → place_ok k p ≡ true → place_ok k (with_life p v) ≡ true
unfolding place_ok
relife k p v n o e =
    rw o (relife-case (eqb (length p.aid.bytes) most_aid) (held p) (eqb p.life 0) (life_ok p.life) (eqb v 0) (held_ok k p) (blank p) (zeros (drop p.aid.len p.aid.bytes)) n e)

off-ok-case : (k : ℕ) (p : Isdp) (b : Bool) → is_enabled p ≡ b → place_ok k p ≡ true → place_ok k (with_life p (cond b disabled p.life)) ≡ true
off-ok-case k p true e o = relife k p disabled (rw (eqb-true p.life _ e)) refl o
off-ok-case k p false e o = o

pub off-ok : (k : ℕ) (p : Isdp) → place_ok k p ≡ true → place_ok k (off p) ≡ true
off-ok k p o = off-ok-case k p (is_enabled p) refl o

-- a place not held, and a profile made anew
pub none-ok : (k : ℕ) → place_ok k vacant ≡ true
unfolding place_ok zeros
none-ok k = refl

zeros-replicate : (n : ℕ) → zeros (replicate n 0) ≡ true
unfolding zeros
zeros-replicate zero = refl
zeros-replicate (suc n) = zeros-replicate n

padding : (aid : List ℕ) → length aid ≤ most_aid → zeros (drop (length aid) (padded aid)) ≡ true
unfolding padded
padding aid h =
    rw (take_all most_aid aid h, drop-append_seam aid (replicate (most_aid - length aid) 0)) (zeros-replicate (most_aid - length aid))

pub padded-length : (aid : List ℕ) → length aid ≤ most_aid → length (padded aid) ≡ most_aid
unfolding padded
padded-length aid h =
    rw (take_all most_aid aid h, length-append aid (replicate (most_aid - length aid) 0), length-replicate {A = ℕ} (most_aid - length aid) 0) (omega arith)

-- a profile made anew bears the AID that it was made with
module _ (aid : List ℕ) (life quota used : ℕ) (ok : aid_ok aid ≡ true) where
  five : least_aid ≤ length aid
  five = leb-true least_aid (length aid) (and_l _ _ ok)

  sixteen : length aid ≤ most_aid
  sixteen = leb-true (length aid) most_aid (and_r (leb least_aid (length aid)) _ ok)

  whole : take most_aid aid ≡ aid
  whole = take_all most_aid aid sixteen

  pub made_held : held (made aid life quota used) ≡ true
  made_held = rw (whole, ne_eqb (length aid) 0 (λ z. let h = five in omega arith))

  pub made-aid : aid_of (made aid life quota used) ≡ aid
  unfolding padded
  made-aid = take-append_seam (take most_aid aid) _ ∙ whole

  -- with either mark
  pub made_ok : (k mark : ℕ) → mark_ok mark ≡ true → life_ok life ≡ true → leb 1 quota ≡ true → leb quota k ≡ true → leb used quota ≡ true → place_ok k (with_mark (made aid life quota used) mark) ≡ true
  made_ok k mark m l some most fits =
      placed-ok k (with_mark (made aid life quota used) mark) l
      (record { wide = padded-length aid sixteen; there = made_held; five = rw whole (and_l _ _ ok); sixteen = rw whole (and_r (leb least_aid (length aid)) _ ok); some = some; most = most; fits = fits; rule = refl; mark = m; ended = rw whole (padding aid sixteen) })
