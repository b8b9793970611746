-- Enabling a place: what it keeps (all but life cycles) and what it changes. `Lives` relates two lists of places that differ in
-- life cycles alone, so that each fact blind to them is two clauses. Assumes nothing.
use mathlib.Core.Path.{◌≡◌, refl, ap, ◌∙◌}
use Prim.Native.Nat.{ℕ, zero, suc, ◌+◌, ◌<◌}
use native.Mathlib.Omega.{arith}
use mathlib.Core.List.{List, [], ◌∷◌}
use mathlib.Core.Bool.{Bool, true, false, cond}
use lib.ListN.{length}
use lib.Dec.{eqb}
use borrow.Author.Tests.{eqb-true, eqb-false}
use Rattle.std.proofs.lemmas.Bool.{and_from}
use Rattle.card_isdp.specs.LifeCycle.{disabled, enabled, is_enabled, is_finished, with_life, off}
use Rattle.card_isdp.specs.Provisioning.{marked, may_be_fall_back}
use Rattle.card_isdp.specs.Place.{is_for, place_ok, clash}
use Rattle.card_isdp.specs.declared.Isdp.{Isdp}
use Rattle.card_isdp.proofs.Bools.{and_l, and_r}
use Rattle.card_isdp.proofs.Placed.{relife, off-ok}
use Rattle.card_places.specs.Places.{at, quotas, all_of, any_of, count_of, distinct, all_off, enable_at}

-- the same places in the same order, but for their life cycles
pub data Lives : List Isdp → List Isdp → Type 0 where
  ended : Lives [] []
  place : {ps qs : List Isdp} (p : Isdp) (v : ℕ) → Lives ps qs → Lives (p ∷ ps) (with_life p v ∷ qs)

pub off-lives : (l : List Isdp) → Lives l (all_off l)
unfolding all_off
off-lives [] = ended
off-lives (p ∷ ps) = place p _ (off-lives ps)

pub enable-lives : (l : List Isdp) (i : ℕ) → Lives l (enable_at l i)
unfolding enable_at
enable-lives [] i = ended
enable-lives (p ∷ ps) zero = place p enabled (off-lives ps)
enable-lives (p ∷ ps) (suc i) = place p _ (enable-lives ps i)

-- what no life cycle touches
pub lives-length : {l m : List Isdp} → Lives l m → length m ≡ length l
lives-length ended = refl
lives-length (place p v r) = ap suc (lives-length r)

pub lives-quotas : {l m : List Isdp} → Lives l m → quotas m ≡ quotas l
unfolding quotas
lives-quotas ended = refl
lives-quotas (place p v r) = ap (λ (n : ℕ). p.quota + n) (lives-quotas r)

pub lives-any : {l m : List Isdp} (t : Isdp → Bool) → ((p : Isdp) (v : ℕ) → t (with_life p v) ≡ t p) → Lives l m → any_of t m ≡ any_of t l
unfolding any_of
lives-any t b ended = refl
lives-any t b (place p v r) = rw (b p v, lives-any t b r)

pub lives-distinct : {l m : List Isdp} → Lives l m → distinct m ≡ distinct l
unfolding distinct clash is_for
lives-distinct ended = refl
lives-distinct (place p v r) = rw (lives-any (clash p) (λ q w. refl) r, lives-distinct r)

-- each place, but for its life cycle
pub lives_at : {l m : List Isdp} → Lives l m → (i : ℕ) → at m i ≡ with_life (at l i) (at m i).life
lives_at ended i = refl
lives_at (place p v r) zero = refl
lives_at (place p v r) (suc i) = lives_at r i

-- the enabled place is switched off, and no other is touched
off-case : (v : ℕ) (b : Bool) → eqb v enabled ≡ b → eqb (cond b disabled v) enabled ≡ false
off-case v true e = refl
off-case v false e = e

pub off-disabled : (p : Isdp) → is_enabled (off p) ≡ false
off-disabled p = off-case p.life (is_enabled p) refl

pub none-on : (l : List Isdp) → count_of is_enabled (all_off l) ≡ 0
unfolding count_of all_off
none-on [] = refl
none-on (p ∷ ps) = rw (off-disabled p, none-on ps)

-- exactly one place is enabled
pub enable-one : (l : List Isdp) (i : ℕ) → i < length l → count_of is_enabled (enable_at l i) ≡ 1
unfolding count_of enable_at
enable-one [] i h = absurd (omega arith)
enable-one (p ∷ ps) zero h = rw (none-on ps)
enable-one (p ∷ ps) (suc i) h = rw (off-disabled p, enable-one ps i (omega arith))

-- it is the one at i
pub enable-at : (l : List Isdp) (i : ℕ) → i < length l → (at (enable_at l i) i).life ≡ enabled
unfolding enable_at
enable-at [] i h = absurd (omega arith)
enable-at (p ∷ ps) zero h = refl
enable-at (p ∷ ps) (suc i) h = enable-at ps i (omega arith)

pub off_at : (l : List Isdp) (j : ℕ) → at (all_off l) j ≡ off (at l j)
unfolding all_off
off_at [] j = refl
off_at (p ∷ ps) zero = refl
off_at (p ∷ ps) (suc j) = off_at ps j

pub enable-other : (l : List Isdp) (i j : ℕ) → (j ≡ i → ⊥) → at (enable_at l i) j ≡ off (at l j)
unfolding enable_at
enable-other [] i j n = refl
enable-other (p ∷ ps) zero zero n = absurd (n refl)
enable-other (p ∷ ps) zero (suc j) n = off_at ps j
enable-other (p ∷ ps) (suc i) zero n = refl
enable-other (p ∷ ps) (suc i) (suc j) n = enable-other ps i j (λ e. n (ap suc e))

-- a place with a life cycle is within the list
pub within : (l : List Isdp) (i : ℕ) → ((at l i).life ≡ 0 → ⊥) → i < length l
within [] i n = absurd (n refl)
within (p ∷ ps) zero n = omega arith
within (p ∷ ps) (suc i) n = let h = within ps i n in omega arith

pub all-off-ok : (k : ℕ) (l : List Isdp) → all_of (place_ok k) l ≡ true → all_of (place_ok k) (all_off l) ≡ true
unfolding all_of all_off
all-off-ok k [] o = refl
all-off-ok k (p ∷ ps) o = and_from _ _ (off-ok k p (and_l (place_ok k p) _ o)) (all-off-ok k ps (and_r (place_ok k p) _ o))

pub enable-ok : (k : ℕ) (l : List Isdp) (i : ℕ) → eqb (at l i).life 0 ≡ false → all_of (place_ok k) l ≡ true → all_of (place_ok k) (enable_at l i) ≡ true
unfolding all_of enable_at
enable-ok k [] i n o = refl
enable-ok k (p ∷ ps) zero n o = and_from _ _ (relife k p enabled n refl (and_l (place_ok k p) _ o)) (all-off-ok k ps (and_r (place_ok k p) _ o))
enable-ok k (p ∷ ps) (suc i) n o = and_from _ _ (off-ok k p (and_l (place_ok k p) _ o)) (enable-ok k ps i n (and_r (place_ok k p) _ o))

-- a profile that is DISABLED or ENABLED stays one of the two
off-done-case : (v : ℕ) (b : Bool) → is_finished v ≡ true → is_finished (cond b disabled v) ≡ true
off-done-case v true d = refl
off-done-case v false d = d

done-case : (l : List Isdp) (i j : ℕ) (b : Bool) → eqb j i ≡ b → i < length l → is_finished (at l j).life ≡ true → is_finished (at (enable_at l i) j).life ≡ true
done-case l i j true e h d = rw (eqb-true j i e) (rw (enable-at l i h))
done-case l i j false e h d = rw (enable-other l i j (eqb-false j i e)) (off-done-case (at l j).life (is_enabled (at l j)) d)

-- so what may be the fall-back still may
pub enable-resort : (l : List Isdp) (i j : ℕ) → i < length l → may_be_fall_back (at l j) ≡ true → may_be_fall_back (at (enable_at l i) j) ≡ true
enable-resort l i j h d =
    and_from _ _ (done-case l i j (eqb j i) refl h (and_l _ _ d))
    (ap marked (lives_at (enable-lives l i) j) ∙ and_r (is_finished (at l j).life) _ d)
