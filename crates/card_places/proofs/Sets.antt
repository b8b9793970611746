-- One place set anew: what every test of the places, the quotas and the AIDs sees of it; and places that are the same one by one are the
-- same list. Assumes nothing.
use mathlib.Core.Path.{◌≡◌, refl, ap}
use Prim.Native.Nat.{ℕ, zero, suc, ◌+◌, ◌<◌}
use native.Mathlib.Omega.{arith}
use mathlib.Core.List.{List, [], ◌∷◌}
use mathlib.Core.Bool.{Bool, true, false, not}
use lib.ListN.{length, set}
use borrow.Author.Tests.{not-true}
use Rattle.std.proofs.lemmas.Bool.{and_from}
use Rattle.card_isdp.specs.Place.{vacant, clash}
use Rattle.card_isdp.specs.declared.Isdp.{Isdp}
use Rattle.card_isdp.proofs.Bools.{and_l, and_r, or_l, or_r}
use Rattle.card_isdp.proofs.Alike.{clash-left, clash-right, clash-none, none-clash}
use Rattle.card_places.specs.Places.{at, seek, quotas, all_of, any_of, count_of, distinct}

pub set_all : (t : Isdp → Bool) (x : Isdp) → t x ≡ true → (l : List Isdp) (i : ℕ) → all_of t l ≡ true → all_of t (set l i x) ≡ true
unfolding all_of
set_all t x y [] i o = refl
set_all t x y (p ∷ ps) zero o = and_from _ _ y (and_r (t p) _ o)
set_all t x y (p ∷ ps) (suc i) o = and_from _ _ (and_l (t p) _ o) (set_all t x y ps i (and_r (t p) _ o))

pub set-any : (t : Isdp → Bool) (x : Isdp) → t x ≡ false → (l : List Isdp) (i : ℕ) → any_of t l ≡ false → any_of t (set l i x) ≡ false
unfolding any_of
set-any t x y [] i e = refl
set-any t x y (p ∷ ps) zero e = rw (y, or_r (t p) _ e)
set-any t x y (p ∷ ps) (suc i) e = rw (or_l (t p) _ e, set-any t x y ps i (or_r (t p) _ e))

pub set-count : (t : Isdp → Bool) (x : Isdp) (l : List Isdp) (i : ℕ) → t x ≡ t (at l i) → count_of t (set l i x) ≡ count_of t l
unfolding count_of
set-count t x [] i e = refl
set-count t x (p ∷ ps) zero e = rw e
set-count t x (p ∷ ps) (suc i) e = rw (set-count t x ps i e)

pub set-quotas : (x : Isdp) (l : List Isdp) (i : ℕ) → i < length l → quotas (set l i x) + (at l i).quota ≡ quotas l + x.quota
unfolding quotas
set-quotas x [] i h = absurd (omega arith)
set-quotas x (p ∷ ps) zero h = omega arith
set-quotas x (p ∷ ps) (suc i) h = let r = set-quotas x ps i (omega arith) in omega arith

-- a new place with the quota of the old one
pub alike-quotas : (x : Isdp) (l : List Isdp) (i : ℕ) → x.quota ≡ (at l i).quota → quotas (set l i x) ≡ quotas l
unfolding quotas
alike-quotas x [] i e = refl
alike-quotas x (p ∷ ps) zero e = rw e
alike-quotas x (p ∷ ps) (suc i) e = rw (alike-quotas x ps i e)

-- a new place that clashes with none, either way round
pub set-distinct : (x : Isdp) (l : List Isdp) (i : ℕ) → any_of (clash x) l ≡ false → any_of (λ p. clash p x) l ≡ false → distinct l ≡ true → distinct (set l i x) ≡ true
unfolding distinct any_of
set-distinct x [] i a b e = refl
set-distinct x (p ∷ ps) zero a b e = rw (or_r (clash x p) _ a) (and_r (not (any_of (clash p) ps)) _ e)
set-distinct x (p ∷ ps) (suc i) a b e =
    let h = not-true (any_of (clash p) ps) (and_l (not (any_of (clash p) ps)) _ e) in
    rw (set-any (clash p) x (or_l (clash p x) _ b) ps i h)
    (set-distinct x ps i (or_r (clash x p) _ a) (or_r (clash p x) _ b) (and_r (not (any_of (clash p) ps)) _ e))

any_same : (t u : Isdp → Bool) → ((q : Isdp) → t q ≡ u q) → (l : List Isdp) → any_of t l ≡ any_of u l
unfolding any_of
any_same t u h [] = refl
any_same t u h (p ∷ ps) = rw (h p, any_same t u h ps)

any-alike : (q x : Isdp) (l : List Isdp) (i : ℕ) → x.aid ≡ (at l i).aid → any_of (clash q) (set l i x) ≡ any_of (clash q) l
unfolding any_of
any-alike q x [] i e = refl
any-alike q x (p ∷ ps) zero e = rw (clash-right x p e q)
any-alike q x (p ∷ ps) (suc i) e = rw (any-alike q x ps i e)

pub set-alike : (x : Isdp) (l : List Isdp) (i : ℕ) → x.aid ≡ (at l i).aid → distinct (set l i x) ≡ distinct l
unfolding distinct
set-alike x [] i e = refl
set-alike x (p ∷ ps) zero e = rw (any_same (clash x) (clash p) (clash-left x p e) ps)
set-alike x (p ∷ ps) (suc i) e = rw (any-alike p x ps i e, set-alike x ps i e)

-- what is the same of the old and the new one is the same at every place
pub set-unseen : {X : Type 0} (t : Isdp → X) (x : Isdp) (l : List Isdp) (i : ℕ) → t x ≡ t (at l i) → (j : ℕ) → t (at (set l i x) j) ≡ t (at l j)
set-unseen t x [] i e j = refl
set-unseen t x (p ∷ ps) zero e zero = e
set-unseen t x (p ∷ ps) zero e (suc j) = refl
set-unseen t x (p ∷ ps) (suc i) e zero = refl
set-unseen t x (p ∷ ps) (suc i) e (suc j) = set-unseen t x ps i e j

-- and a search by it finds the same place
pub set-seek : (t : Isdp → Bool) (x : Isdp) (l : List Isdp) (i : ℕ) → t x ≡ t (at l i) → seek t (set l i x) ≡ seek t l
unfolding seek
set-seek t x [] i e = refl
set-seek t x (p ∷ ps) zero e = rw e
set-seek t x (p ∷ ps) (suc i) e = rw (set-seek t x ps i e)

-- a deleted place
pub any-never : (t : Isdp → Bool) → ((q : Isdp) → t q ≡ false) → (l : List Isdp) → any_of t l ≡ false
unfolding any_of
any-never t n [] = refl
any-never t n (p ∷ ps) = rw (n p, any-never t n ps)

pub clear_at : (l : List Isdp) (i : ℕ) → at (set l i vacant) i ≡ vacant
clear_at [] i = refl
clear_at (p ∷ ps) zero = refl
clear_at (p ∷ ps) (suc i) = clear_at ps i

pub clear-quotas : (l : List Isdp) (i : ℕ) → quotas (set l i vacant) + (at l i).quota ≡ quotas l
unfolding quotas
clear-quotas [] i = refl
clear-quotas (p ∷ ps) zero = omega arith
clear-quotas (p ∷ ps) (suc i) = let r = clear-quotas ps i in omega arith

pub clear-distinct : (l : List Isdp) (i : ℕ) → distinct l ≡ true → distinct (set l i vacant) ≡ true
clear-distinct l i e =
    set-distinct vacant l i (any-never (clash vacant) none-clash l) (any-never (λ p. clash p vacant) clash-none l) e

pub all-at : (t : Isdp → Bool) (l : List Isdp) (i : ℕ) → i < length l → all_of t l ≡ true → t (at l i) ≡ true
unfolding all_of
all-at t [] i h o = absurd (omega arith)
all-at t (p ∷ ps) zero h o = and_l (t p) _ o
all-at t (p ∷ ps) (suc i) h o = all-at t ps i (omega arith) (and_r (t p) _ o)

pub same-places : (l m : List Isdp) → length l ≡ length m → ((i : ℕ) → at l i ≡ at m i) → l ≡ m
same-places [] [] n e = refl
same-places [] (q ∷ qs) n e = absurd (omega arith)
same-places (p ∷ ps) [] n e = absurd (omega arith)
same-places (p ∷ ps) (q ∷ qs) n e = rw (e 0) (ap (λ (l : List Isdp). q ∷ l) (same-places ps qs (omega arith) (λ i. e (suc i))))
