-- What is said of all places by a test, said of each by its number, and back: every place passes, none does, one alone does, no AID is borne twice.
-- By the list, the number with it. Assumes nothing.
use mathlib.Core.Path.{◌≡◌, refl, ap, sym, ◌∙◌}
use Prim.Native.Nat.{ℕ, zero, suc, ◌+◌, ◌≤◌, ◌<◌}
use native.Mathlib.Omega.{arith}
use mathlib.Core.List.{List, [], ◌∷◌}
use mathlib.Core.Bool.{Bool, true, false, not, cond, false≢true}
use lib.ListN.{length}
use borrow.Author.Tests.{not-true}
use Rattle.std.proofs.lemmas.Bool.{and_from, false_from_ne_true}
use Rattle.base_bytes.proofs.Alike.{same_true, same_self}
use Rattle.card_isdp.specs.Aids.{aid_of}
use Rattle.card_isdp.specs.LifeCycle.{is_enabled}
use Rattle.card_isdp.specs.Place.{vacant, held, is_for, clash}
use Rattle.card_isdp.specs.declared.Isdp.{Isdp}
use Rattle.card_isdp.proofs.Alike.{clash-none}
use Rattle.card_isdp.proofs.Bools.{and_l, and_r, or_l, or_r}
use Rattle.card_places.specs.Places.{at, all_of, any_of, count_of, distinct}

module _ (t : Isdp → Bool) where
  pub all-by : (l : List Isdp) → ((i : ℕ) → i < length l → t (at l i) ≡ true) → all_of t l ≡ true
  unfolding all_of
  all-by [] h = refl
  all-by (p ∷ ps) h = and_from _ _ (h zero (omega arith)) (all-by ps (λ i k. h (suc i) (omega arith)))

  any_at : t vacant ≡ false → (l : List Isdp) → any_of t l ≡ false → (i : ℕ) → t (at l i) ≡ false
  unfolding any_of
  any_at n [] e i = n
  any_at n (p ∷ ps) e zero = or_l (t p) _ e
  any_at n (p ∷ ps) e (suc i) = any_at n ps (or_r (t p) _ e) i

  any-by : (l : List Isdp) → ((i : ℕ) → t (at l i) ≡ false) → any_of t l ≡ false
  unfolding any_of
  any-by [] h = refl
  any-by (p ∷ ps) h = rw (h zero) (any-by ps (λ i. h (suc i)))

  count_none : (l : List Isdp) → ((i : ℕ) → t (at l i) ≡ false) → count_of t l ≡ 0
  unfolding count_of
  count_none [] h = refl
  count_none (p ∷ ps) h = rw (h zero, count_none ps (λ i. h (suc i))) refl

  -- where a place passes, and any two that pass are one
  pub count-one : t vacant ≡ false → (l : List Isdp) (e : ℕ) → t (at l e) ≡ true → ((i j : ℕ) → t (at l i) ≡ true → t (at l j) ≡ true → i ≡ j) → count_of t l ≡ 1
  unfolding count_of
  count-one n [] e v h = absurd (false≢true (sym n ∙ v))
  count-one n (p ∷ ps) zero v h = rw (v, count_none ps (λ i. false_from_ne_true _ (λ w. let z = h zero (suc i) v w in omega arith))) refl
  count-one n (p ∷ ps) (suc e) v h =
      rw (false_from_ne_true (t p) (λ w. let z = h zero (suc e) w v in omega arith), count-one n ps e v (λ i j v' w. let z = h (suc i) (suc j) v' w in omega arith)) refl

some : (l : List Isdp) (i : ℕ) → is_enabled (at l i) ≡ true → 1 ≤ count_of is_enabled l
unfolding count_of
some [] i v = absurd (false≢true v)
some (p ∷ ps) zero v = rw v (omega arith)
some (p ∷ ps) (suc i) v = let h = some ps i v in omega arith

one_less : (b : Bool) (n : ℕ) → cond b 1 0 + n ≡ 1 → 1 ≤ n → n ≡ 1
one_less true n h k = absurd (omega arith)
one_less false n h k = omega arith

-- where one place is enabled, two that are enabled are that one
pub only : (l : List Isdp) (i j : ℕ) → count_of is_enabled l ≡ 1 → is_enabled (at l i) ≡ true → is_enabled (at l j) ≡ true → i ≡ j
unfolding count_of
only [] i j c e f = absurd (false≢true e)
only (p ∷ ps) zero zero c e f = refl
only (p ∷ ps) zero (suc j) c e f =
    let h = some ps j f in
    let k : 1 + count_of is_enabled ps ≡ 1 = rw e at c in
    absurd (omega arith)
only (p ∷ ps) (suc i) zero c e f =
    let h = some ps i e in
    let k : 1 + count_of is_enabled ps ≡ 1 = rw f at c in
    absurd (omega arith)
only (p ∷ ps) (suc i) (suc j) c e f = ap suc (only ps i j (one_less (is_enabled p) _ c (some ps i e)) e f)

-- two places that are held with one AID clash
clashes : (p q : Isdp) → held p ≡ true → held q ≡ true → aid_of p ≡ aid_of q → clash p q ≡ true
unfolding clash is_for
clashes p q h k e = rw (h, k, e) (same_self (aid_of q))

clashed : (p q : Isdp) → clash p q ≡ true → (held p ≡ true) × (held q ≡ true) × (aid_of p ≡ aid_of q)
unfolding clash is_for
clashed p q e =
    let f = and_r (held p) _ e in
    (and_l (held p) _ e, and_l (held q) _ f, sym (same_true (aid_of q) (aid_of p) (and_r (held q) _ f)))

-- a held place and another with its AID are one place
pub distinct-at : (l : List Isdp) → distinct l ≡ true → (i j : ℕ) → held (at l i) ≡ true → held (at l j) ≡ true → aid_of (at l i) ≡ aid_of (at l j) → i ≡ j
unfolding distinct
distinct-at [] d i j h k e = absurd (false≢true h)
distinct-at (p ∷ ps) d zero zero h k e = refl
distinct-at (p ∷ ps) d zero (suc j) h k e =
    absurd (false≢true (sym (any_at (clash p) (clash-none p) ps (not-true _ (and_l _ _ d)) j) ∙ clashes p (at ps j) h k e))
distinct-at (p ∷ ps) d (suc i) zero h k e =
    absurd (false≢true (sym (any_at (clash p) (clash-none p) ps (not-true _ (and_l _ _ d)) i) ∙ clashes p (at ps i) k h (sym e)))
distinct-at (p ∷ ps) d (suc i) (suc j) h k e = ap suc (distinct-at ps (and_r (not (any_of (clash p) ps)) _ d) i j h k e)

pub distinct-by : (l : List Isdp) → ((i j : ℕ) → held (at l i) ≡ true → held (at l j) ≡ true → aid_of (at l i) ≡ aid_of (at l j) → i ≡ j) → distinct l ≡ true
unfolding distinct
distinct-by [] h = refl
distinct-by (p ∷ ps) h =
    rw (any-by (clash p) ps (λ i. false_from_ne_true _ (λ e. let c = clashed p (at ps i) e in let z = h zero (suc i) c.0 c.1 c.2 in omega arith)))
    (distinct-by ps (λ i j v w e. let z = h (suc i) (suc j) v w e in omega arith))
