-- Laws of the numbers below a bound, for any test and any figure: one turn and the end of each loop over them, and what a sum or a
-- count says of its parts. Each is an induction over the bound. Assumes nothing.
use mathlib.Core.Path.{◌≡◌, refl, sym, ap, ◌∙◌}
use Prim.Native.Nat.{ℕ, zero, suc, ◌+◌, ◌-◌, ◌≤◌, ◌<◌, min}
use native.Mathlib.Numerals.{add-one}
use native.Mathlib.Omega.{arith}
use mathlib.Core.Bool.{Bool, true, false, cond, ◌&&◌, ◌||◌, or-true, true≢false}
use lib.Dec.{leb, ltb}
use borrow.Author.Tests.{le-leb, lt-leb, lt-ltb, le-ltb}
use mathlib.Core.List.{[], ◌∷◌, ◌++◌}
use Rattle.std.proofs.Math.Bool.{or-false}
use Rattle.std.specs.declared.ops.Range.{Range}
use denote.Param.Members.{Mut}
use denote.Ref.{Bor}
use Rattle.std.specs.Prelude.{Option, Some, None}
use Rattle.std.specs.Fn.{Called, CalledAt}
use Rattle.std.specs.Iterator.{ChecksAny, FindsItem}
use Rattle.std.specs.Option.{MatchOption}
use Rattle.std.specs.List.{list_any, range_with_len}
use Rattle.std.proofs.iter.Yields.{nat_range_steps}
use Rattle.std.proofs.lemmas.Iterator.{YieldsList-from_range, first_from_Range}
use Rattle.std.proofs.lemmas.Iterator.Search.{any_from_yields_List}
use Rattle.std.proofs.lemmas.List.Folds.{list_any-append}
use Rattle.std.proofs.lemmas.Bool.{or_parts}
use Rattle.base_choice.proofs.Branches.{on_test, on-lt}
use Rattle.month_contents.specs.Below.{some_below, first_below, sum_below, count_below}

-- a search that has found none so far: at its start, and a turn further
pub some-none : (t : ℕ → Bool) → some_below 0 t ≡ false
unfolding some_below
some-none t = refl

pub some_next : (n : ℕ) (t : ℕ → Bool) → some_below n t ≡ false → t n ≡ false → some_below (n + 1) t ≡ false
unfolding some_below
some_next n t e f = rw (add-one, e, f)

-- the numbers below a bound as the list that a range gives
below-list : (a n : ℕ) → range_with_len a (suc n) ≡ range_with_len a n ++ (a + n) ∷ []
below-list a zero = ap (λ (k : ℕ). k ∷ []) (omega arith)
below-list a (suc n) = rw (below-list (a + 1) n) (ap (λ (k : ℕ). a ∷ range_with_len (a + 1) n ++ k ∷ []) (omega arith))

any-some : (t : ℕ → Bool) (n : ℕ) → list_any t (range_with_len 0 n) ≡ some_below n t
unfolding some_below
any-some t zero = refl
any-some t (suc n) =
    ap (list_any t) (below-list 0 n)
    ∙ list_any-append t (range_with_len 0 n) ((0 + n) ∷ [])
    ∙ rw (any-some t n, or-false (t (0 + n))) (ap (λ (k : ℕ). some_below n t || t k) (omega arith))

-- what `any` answers over a range whose items are asked a test
pub some-any : {F : Type 0} {g : Mut F (ℕ × Unit {0}) Bool} {s : Range ℕ} (n : ℕ) (t : ℕ → Bool) (u : Range ℕ) (f : F) (r : Bool)
    → ChecksAny nat_range_steps g s f r u
    → s ≡ record { start = 0; end = n }
    → ((x : ℕ) (b : Bool) (q : F) → Called g f (x, tt) b q → (q ≡ f) × (b ≡ t x))
    → r ≡ some_below n t
some-any n t u f r h e k = any_from_yields_List t u f r h (YieldsList-from_range 0 n n e (omega arith)) k ∙ any-some t n

-- below n + 1 is below n, or n
last-is : (i n : ℕ) → i < suc n → n ≤ i → n ≡ i
last-is i n h k = omega arith

module _ (t : ℕ → Bool) (i : ℕ) (e : t i ≡ true) where
  -- one that passes is some
  pub some-hit : (n : ℕ) → i < n → some_below n t ≡ true
  unfolding some_below
  some-hit zero h = absurd (omega arith)
  some-hit (suc n) h =
      on-lt i n
      (λ k. rw (some-hit n k))
      (λ k. rw (last-is i n h k, e) (or-true (some_below i t)))

  -- and the first, where none before it does
  pub first-hit : (n : ℕ) → some_below i t ≡ false → i < n → first_below n t ≡ i
  unfolding first_below
  first-hit zero f h = absurd (omega arith)
  first-hit (suc n) f h =
      on-lt i n
      (λ k. rw (some-hit n k) (first-hit n f k))
      (λ k. rw (last-is i n h k, f, e))

-- none passes: the bound is the answer
pub first-none : (n : ℕ) (t : ℕ → Bool) → some_below n t ≡ false → first_below n t ≡ n
unfolding some_below first_below
first-none zero t f = refl
first-none (suc n) t f = let p = or_parts (some_below n t) (t n) f in rw (p.0, p.1)

none-below : (n : ℕ) (t : ℕ → Bool) → ((i : ℕ) → i < n → t i ≡ false) → some_below n t ≡ false
unfolding some_below
none-below zero t h = refl
none-below (suc n) t h = rw (none-below n t (λ i k. h i (omega arith)), h n (omega arith))

-- the first below a bound, if there is one
abbrev pub found_below : ℕ → (ℕ → Bool) → Option ℕ
found_below n t = cond (ltb (first_below n t) n) (Some (first_below n t)) None

first-case : (a b n : ℕ) (t : ℕ → Bool) (r : Option ℕ) → a ≡ 0 → b ≡ n
    → MatchOption r ((k : ℕ) → a ≤ k → k < b → t k ≡ false) (λ i. (a ≤ i) × (i < b) × (t i ≡ true) × ((k : ℕ) → a ≤ k → k < i → t k ≡ false))
    → r ≡ found_below n t
first-case a b n t None p q h = rw (first-none n t (none-below n t (λ k l. h k (omega arith) (omega arith))), le-ltb n n (omega arith))
first-case a b n t (Some i) p q h =
    let l : i < n = omega (arith, h.1) in
    rw (first-hit t i h.2 n (none-below i t (λ k m. h.3 k (omega arith) m)) l, lt-ltb i n l)

-- what `find` answers over a range whose items are asked a test
pub first-find : {F : Type 0} {g : Mut F (Bor ℕ × Unit {0}) Bool} {s : Range ℕ} (n : ℕ) (t : ℕ → Bool) (u : Range ℕ) (f : F) (r : Option ℕ)
    → FindsItem nat_range_steps g s f r u
    → s ≡ record { start = 0; end = n }
    → ((x : ℕ) (b : Bool) (q : F) → CalledAt g f x b q → (q ≡ f) × (b ≡ t x))
    → r ≡ found_below n t
first-find {s = s} n t u f r h e k =
    first-case s.start s.end n t r (ap (λ (x : Range ℕ). x.start) e) (ap (λ (x : Range ℕ). x.end) e)
    (first_from_Range s u f r (λ i. t i ≡ true) (λ i. t i ≡ false) h (λ x q z. sym (k x true q z).1) (λ x q z. ((k x false q z).0, sym (k x false q z).1)))

-- where some passes, the first that does is below the bound, and passes
pub first-is : (n : ℕ) (t : ℕ → Bool) → some_below n t ≡ true → (first_below n t < n) × (t (first_below n t) ≡ true)
unfolding some_below first_below
first-is zero t e = absurd (true≢false (sym e))
first-is (suc n) t e =
    on_test (some_below n t)
    (λ k. let r = first-is n t k in rw k (omega (arith, r.0), r.1))
    (λ k. let l : t n ≡ true = rw k at e in rw (k, l) (omega arith, l))

pub first_passes : (n : ℕ) (t : ℕ → Bool) → first_below n t < n → t (first_below n t) ≡ true
first_passes n t h =
    on_test (some_below n t)
    (λ k. (first-is n t k).1)
    (λ k. let e = first-none n t k in absurd (omega arith))

-- a sum: nothing below 0; a turn further
pub sum-none : (f : ℕ → ℕ) → sum_below 0 f ≡ 0
unfolding sum_below
sum-none f = refl

pub sum-next : (n : ℕ) (f : ℕ → ℕ) → sum_below (n + 1) f ≡ sum_below n f + f n
unfolding sum_below
sum-next n f = rw add-one

-- a sum is no less than one of fewer
pub sum-part : (f : ℕ → ℕ) (i n : ℕ) → i ≤ n → sum_below i f ≤ sum_below n f
unfolding sum_below
sum-part f i zero h = rw (← last-is i 0 (omega arith) (omega arith)) (omega arith)
sum-part f i (suc n) h =
    on-lt i (suc n)
    (λ k. let p = sum-part f i n (omega arith) in omega arith)
    (λ k. rw (← last-is i (suc n) (omega arith) k) (omega arith))

-- some and each
module _ (t : ℕ → Bool) where
  pub some-each : (n : ℕ) → some_below n t ≡ false → (i : ℕ) → i < n → t i ≡ false
  unfolding some_below
  some-each zero e i h = absurd (omega arith)
  some-each (suc n) e i h =
      on-lt i n
      (λ k. some-each n (or_parts (some_below n t) (t n) e).0 i k)
      (λ k. rw (← last-is i n h k) (or_parts (some_below n t) (t n) e).1)

  pub each-some : (n : ℕ) → ((i : ℕ) → i < n → t i ≡ false) → some_below n t ≡ false
  unfolding some_below
  each-some zero f = refl
  each-some (suc n) f = rw (each-some n (λ i h. f i (omega arith)), f n (omega arith))

-- sums of equal figures, of sums, and of sums the other way round
pub sum_same : (f g : ℕ → ℕ) (n : ℕ) → ((i : ℕ) → i < n → f i ≡ g i) → sum_below n f ≡ sum_below n g
unfolding sum_below
sum_same f g zero e = refl
sum_same f g (suc n) e = rw (sum_same f g n (λ i h. e i (omega arith)), e n (omega arith))

pub sum-zero : (n : ℕ) → sum_below n (λ i. 0) ≡ 0
unfolding sum_below
sum-zero zero = refl
sum-zero (suc n) = rw (sum-zero n)

pub sum_both : (f g : ℕ → ℕ) (n : ℕ) → sum_below n (λ i. f i + g i) ≡ sum_below n f + sum_below n g
unfolding sum_below
sum_both f g zero = refl
sum_both f g (suc n) = let p = sum_both f g n in omega arith

pub sum-swap : (f : ℕ → ℕ → ℕ) (m n : ℕ) → sum_below m (λ p. sum_below n (f p)) ≡ sum_below n (λ i. sum_below m (λ p. f p i))
unfolding sum_below
sum-swap f zero n = sym (sum-zero n)
sum-swap f (suc m) n = rw (sum-swap f m n) (sym (sum_both (λ i. sum_below m (λ p. f p i)) (f m) n))

-- figures that are each at most others and add up to the same are the others
pub sum-most : (f g : ℕ → ℕ) (n : ℕ) → ((i : ℕ) → i < n → f i ≤ g i) → sum_below n f ≤ sum_below n g
unfolding sum_below
sum-most f g zero e = omega arith
sum-most f g (suc n) e = let p = sum-most f g n (λ i h. e i (omega arith)) in omega (arith, e n (omega arith))

pub sum-tight : (f g : ℕ → ℕ) (n : ℕ) → ((i : ℕ) → i < n → f i ≤ g i) → sum_below n f ≡ sum_below n g → (i : ℕ) → i < n → f i ≡ g i
unfolding sum_below
sum-tight f g zero e q i h = absurd (omega arith)
sum-tight f g (suc n) e q i h =
    let p = sum-most f g n (λ j k. e j (omega arith)) in
    let l = e n (omega arith) in
    on-lt i n
    (λ k. sum-tight f g n (λ j k. e j (omega arith)) (omega arith) i k)
    (λ k. rw (← last-is i n h k) (omega arith))

-- a count: none, at most one, and two
pub count_none : (t : ℕ → Bool) (n : ℕ) → ((i : ℕ) → i < n → t i ≡ false) → count_below n t ≡ 0
count_none t n e = sum_same (λ i. cond (t i) 1 0) (λ i. 0) n (λ i h. rw (e i h)) ∙ sum-zero n

pub count-once : (t : ℕ → Bool) (n : ℕ) → ((i j : ℕ) → i < j → j < n → t i ≡ true → t j ≡ true → ⊥) → count_below n t ≤ 1
unfolding sum_below
count-once t zero e = omega arith
count-once t (suc n) e =
    on_test (t n)
    (λ p. let z = count_none t n (λ i h. on_test (t i) (λ q. absurd (e i n h (omega arith) q p)) (λ q. q)) in rw p (omega arith))
    (λ p. let l = count-once t n (λ i j h k. e i j h (omega arith)) in rw p (omega arith))

pub count-two : (t : ℕ → Bool) (i j n : ℕ) → i < j → j < n → t i ≡ true → t j ≡ true → 2 ≤ count_below n t
count-two t i j n h k p q =
    let f : ℕ → ℕ = λ i. cond (t i) 1 0 in
    let a : ◌≡◌ {A = ℕ} (cond (t i) 1 0) 1 = rw p in
    let b : ◌≡◌ {A = ℕ} (cond (t j) 1 0) 1 = rw q in
    omega (arith, sum-next i f, sum-part f (i + 1) j (omega arith), sum-next j f, sum-part f (j + 1) n (omega arith))

-- the numbers from a up to b, counted below a bound that is past them
pub count-range : (a b m : ℕ) → a ≤ b → sum_below m (λ p. cond (leb a p && ltb p b) 1 0) ≡ min m b - a
unfolding sum_below
count-range a b zero h = omega arith
count-range a b (suc m) h =
    let e = count-range a b m h in
    on-lt m a
    (λ k. rw (lt-leb a m k) (omega arith))
    (λ k. on-lt m b
    (λ l. rw (le-leb a m k, lt-ltb m b l) (omega arith))
    (λ l. rw (le-leb a m k, le-ltb m b l) (omega arith)))
