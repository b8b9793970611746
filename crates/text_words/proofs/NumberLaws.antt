-- Laws of numbers. Each law on reading takes the loop's equation first, so that a proof finds the numbers by it; then it says
-- which way the next byte, or the end, decides.
use mathlib.Core.Path.{◌≡◌, refl, ap, sym, ◌∙◌}
use Prim.Native.Nat.{ℕ, zero, suc, ◌+◌, ◌-◌, ◌*◌, ◌/◌, ◌%◌, ◌^◌, ◌≤◌, ◌<◌}
use native.Mathlib.Omega.{arith}
use mathlib.Core.List.{List, [], ◌∷◌, ◌++◌}
use lib.ListN.{length, get_or}
use Rattle.text_words.specs.Numbers.{digits_on, decimal_of, digits_text, decimal_text}
use Rattle.std.specs.Prelude.{Option, Some, None}
use Rattle.base_choice.proofs.Branches.{by-lt, lt!, nlt! }
use Rattle.base_bytes.proofs.Rest.{rest, rest-one, rest_end}

pub decimal-none : (most : ℕ) (s : List ℕ) → length s ≡ 0 → None ≡ decimal_of most s
unfolding decimal_of
decimal-none most [] h = refl
decimal-none most (c ∷ cs) h = absurd (omega arith)

pub decimal-some : (most : ℕ) (s : List ℕ) → (length s ≡ 0 → ⊥) → decimal_of most s ≡ digits_on most 0 s
unfolding decimal_of
decimal-some most [] h = absurd (h refl)
decimal-some most (c ∷ cs) h = refl

module _ (most v : ℕ) (s : List ℕ) (i : ℕ) (o : Option ℕ) (q : digits_on most v (rest s i) ≡ o) where
  pub digits-end : length s ≤ i → Some v ≡ o
  unfolding digits_on
  digits-end h = rw (rest_end s i h) at q

  module _ (h : i < length s) where
    pub digits_low : get_or s i 0 < 48 → None ≡ o
    unfolding digits_on
    digits_low k = rw (← q, rest-one s i h) (lt! _ k refl)

    pub digits-high : 48 ≤ get_or s i 0 → 57 < get_or s i 0 → None ≡ o
    unfolding digits_on
    digits-high k l = rw (← q, rest-one s i h) (nlt! _ k (lt! _ l refl))

    module _ (k : 48 ≤ get_or s i 0) (l : get_or s i 0 ≤ 57) where
      pub digits-much : most < v * 10 + (get_or s i 0 - 48) → None ≡ o
      unfolding digits_on
      digits-much m = rw (← q, rest-one s i h) (nlt! _ k (nlt! _ l (lt! _ m refl)))

      pub digits-next : v * 10 + (get_or s i 0 - 48) ≤ most → digits_on most (v * 10 + (get_or s i 0 - 48)) (rest s (i + 1)) ≡ o
      unfolding digits_on
      digits-next m = rw (← q, rest-one s i h) (nlt! _ k (nlt! _ l (nlt! _ m refl)))

-- writing: fewer than ten, the last digit allowed, and the others
pub text-small : (k n : ℕ) → n < 10 → (48 + n % 10) ∷ [] ≡ digits_text k n
unfolding digits_text
text-small zero n h = refl
text-small (suc k) n h = lt! _ h refl

pub text-one : (k n : ℕ) → n < 10 → (48 + n) ∷ [] ≡ digits_text k n
text-one k n h = let e : n ≡ n % 10 = omega arith in ap (λ (d : ℕ). (48 + d) ∷ []) e ∙ text-small k n h

pub text-last : (k n : ℕ) → k ≡ 0 → (48 + n % 10) ∷ [] ≡ digits_text k n
unfolding digits_text
text-last zero n h = refl
text-last (suc k) n h = absurd (omega arith)

pub text-more : (k n : ℕ) → 10 ≤ n → (k ≡ 0 → ⊥) → digits_text (k - 1) (n / 10) ++ ((48 + n % 10) ∷ []) ≡ digits_text k n
unfolding digits_text
text-more zero n h f = absurd (f refl)
text-more (suc k) n h f = let e : suc k - 1 ≡ k = omega arith in rw e (nlt! _ h refl)

-- a power of ten
unfoldable pub tens : ℕ → ℕ
tens zero = 1
tens (suc d) = tens d * 10

pub tens-some : (d : ℕ) → 1 ≤ tens d
unfolding tens
tens-some zero = omega arith
tens-some (suc d) = let h = tens-some d in omega arith

-- a number of fewer digits than are allowed is spelled as it is where one more is allowed
digits_steady : (k n : ℕ) → n < tens (suc k) → digits_text k n ≡ digits_text (suc k) n
unfolding digits_text tens
digits_steady zero n h = lt! _ (omega arith) refl
digits_steady (suc k) n h = let e = digits_steady k (n / 10) (omega arith) in rw e

-- the digits before the last one are those of a tenth of the number
pub text-next : (n : ℕ) → 10 ≤ n → n < 2 ^ 64 → decimal_text (n / 10) ++ ((48 + n % 10) ∷ []) ≡ decimal_text n
unfolding tens
text-next n h k =
    let e = digits_steady 18 (n / 10) (omega arith) in
    ap (λ (l : List ℕ). l ++ ((48 + n % 10) ∷ [])) (sym e) ∙ text-more 19 n h (λ f. absurd (omega arith))

-- what was read is at most what is allowed
digits-within : (most v n : ℕ) (s : List ℕ) → v ≤ most → Some n ≡ digits_on most v s → n ≤ most
unfolding digits_on
digits-within most v n [] h q = let z : n ≡ v = cc in omega arith
digits-within most v n (c ∷ cs) h q =
    by-lt (λ (x : Option ℕ). Some n ≡ x → n ≤ most) c 48
    (λ k p. let z : ◌≡◌ {A = ℕ} 0 1 = cc in absurd (omega arith))
    (λ k.
    by-lt (λ (x : Option ℕ). Some n ≡ x → n ≤ most) 57 c
    (λ l p. let z : ◌≡◌ {A = ℕ} 0 1 = cc in absurd (omega arith))
    (λ l.
    by-lt (λ (x : Option ℕ). Some n ≡ x → n ≤ most) most (v * 10 + (c - 48))
    (λ m p. let z : ◌≡◌ {A = ℕ} 0 1 = cc in absurd (omega arith))
    (λ m p. digits-within most (v * 10 + (c - 48)) n cs m p)))
    q

pub decimal-within : (most n : ℕ) (s : List ℕ) → Some n ≡ decimal_of most s → n ≤ most
unfolding decimal_of
decimal-within most n [] q = let z : ◌≡◌ {A = ℕ} 0 1 = cc in absurd (omega arith)
decimal-within most n (c ∷ cs) q = digits-within most 0 n (c ∷ cs) (omega arith) q
