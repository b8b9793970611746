-- Laws of columns: a turn and the end of the loop that writes spaces, how long a number's text is, and that a number of up to seven digits
-- fills its column. A number counts as one of 20 digits at the most, as 64 bits have. Assumes nothing.
use mathlib.Core.Path.{◌≡◌, ap, sym}
use Prim.Native.Nat.{ℕ, zero, suc, ◌+◌, ◌*◌, ◌/◌, ◌≤◌, ◌<◌}
use native.Mathlib.Omega.{arith}
use mathlib.Core.List.{List, [], ◌∷◌, ◌++◌}
use lib.ListN.{length, length-append, length-replicate}
use Rattle.std.proofs.lemmas.Grind.{replicate_next}
use Rattle.base_choice.proofs.Branches.{by-lt}
use Rattle.text_words.specs.Numbers.{digits_text, decimal_text}
use Rattle.text_words.specs.Columns.{spaces, lead_of, column_text}
use Rattle.text_words.proofs.NumberLaws.{text-small, tens, tens-some}

-- one space more
pub spaces_next : (n : ℕ) → spaces n ++ (32 ∷ []) ≡ spaces (n + 1)
unfolding spaces
spaces_next n = sym (replicate_next n 32)

pub spaces-length : (n : ℕ) → length (spaces n) ≡ n
unfolding spaces
spaces-length n = length-replicate n 32

-- how many digits a number has: at the most, and at least
digits-length : (k n : ℕ) → length (digits_text k n) ≤ k + 1
unfolding digits_text
digits-length zero n = omega arith
digits-length (suc k) n =
    by-lt (λ (l : List ℕ). length l ≤ suc k + 1) n 10 (λ h. omega arith)
    (λ h. simp length-append (omega (arith, digits-length k (n / 10))))

pub decimal-length : (n : ℕ) → length (decimal_text n) ≤ 20
decimal-length n = digits-length 19 n

one-digit : (k n : ℕ) → n < 10 → length (digits_text k n) ≡ 1
one-digit k n h = sym (ap length (text-small k n h))

digit-more : (k n : ℕ) → 10 ≤ n → length (digits_text (suc k) n) ≡ length (digits_text k (n / 10)) + 1
unfolding digits_text
digit-more k n h =
    by-lt (λ (l : List ℕ). length l ≡ length (digits_text k (n / 10)) + 1) n 10
    (λ i. absurd (omega arith))
    (λ i. simp length-append)

digits_are : (d k n : ℕ) → d ≤ k → tens d ≤ n → n < tens d * 10 → length (digits_text k n) ≡ d + 1
unfolding tens
digits_are zero k n l h i = one-digit k n i
digits_are (suc d) zero n l h i = absurd (omega arith)
digits_are (suc d) (suc k) n l h i =
    let t = tens-some d in
    let e = digits_are d k (n / 10) (omega arith) (omega arith) (omega arith) in
    omega (arith, digit-more k n (omega arith))

-- what holds of the spaces before a number, by how many digits it has
module _ (P : ℕ → Type 0) (n : ℕ) where
  by-lead :
      (n < 10 → P 6) → (10 ≤ n → n < 100 → P 5) → (100 ≤ n → n < 1000 → P 4) → (1000 ≤ n → n < 10000 → P 3)
      → (10000 ≤ n → n < 100000 → P 2) → (100000 ≤ n → n < 1000000 → P 1) → (1000000 ≤ n → P 0) → P (lead_of n)
  unfolding lead_of
  by-lead one two three four five six seven =
      by-lt P n 10 one
      (λ h. by-lt P n 100 (two h)
      (λ i. by-lt P n 1000 (three i)
      (λ j. by-lt P n 10000 (four j)
      (λ l. by-lt P n 100000 (five l)
      (λ m. by-lt P n 1000000 (six m) seven)))))

pub lead-small : (n : ℕ) → lead_of n ≤ 6
lead-small n =
    by-lead (λ (k : ℕ). k ≤ 6) n (λ h. omega arith) (λ h i. omega arith) (λ h i. omega arith) (λ h i. omega arith)
    (λ h i. omega arith) (λ h i. omega arith) (λ h. omega arith)

pub column-length : (n : ℕ) → length (column_text n) ≤ 26
unfolding column_text
column-length n = simp (length-append, spaces-length) (omega (arith, lead-small n, decimal-length n))

module _ (n : ℕ) (most : n < 10000000) where
  fills : lead_of n + length (digits_text 19 n) ≡ 7
  unfolding tens
  fills =
      by-lead (λ (k : ℕ). k + length (digits_text 19 n) ≡ 7) n (λ h. omega (arith, one-digit 19 n h))
      (λ h i. omega (arith, digits_are 1 19 n (omega arith) h i))
      (λ h i. omega (arith, digits_are 2 19 n (omega arith) h i))
      (λ h i. omega (arith, digits_are 3 19 n (omega arith) h i))
      (λ h i. omega (arith, digits_are 4 19 n (omega arith) h i))
      (λ h i. omega (arith, digits_are 5 19 n (omega arith) h i))
      (λ h. omega (arith, digits_are 6 19 n (omega arith) h most))

  pub column-wide : length (column_text n) ≡ 7
  unfolding column_text
  column-wide = simp (length-append, spaces-length) fills
