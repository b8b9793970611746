-- The numbers below a bound: whether some passes a test, which is the first that does, what a figure of each adds up to,
-- and how many pass.
use Rattle.std.specs.Prelude.{ℕ, zero, suc, ◌+◌, Bool, false, cond, ◌||◌}

unfoldable pub some_below : ℕ → (ℕ → Bool) → Bool
some_below zero t = false
some_below (suc n) t = some_below n t || t n

-- the first that passes; the bound where none does
unfoldable pub first_below : ℕ → (ℕ → Bool) → ℕ
first_below zero t = zero
first_below (suc n) t = cond (some_below n t) (first_below n t) (cond (t n) n (suc n))

unfoldable pub sum_below : ℕ → (ℕ → ℕ) → ℕ
sum_below zero f = 0
sum_below (suc n) f = sum_below n f + f n

abbrev pub count_below : ℕ → (ℕ → Bool) → ℕ
count_below n t = sum_below n (λ i. cond (t i) 1 0)
