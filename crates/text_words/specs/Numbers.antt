-- Decimal numbers as text, in ASCII.
use Rattle.std.specs.Prelude.{ℕ, zero, suc, ◌+◌, ◌-◌, ◌*◌, ◌/◌, ◌%◌, List, [], ◌∷◌, ◌++◌, Option, Some, None}
use Rattle.base_choice.specs.Choice.{pick, is_below}

-- what the digits spell after `value`; what is no digit is wrong, and so is more than `most`
unfoldable pub digits_on : ℕ → ℕ → List ℕ → Option ℕ
digits_on most value [] = Some value
digits_on most value (c ∷ cs) =
    pick (is_below c 48) None
    (pick (is_below 57 c) None
    (pick (is_below most (value * 10 + (c - 48))) None
    (digits_on most (value * 10 + (c - 48)) cs)))

-- no digits are no number; zeros may stand in front (decision B25)
unfoldable pub decimal_of : ℕ → List ℕ → Option ℕ
decimal_of most [] = None
decimal_of most (c ∷ cs) = digits_on most 0 (c ∷ cs)

-- the last k + 1 digits of n at the most, with no zeros in front
unfoldable pub digits_text : ℕ → ℕ → List ℕ
digits_text zero n = (48 + n % 10) ∷ []
digits_text (suc k) n = pick (is_below n 10) ((48 + n % 10) ∷ []) (digits_text k (n / 10) ++ ((48 + n % 10) ∷ []))

-- a number of 64 bits has at most 20 digits
abbrev pub decimal_text : ℕ → List ℕ
decimal_text n = digits_text 19 n
