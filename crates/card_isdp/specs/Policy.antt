-- Document 01, 'The card': the three rules of a policy byte, coded as in 000, Table 70 (POL1).
-- Bit 1: disabling forbidden; bit 2: deletion forbidden; bit 3: delete once disabled.
use Rattle.std.specs.Prelude.{ℕ, ◌/◌, ◌%◌, Bool, true, ◌&&◌, ◌||◌, eqb}

abbrev pub forbids_disabling : ℕ → Bool
forbids_disabling b = eqb (b % 2) 1

abbrev pub forbids_deletion : ℕ → Bool
forbids_deletion b = eqb (b / 2 % 2) 1

abbrev pub once_disabled : ℕ → Bool
once_disabled b = eqb (b / 4 % 2) 1

-- what a row of Table 70 has in a column: 0, 1 or "-"
abbrev pub bit0 : ℕ → Bool
bit0 bit = eqb bit 0

abbrev pub bit1 : ℕ → Bool
bit1 bit = eqb bit 1

abbrev pub any_bit : ℕ → Bool
any_bit bit = true

-- the byte has bits b3, b2 and b1 as a row of the table has them
abbrev pub policy_row : (ℕ → Bool) → (ℕ → Bool) → (ℕ → Bool) → ℕ → Bool
policy_row b3 b2 b1 b = b3 (b / 4 % 2) && (b2 (b / 2 % 2) && b1 (b % 2))

-- Table 70, row for row; "Other combinations are forbidden", so 05, 06 and 07 are not legal (decision 1)
abbrev pub in_table70 : ℕ → Bool
in_table70 b =
    policy_row bit0 bit0 bit0 b
    || (policy_row bit0 any_bit bit1 b
    || (policy_row bit0 bit1 any_bit b
    || policy_row bit1 bit0 bit0 b))

-- b8 to b4 are for future use in Table 70; document 01: "wrong data, as is any other bit set" (decisions 1, 2)
abbrev pub policy_ok : ℕ → Bool
policy_ok b = eqb (b / 8) 0 && in_table70 b
