-- Document 01, 'Sizes' and 'The card': what a sound card asks of one place, clause by clause over its fields, in the papers' numbers. The test of a
-- place says yes exactly where these hold.
use Rattle.std.specs.Prelude.{ℕ, ◌≤◌, ◌≡◌, ◌⊎◌, true, length, get_or, leb}
use Rattle.card_isdp.specs.Policy.{policy_ok}
use Rattle.card_isdp.specs.Place.{place_ok}
use Rattle.card_isdp.specs.declared.Isdp.{Isdp}

-- a place that is held
pub record HeldPlace (capacity : ℕ) (p : Isdp) : Type 0 where
  -- "AID 5 to 16 bytes", in a field of sixteen; "bytes past an AID's length are zero"
  pub aid-field : length p.aid.bytes ≡ 16
  pub aid-least : 5 ≤ p.aid.len
  pub aid-most : p.aid.len ≤ 16
  pub aid-past : (i : ℕ) → p.aid.len ≤ i → get_or p.aid.bytes i 0 ≡ 0
  -- "SELECTABLE 07, PERSONALIZED 0F, DISABLED 1F, ENABLED 3F"
  pub life-cycle : (p.life ≡ 0x07) ⊎ (p.life ≡ 0x0F) ⊎ (p.life ≡ 0x1F) ⊎ (p.life ≡ 0x3F)
  -- "Quota 1 byte up to capacity"; "used within quota"
  pub quota-least : 1 ≤ p.quota
  pub quota-most : p.quota ≤ capacity
  pub used-most : p.used ≤ p.quota
  -- 000, Table 70: 00, 01, 02, 03 and 04
  pub policy-most : p.policy ≤ 4
  -- request 2026-02: the mark is 0 or 1
  pub mark-most : p.mark ≤ 1

-- "places not held .. are zero"
pub record ZeroPlace (p : Isdp) : Type 0 where
  pub aid-field : length p.aid.bytes ≡ 16
  pub aid-zero : (i : ℕ) → get_or p.aid.bytes i 0 ≡ 0
  pub aid-none : p.aid.len ≡ 0
  pub life-zero : p.life ≡ 0
  pub quota-zero : p.quota ≡ 0
  pub used-zero : p.used ≡ 0
  pub policy-zero : p.policy ≡ 0
  pub mark-zero : p.mark ≡ 0

-- the one or the other, by itself
abbrev pub RightPlace : ℕ → Isdp → Type 0
RightPlace capacity p = HeldPlace capacity p ⊎ ZeroPlace p

pub record PlaceClauses : Type 0 where
  pub asked : (capacity : ℕ) (p : Isdp) → place_ok capacity p ≡ true → RightPlace capacity p
  pub enough : (capacity : ℕ) (p : Isdp) → RightPlace capacity p → place_ok capacity p ≡ true

-- of the values of a policy byte, and of every other number: 0 to 4 are legal
abbrev pub PolicyBytes : Type 0
PolicyBytes = (b : ℕ) → policy_ok b ≡ leb b 4
