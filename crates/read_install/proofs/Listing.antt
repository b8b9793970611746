-- The loop over C9's value: what is left to read at a place gives the answer of the whole, whatever count from the bytes left upwards
-- is taken; each 81 read moves the place on and takes one from the count.
use Prim.Native.Nat.{ℕ, zero, suc, ◌-◌, ◌≤◌, ◌<◌}
use mathlib.Core.Path.{◌≡◌, refl, sym, ◌∙◌}
use mathlib.Core.List.{List}
use mathlib.Core.Bool.{Bool, true, false}
use Rattle.std.specs.Prelude.{None}
use native.Mathlib.Omega.{arith}
use Rattle.read_tlv.specs.Tlv.{element_read, expect_at}
use Rattle.base_choice.proofs.Branches.{le!, nle! }
use Rattle.read_install.specs.Parameters.{protocols_within, protocols_at}

unfoldable pub Left : Bool → List ℕ → ℕ → ℕ → Type 0
Left o s from end = (n : ℕ) × ((end - from ≤ n) × (o ≡ protocols_within n s from end))

module _ (s : List ℕ) (end : ℕ) where
  pub left-start : (at : ℕ) → Left (protocols_at s at end) s at end
  unfolding Left protocols_at
  left-start at = (end - at, (omega arith, refl))

  module _ (o : Bool) (from : ℕ) where
    pub left_end : end ≤ from → Left o s from end → true ≡ o
    unfolding Left protocols_within
    left_end h (zero, q) = sym q.1
    left_end h (suc n, q) = rw q.1 (le! _ h refl)

    pub left-wrong : from < end → None ≡ expect_at s from end 0x81 2 2 → Left o s from end → false ≡ o
    unfolding Left protocols_within
    left-wrong h e (zero, q) = absurd (omega arith)
    left-wrong h e (suc n, q) = rw q.1 (nle! _ h (rw (← e) refl))

    pub left-next : (start stop : ℕ) → from < end → element_read start stop ≡ expect_at s from end 0x81 2 2 → from < stop → Left o s from end → Left o s stop end
    unfolding Left protocols_within
    left-next start stop h e j (zero, q) = absurd (omega arith)
    left-next start stop h e j (suc n, q) = (n, (omega arith, q.1 ∙ sym (nle! _ h (rw (← e) refl))))
