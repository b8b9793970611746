-- The loop over 5C: what is left to read, with the tags seen so far, gives the answer. The count is any number from the bytes left upwards.
use Prim.Native.Nat.{ℕ, zero, suc, ◌-◌, ◌≤◌, ◌<◌}
use mathlib.Core.Path.{◌≡◌, refl, sym, ◌∙◌}
use mathlib.Core.List.{List}
use mathlib.Core.Bool.{Bool, false}
use native.Mathlib.Omega.{arith}
use Rattle.std.specs.Prelude.{Option, None}
use Rattle.base_choice.proofs.Branches.{le!, nle! }
use Rattle.read_tlv.specs.Tlv.{tag_read, tag_at}
use Rattle.card_isdp.specs.declared.Tags.{Tags}
use Rattle.read_fields.specs.GetStatus.{tags_read, tag_noted, listed_within, listed_at}

unfoldable pub Left : Option Tags → List ℕ → ℕ → ℕ → Bool → Bool → Type 0
Left o s at end life fall_back = (n : ℕ) × ((end - at ≤ n) × (o ≡ listed_within n s at end life fall_back))

module _ (s : List ℕ) (end : ℕ) where
  pub left-start : (at : ℕ) → Left (listed_at s at end) s at end false false
  unfolding Left listed_at
  left-start at = (end - at, (omega arith, refl))

  module _ (o : Option Tags) (at : ℕ) (life fall_back : Bool) where
    pub left_end : end ≤ at → Left o s at end life fall_back → tags_read life fall_back ≡ o
    unfolding Left listed_within
    left_end h (zero, q) = rw q.1 refl
    left_end h (suc n, q) = rw q.1 (le! _ h refl)

    pub left-no-tag : at < end → None ≡ tag_at s at end → Left o s at end life fall_back → None ≡ o
    unfolding Left listed_within
    left-no-tag h e (zero, q) = absurd (omega arith)
    left-no-tag h e (suc n, q) = rw q.1 (nle! _ h (rw (← e) refl))

    module _ (t : ℕ) (b : Bool) (next : ℕ) (h : at < end) (e : tag_read t b next ≡ tag_at s at end) where
      pub left-unknown : None ≡ tag_noted t life fall_back → Left o s at end life fall_back → None ≡ o
      unfolding Left listed_within
      left-unknown u (zero, q) = absurd (omega arith)
      left-unknown u (suc n, q) = rw q.1 (nle! _ h (rw (← e) (rw (← u) refl)))

      pub left-next : (l f : Bool) → tags_read l f ≡ tag_noted t life fall_back → at < next → Left o s at end life fall_back → Left o s next end l f
      unfolding Left listed_within
      left-next l f u j (zero, q) = absurd (omega arith)
      left-next l f u j (suc n, q) = (n, (omega arith, q.1 ∙ sym (nle! _ h (rw (← e) (rw (← u) refl)))))
