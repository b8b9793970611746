-- What holds of a wrong element and of each found one holds of what comes of it. Assumes nothing.
use Prim.Native.Nat.{ℕ}
use mathlib.Core.Path.{◌≡◌, refl}
use Rattle.std.specs.Prelude.{Option, Some, None}
use Rattle.read_tlv.specs.Tlv.{element_read, on_found}
use Rattle.read_tlv.specs.declared.Element.{Element}

module _ {ℓ} {X : Type ℓ} where
  -- the same for what comes of an element
  pub each-found : (P : X → Type 0) (r : Option Element) {w : X} {f : ℕ → ℕ → X} → P w → ((start stop : ℕ) → element_read start stop ≡ r → P (f start stop))
      → P (on_found r w f)
  each-found P None p q = p
  each-found P (Some e) p q = q e.start e.stop refl
