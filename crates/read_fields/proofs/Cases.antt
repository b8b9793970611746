-- A property of what comes of an answer is proved case by case, as `each-found` does for an element; each case hands over what the answer was.
-- And two facts on a value that may be missing: it is the one that it is said to be, and a missing one is none.
use Prim.Native.Nat.{ℕ}
use mathlib.Core.Path.{◌≡◌, refl, subst}
use mathlib.Core.Option.{none, some}
use mathlib.Core.Bool.{Bool, true, false}
use native.Mathlib.Omega.{arith}
use Rattle.std.specs.Prelude.{Option, Some, None}
use Rattle.read_tlv.specs.declared.Tag.{Tag}
use Rattle.read_tlv.specs.Tlv.{tag_read}
use Rattle.read_fields.specs.declared.Dgi.{Dgi}
use Rattle.card_isdp.specs.declared.Tags.{Tags}
use Rattle.read_fields.specs.StoreData.{dgi_read, on_dgi}
use Rattle.read_fields.specs.Delete.{on_filled}
use Rattle.read_fields.specs.GetStatus.{tags_read, on_tag, on_shown}

module _ {ℓ} {X : Type ℓ} (P : X → Type 0) where
  pub each-dgi : (r : Option Dgi) {w : X} {f : ℕ → ℕ → X} → P w → ((number start : ℕ) → dgi_read number start ≡ r → P (f number start)) → P (on_dgi r w f)
  each-dgi None p q = p
  each-dgi (Some d) p q = q d.number d.start refl

  pub each-filled : (r : Bool) {w x : X} → P w → (true ≡ r → P x) → P (on_filled r w x)
  each-filled false p q = p
  each-filled true p q = q refl

  pub each-tag : (r : Option Tag) {w : X} {f : ℕ → ℕ → X} → P w → ((t : ℕ) (c : Bool) (next : ℕ) → tag_read t c next ≡ r → P (f t next)) → P (on_tag r w f)
  each-tag None p q = p
  each-tag (Some t) p q = q t.tag t.constructed t.next refl

  pub each-shown : (r : Option Tags) {w : X} {f : Bool → Bool → X} → P w → ((life shown : Bool) → tags_read life shown ≡ r → P (f life shown)) → P (on_shown r w f)
  each-shown None p q = p
  each-shown (Some tags) p q = q tags.life tags.fall_back refl

pub same-value : {X : Type 0} (P : X → Type 0) (v w : X) → P v → some v ≡ some w → P w
same-value P v w p q = let e : v ≡ w = cc in subst P e p

pub no_value : {X : Type 0} (P : Type 0) (w : X) → none ≡ some w → P
no_value P w q = let z : ◌≡◌ {A = ℕ} 0 1 = cc in absurd (omega arith)
