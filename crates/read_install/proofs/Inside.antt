-- What is read of create's data field lies inside it. Each law follows the branches of its definition to those that read something,
-- which say what the tests there have shown.
use Prim.Native.Nat.{ℕ, ◌+◌, ◌-◌, ◌≤◌}
use mathlib.Core.Path.{◌≡◌, refl, sym, ap, subst, ◌∙◌}
use mathlib.Core.List.{List}
use mathlib.Core.Bool.{Bool, true, false}
use Rattle.std.specs.Prelude.{Option, Some, None}
use native.Mathlib.Omega.{arith}
use Rattle.read_tlv.specs.Tlv.{length_read, element_read, length_at}
use Rattle.read_tlv.specs.declared.Length.{Length}
use Rattle.read_tlv.specs.declared.Element.{Element}
use Rattle.base_choice.proofs.Branches.{each, each-lt, each-eq}
use Rattle.read_tlv.proofs.Branches.{each-found}
use Rattle.read_tlv.proofs.Parts.{nothing, element-start, element-stop}
use Rattle.read_tlv.proofs.Inside.{Inside, length-inside}
use Rattle.read_fields.specs.Places.{FieldIn}
use Rattle.read_tlv.specs.Tlv.{expect_at}
use Rattle.read_tlv.specs.Lists.{list_wrong}
use Rattle.read_elements.specs.Reader.{alone_at}
use Rattle.read_install.specs.Parameters.{protocols_at, on_listed, number_at, grant_of, memory_at, parameters_at}
use Rattle.read_install.specs.Install.{prefixed_of, prefixed_at, names_at, rights_at, on_granted, install_of}

-- what a field after its length is: the length, and so many bytes, `low` to `high`
pub record Prefixed (s : List ℕ) (at end low high start stop : ℕ) : Type 0 where
  pub count : ℕ
  pub counted : length_read count start ≡ length_at s at end
  pub stops : stop ≡ start + count
  pub inside : Inside s at start stop end
  pub least : low ≤ count
  pub most : count ≤ high

module _ (s : List ℕ) (at end low high start stop : ℕ) where
  prefixed-of : (r : Option Length) → r ≡ length_at s at end → element_read start stop ≡ prefixed_of end low high r → Prefixed s at end low high start stop
  unfolding prefixed_of
  prefixed-of None g = nothing
  prefixed-of (Some m) g =
      let P : Option Element → Type 0 = λ z. element_read start stop ≡ z → Prefixed s at end low high start stop in
      let none : P None = nothing in
      each-lt P (λ _. none) (λ h. each-lt P (λ _. none) (λ i. each-lt P (λ _. none) (λ j q.
      let e₁ : start ≡ m.next = element-start q in let e₂ : stop ≡ m.next + m.count = element-stop q in
      let l : length_read m.count start ≡ length_at s at end = ap (length_read m.count) e₁ ∙ g in
      let p = length-inside s at end m.count start l in
      record { count = m.count; counted = l; stops = omega arith; inside = record { past = omega arith; ordered = omega arith; within = omega arith; held = omega arith }; least = omega arith; most = omega arith })))

  pub prefixed-parts : element_read start stop ≡ prefixed_at s at end low high → Prefixed s at end low high start stop
  unfolding prefixed_at
  prefixed-parts q = prefixed-of (length_at s at end) refl q

  pub prefixed-inside : element_read start stop ≡ prefixed_at s at end low high → Inside s at start stop end
  prefixed-inside q = (prefixed-parts q).inside

-- a property of what comes of an answer, by its cases
module _ {ℓ} {X : Type ℓ} (P : X → Type 0) where
  pub each-granted : (r : Option ℕ) {w : X} {f : ℕ → X} → P w → ((n : ℕ) → Some n ≡ r → P (f n)) → P (on_granted r w f)
  each-granted None p q = p
  each-granted (Some n) p q = q n refl

pub each-listed : (P : Option ℕ → Type 0) (r : Bool) {q : Option ℕ} → P None → (true ≡ r → P q) → P (on_listed r q)
each-listed P false p h = p
each-listed P true p h = h refl

-- the ISD-P AID stands in the field, and has 5 to 16 bytes
pub names-inside : (s : List ℕ) (end start stop at : ℕ) → element_read start stop ≡ names_at s at end → (own : ℕ) × Prefixed s own end 5 16 start stop
unfolding names_at
names-inside s end start stop at =
    let P : Option Element → Type 0 = λ z. element_read start stop ≡ z → (own : ℕ) × Prefixed s own end 5 16 start stop in
    let none : P None = nothing in
    each-found P (prefixed_at s at end 5 16) none λ _ next _. each-found P (prefixed_at s next end 5 16) none λ _ own _ q.
    (own, prefixed-parts s own end 5 16 start stop q)

-- a quota granted is 1 up to the capacity
abbrev Within : ℕ → Option ℕ → Type 0
Within capacity None = Unit
Within capacity (Some n) = (1 ≤ n) × (n ≤ capacity)

module _ (s : List ℕ) (at end capacity : ℕ) where
  grant-within : (number : ℕ) → Within capacity (grant_of number capacity)
  unfolding grant_of
  grant-within number = each-eq (Within capacity) (λ _. tt) (λ h. each-lt (Within capacity) (λ _. tt) (λ i. (omega arith, i)))

  memory-within : Within capacity (memory_at s at end capacity)
  unfolding memory_at
  memory-within = each-found (Within capacity) (alone_at s at end 0x83 2 4) tt λ k e _.
      each-eq (Within capacity) (λ _. tt) (λ _. grant-within (number_at s k (e - k)))

parameters-within : (s : List ℕ) (at end capacity : ℕ) → Within capacity (parameters_at s at end capacity)
unfolding parameters_at
parameters-within s at end capacity = each (Within capacity) (list_wrong s at end) (λ _. tt) λ _.
    each-found (Within capacity) (expect_at s at end 0xC9 1 255) tt λ k e _. each-listed (Within capacity) (protocols_at s k e) tt λ _.
    each-found (Within capacity) (alone_at s e end 0xEF 0 255) tt λ f t _. memory-within s f t capacity

pub install-inside : (s : List ℕ) (at end capacity : ℕ) → FieldIn s capacity (install_of s at end capacity)
unfolding install_of
install-inside s at end capacity =
    each-found (FieldIn s capacity) (names_at s at end) tt λ k e q. each-found (FieldIn s capacity) (rights_at s e end) tt λ f t _.
    each-granted (FieldIn s capacity) (parameters_at s f t capacity) tt λ n g.
    let p = (names-inside s end k e at q).1 in let i = p.inside in let c = p.stops in let l = p.least in let m = p.most in
    let w : Within capacity (Some n) = subst (Within capacity) (sym g) (parameters-within s f t capacity) in
    (record { held = omega arith; least = omega arith; most = omega arith }, record { least = w.0; most = w.1 })
