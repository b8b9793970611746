-- The rules of `pick`. A proof of `z ≡ pick (at_most a b) x y` names the branches that lead to z: `le! _ (omega arith) (ne! _ (omega arith) refl)`;
-- a property of a whole nest is proved branch by branch with `each`, `each-le`, `each-lt`, `each-eq`, which hand over the test's fact.
use Prim.Native.Nat.{ℕ, ◌≤◌, ◌<◌}
use mathlib.Core.Path.{◌≡◌, refl}
use mathlib.Core.Bool.{Bool, true, false}
use borrow.Author.Tests.{le-ltb, lt-ltb, le-leb, lt-leb, eq-eqb, ne_eqb, leb-true, leb-false, ltb-true, ltb-false, eqb-true, eqb-false}
use Rattle.base_choice.specs.Choice.{pick, at_most, is_below, is_same}
use lib.Dec.{ltb, eqb}

module _ {ℓ} {X : Type ℓ} where
  pub yes! : {c : Bool} {x z : X} (y : X) → c ≡ true → z ≡ x → z ≡ pick c x y
  unfolding pick
  yes! y e p = rw e p

  pub no! : {c : Bool} {y z : X} (x : X) → c ≡ false → z ≡ y → z ≡ pick c x y
  unfolding pick
  no! x e p = rw e p

  pub le! : {a b : ℕ} {x z : X} (y : X) → a ≤ b → z ≡ x → z ≡ pick (at_most a b) x y
  unfolding at_most
  le! {a} {b} y h = yes! y (le-leb a b h)

  pub nle! : {a b : ℕ} {y z : X} (x : X) → b < a → z ≡ y → z ≡ pick (at_most a b) x y
  unfolding at_most
  nle! {a} {b} x h = no! x (lt-leb a b h)

  pub lt! : {a b : ℕ} {x z : X} (y : X) → a < b → z ≡ x → z ≡ pick (is_below a b) x y
  unfolding is_below
  lt! {a} {b} y h = yes! y (lt-ltb a b h)

  pub nlt! : {a b : ℕ} {y z : X} (x : X) → b ≤ a → z ≡ y → z ≡ pick (is_below a b) x y
  unfolding is_below
  nlt! {a} {b} x h = no! x (le-ltb a b h)

  pub eq! : {a b : ℕ} {x z : X} (y : X) → a ≡ b → z ≡ x → z ≡ pick (is_same a b) x y
  unfolding is_same
  eq! {a} {b} y h = yes! y (eq-eqb a b h)

  pub ne! : {a b : ℕ} {y z : X} (x : X) → (a ≡ b → ⊥) → z ≡ y → z ≡ pick (is_same a b) x y
  unfolding is_same
  ne! {a} {b} x h = no! x (ne_eqb a b h)

  pub each : (P : X → Type 0) (c : Bool) {x y : X} → (c ≡ true → P x) → (c ≡ false → P y) → P (pick c x y)
  unfolding pick
  each P true p q = p refl
  each P false p q = q refl

  pub each-le : (P : X → Type 0) {a b : ℕ} {x y : X} → (a ≤ b → P x) → (b < a → P y) → P (pick (at_most a b) x y)
  unfolding at_most
  each-le P {a} {b} p q = each P (at_most a b) (λ e. p (leb-true a b e)) (λ e. q (leb-false a b e))

  pub each-lt : (P : X → Type 0) {a b : ℕ} {x y : X} → (a < b → P x) → (b ≤ a → P y) → P (pick (is_below a b) x y)
  unfolding is_below
  each-lt P {a} {b} p q = each P (is_below a b) (λ e. p (ltb-true a b e)) (λ e. q (ltb-false a b e))

  pub each-eq : (P : X → Type 0) {a b : ℕ} {x y : X} → (a ≡ b → P x) → ((a ≡ b → ⊥) → P y) → P (pick (is_same a b) x y)
  unfolding is_same
  each-eq P {a} {b} p q = each P (is_same a b) (λ e. p (eqb-true a b e)) (λ e. q (eqb-false a b e))

-- the same with the numbers written out, where the goal does not show them
module _ {ℓ} {X : Type ℓ} (P : X → Type 0) where
  pub by-lt : (a b : ℕ) {x y : X} → (a < b → P x) → (b ≤ a → P y) → P (pick (is_below a b) x y)
  by-lt a b f g = each-lt P {a = a} {b = b} f g

  pub by_le : (a b : ℕ) {x y : X} → (a ≤ b → P x) → (b < a → P y) → P (pick (at_most a b) x y)
  by_le a b f g = each-le P {a = a} {b = b} f g

  pub by-eq : (a b : ℕ) {x y : X} → (a ≡ b → P x) → ((a ≡ b → ⊥) → P y) → P (pick (is_same a b) x y)
  by-eq a b f g = each-eq P {a = a} {b = b} f g

-- the same where the goal names no choice: a fact that either outcome of a test shows
module _ {G : Type 0} where
  pub on_test : (c : Bool) → (c ≡ true → G) → (c ≡ false → G) → G
  on_test true f g = f refl
  on_test false f g = g refl

  pub on-lt : (a b : ℕ) → (a < b → G) → (b ≤ a → G) → G
  on-lt a b f g = on_test (ltb a b) (λ e. f (ltb-true a b e)) (λ e. g (ltb-false a b e))

  pub on-eq : (a b : ℕ) → (a ≡ b → G) → ((a ≡ b → ⊥) → G) → G
  on-eq a b f g = on_test (eqb a b) (λ e. f (eqb-true a b e)) (λ e. g (eqb-false a b e))
