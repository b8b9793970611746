-- A choice by a test. The definitions of what is read and written are nests of it, in the order in which the code asks.
-- The tests are shut, so that a rule about one finds its numbers in the goal (the rules: proofs/Branches.antt).
use Rattle.std.specs.Prelude.{ℕ, Bool, true, false, leb, ltb, eqb}

unfoldable pub pick {ℓ} : {X : Type ℓ} → Bool → X → X → X
pick true x y = x
pick false x y = y

unfoldable pub at_most : ℕ → ℕ → Bool
at_most a b = leb a b

unfoldable pub is_below : ℕ → ℕ → Bool
is_below a b = ltb a b

unfoldable pub is_same : ℕ → ℕ → Bool
is_same a b = eqb a b
