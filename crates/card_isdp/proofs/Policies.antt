-- Table 70 by number: the bytes 00 to 04 are legal and no other. Each byte with the upper bits clear is computed; the others are over 4.
use mathlib.Core.Path.{◌≡◌, refl}
use Prim.Native.Nat.{ℕ, zero, suc, ◌/◌, ◌≤◌}
use native.Mathlib.Omega.{arith}
use lib.Dec.{leb}
use borrow.Author.Tests.{ne_eqb, lt-leb}
use Rattle.card_isdp.specs.Policy.{policy_ok}
use Rattle.card_isdp.specs.Clauses.{PolicyBytes}

over : (b : ℕ) → 8 ≤ b → policy_ok b ≡ leb b 4
over b h = rw (ne_eqb (b / 8) 0 (λ e. omega arith), lt-leb b 4 (omega arith))

pub policy-number : PolicyBytes
policy-number zero = refl
policy-number (suc zero) = refl
policy-number (suc (suc zero)) = refl
policy-number (suc (suc (suc zero))) = refl
policy-number (suc (suc (suc (suc zero)))) = refl
policy-number (suc (suc (suc (suc (suc zero))))) = refl
policy-number (suc (suc (suc (suc (suc (suc zero)))))) = refl
policy-number (suc (suc (suc (suc (suc (suc (suc zero))))))) = refl
policy-number (suc (suc (suc (suc (suc (suc (suc (suc b)))))))) = over (suc (suc (suc (suc (suc (suc (suc (suc b)))))))) (omega arith)
