-- How the numbers of notifications run, by computing; and from that alone, that the next number is a number again, and another one.
use mathlib.Core.Path.{◌≡◌, refl}
use Prim.Native.Nat.{ℕ, ◌≤◌}
use native.Mathlib.Omega.{arith}
use mathlib.Core.Bool.{Bool, true, false}
use lib.Dec.{eqb}
use borrow.Author.Tests.{ne_eqb, eqb-true, eqb-false}
use Rattle.card_isdp.specs.Sizes.{last_number}
use Rattle.card_record.specs.Clock.{next_number}
use Rattle.card_record.specs.Numbers.{NumbersRun}

pub numbers-run : NumbersRun
numbers-run = record { next = λ n h. rw (ne_eqb n last_number (λ e. omega arith)) refl; around = refl }

small-case : (n : ℕ) (b : Bool) → eqb n 65535 ≡ b → n ≤ 65535 → next_number n ≤ 65535
small-case n true e h = rw (eqb-true n 65535 e, numbers-run.around) (omega arith)
small-case n false e h =
    let k : n ≡ 65535 → ⊥ = eqb-false n 65535 e in
    rw (numbers-run.next n (omega arith)) (omega arith)

pub next_small : (n : ℕ) → n ≤ last_number → next_number n ≤ last_number
next_small n h = small-case n (eqb n 65535) refl h

other-case : (n : ℕ) (b : Bool) → eqb n 65535 ≡ b → n ≤ 65535 → next_number n ≡ n → ⊥
other-case n true e h q = let k = eqb-true n 65535 e in let z : next_number n ≡ 0 = rw k numbers-run.around in omega arith
other-case n false e h q =
    let k : n ≡ 65535 → ⊥ = eqb-false n 65535 e in
    let z = numbers-run.next n (omega arith) in omega arith

pub next-differs : (n : ℕ) → n ≤ last_number → next_number n ≡ n → ⊥
next-differs n h = other-case n (eqb n 65535) refl h
