-- The quota read is the number of its bytes, high byte first: 2 or 4 of them, each case by computing.
use Prim.Native.Nat.{ℕ, ◌+◌, ◌-◌, ◌*◌, ◌≤◌}
use mathlib.Core.Path.{◌≡◌}
use mathlib.Core.List.{List}
use native.Mathlib.Omega.{arith}
use lib.ListN.{length}
use Rattle.base_bytes.specs.Bytes.{byte}
use Rattle.read_tlv.specs.Encoding.{window}
use Rattle.base_choice.proofs.Branches.{each-eq}
use Rattle.read_tlv.proofs.Windows.{window-first}
use Rattle.read_tlv.proofs.Written.{window-two}
use Rattle.read_install.specs.Parameters.{number_at}
use Rattle.read_install.specs.Grammar.{high_first}

module _ (s : List ℕ) (at : ℕ) where
  two : at + 2 ≤ length s → byte s at * 256 + byte s (at + 1) ≡ high_first 0 (window s at (at + 2))
  unfolding high_first
  two h =
      let e : at + 2 ≡ at + 1 + 1 = omega arith in
      rw e (rw (window-two s at (omega arith)) (omega arith))

  four : at + 4 ≤ length s
      → (byte s at * 256 + byte s (at + 1)) * 65536 + (byte s (at + 2) * 256 + byte s (at + 2 + 1)) ≡ high_first 0 (window s at (at + 4))
  unfolding high_first
  four h =
      let e : at + 4 ≡ at + 2 + 1 + 1 = omega arith in
      let f : at + 1 + 1 ≡ at + 2 = omega arith in
      rw e (rw (window-first s at (at + 2 + 1 + 1) (omega arith) (omega arith))
      (rw (window-first s (at + 1) (at + 2 + 1 + 1) (omega arith) (omega arith)) (rw f (rw (window-two s (at + 2) (omega arith)) (omega arith)))))

pub number-first : (s : List ℕ) (at stop : ℕ) → at ≤ stop → stop ≤ length s → 2 ≤ stop - at → stop - at ≤ 4 → (stop - at ≡ 3 → ⊥)
    → number_at s at (stop - at) ≡ high_first 0 (window s at stop)
unfolding number_at
number-first s at stop o h i j k =
    let P : ℕ → Type 0 = λ z. z ≡ high_first 0 (window s at stop) in
    each-eq P
    (λ n. let e : stop ≡ at + 2 = omega arith in rw e (two s at (omega arith)))
    (λ n. let e : stop ≡ at + 4 = omega arith in rw e (four s at (omega arith)))
