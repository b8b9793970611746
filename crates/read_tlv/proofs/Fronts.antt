-- What is read in a window is read of the bytes before its end alone: two lists that have the same bytes there give the same answer.
-- Each law follows the branches of its definition over the one list, and names them over the other.
use Prim.Native.Nat.{ℕ, ◌+◌, ◌≤◌, ◌<◌}
use mathlib.Core.Path.{◌≡◌, refl, ap, ◌∙◌}
use mathlib.Core.List.{List}
use native.Mathlib.Omega.{arith}
use lib.ListN.{length, take}
use lib.Seq.{get_or-take, length-take-le}
use Rattle.std.specs.Prelude.{Option, Some, None}
use Rattle.read_tlv.specs.declared.Tag.{Tag}
use Rattle.read_tlv.specs.declared.Length.{Length}
use Rattle.base_bytes.specs.Bytes.{byte}
use Rattle.read_tlv.specs.Tlv.{tag_at, length_at, head_at, after_tag, after_length, expect_at, expect_of}
use Rattle.base_choice.proofs.Branches.{le!, nle!, lt!, nlt!, eq!, ne!, each-le, each-lt, each-eq}

pub record Agree (l s : List ℕ) (end : ℕ) : Type 0 where
  pub left : end ≤ length l
  pub right : end ≤ length s
  pub same : (i : ℕ) → i < end → byte l i ≡ byte s i

module _ (l s : List ℕ) (end : ℕ) (g : Agree l s end) where
  tag-agrees : (at : ℕ) → tag_at l at end ≡ tag_at s at end
  unfolding tag_at
  tag-agrees at =
      let P : Option Tag → Type 0 = λ z. z ≡ tag_at s at end in
      let held = g.left in let held' = g.right in
      each-lt P (λ h. absurd (omega arith)) (λ _. each-le P (λ i. nlt! _ held' (le! _ i refl)) (λ i.
      let first : byte l at ≡ byte s at = g.same at i in
      each-eq P
      (λ e. each-le P (λ j. nlt! _ held' (nle! _ i (eq! _ (omega arith) (le! _ j refl)))) (λ j.
      let second : byte l (at + 1) ≡ byte s (at + 1) = g.same (at + 1) j in
      each-le P (λ k. nlt! _ held' (nle! _ i (eq! _ (omega arith) (nle! _ j (le! _ (omega arith) refl)))))
      (λ k. nlt! _ held' (nle! _ i (eq! _ (omega arith) (nle! _ j (nle! _ (omega arith) cc)))))))
      (λ e. nlt! _ held' (nle! _ i (ne! _ (λ q. e (omega arith)) cc)))))

  length-agrees : (at : ℕ) → length_at l at end ≡ length_at s at end
  unfolding length_at
  length-agrees at =
      let P : Option Length → Type 0 = λ z. z ≡ length_at s at end in
      let held = g.left in let held' = g.right in
      each-lt P (λ h. absurd (omega arith)) (λ _. each-le P (λ i. nlt! _ held' (le! _ i refl)) (λ i.
      let first : byte l at ≡ byte s at = g.same at i in
      each-lt P (λ h. nlt! _ held' (nle! _ i (lt! _ (omega arith) cc))) (λ h.
      each-eq P
      (λ e. each-le P (λ j. nlt! _ held' (nle! _ i (nlt! _ (omega arith) (eq! _ (omega arith) (le! _ j refl))))) (λ j.
      let second : byte l (at + 1) ≡ byte s (at + 1) = g.same (at + 1) j in
      each-lt P (λ k. nlt! _ held' (nle! _ i (nlt! _ (omega arith) (eq! _ (omega arith) (nle! _ j (lt! _ (omega arith) refl))))))
      (λ k. nlt! _ held' (nle! _ i (nlt! _ (omega arith) (eq! _ (omega arith) (nle! _ j (nlt! _ (omega arith) cc))))))))
      (λ e. nlt! _ held' (nle! _ i (nlt! _ (omega arith) (ne! _ (λ q. e (omega arith)) refl)))))))

  after-agrees : (r : Option Tag) → after_tag l end r ≡ after_tag s end r
  unfolding after_tag
  after-agrees None = refl
  after-agrees (Some t) = ap (after_length end t.tag t.constructed) (length-agrees t.next)

  head-agrees : (at : ℕ) → head_at l at end ≡ head_at s at end
  unfolding head_at
  head-agrees at = after-agrees (tag_at l at end) ∙ ap (after_tag s end) (tag-agrees at)

  pub expect-agrees : (at t low high : ℕ) → expect_at l at end t low high ≡ expect_at s at end t low high
  unfolding expect_at
  expect-agrees at t low high = ap (expect_of t low high) (head-agrees at)

-- the bytes before the end, cut out
pub front-agrees : (s : List ℕ) (end : ℕ) → end ≤ length s → Agree (take end s) s end
front-agrees s end h =
    let n : length (take end s) ≡ end = length-take-le end s h in
    record { left = omega arith; right = h; same = λ i j. get_or-take end s i 0 j }
