-- Whatever is read is the encoding of what was read: along the branches that read something, the bytes there are those that the encoding has.
use Prim.Native.Nat.{ℕ, ◌+◌, ◌*◌, ◌/◌, ◌%◌, ◌<◌}
use mathlib.Core.Path.{◌≡◌, sym, ap, ◌∙◌}
use mathlib.Core.List.{List, [], ◌∷◌, ◌++◌}
use mathlib.Core.Bool.{Bool}
use native.Mathlib.Omega.{arith}
use lib.ListN.{length}
use Rattle.std.specs.Prelude.{Option, None}
use Rattle.read_tlv.specs.declared.Tag.{Tag}
use Rattle.read_tlv.specs.declared.Length.{Length}
use Rattle.base_bytes.specs.Bytes.{byte}
use Rattle.read_tlv.specs.Tlv.{tag_read, length_read, element_read, tag_at, length_at, expect_at}
use Rattle.read_tlv.specs.Grammar.{ElementWritten}
use Rattle.read_tlv.specs.Encoding.{window, Bytes, encode_tag, encode_length, encode_element}
use Rattle.base_choice.proofs.Branches.{each-le, each-lt, each-eq, lt!, nlt! }
use Rattle.read_tlv.proofs.Parts.{nothing, tag-number, tag-next, length-count, length-next}
use Rattle.read_tlv.proofs.Inside.{expect-parts, expect-inside, head-parts, tag-inside, length-inside}
use Rattle.read_tlv.proofs.Windows.{window-none, window-first, window-cut, window-length}

module _ (s : List ℕ) (at : ℕ) where
  pub window-one : at < length s → window s at (at + 1) ≡ byte s at ∷ []
  window-one h = window-first s at (at + 1) (omega arith) (omega arith) ∙ ap (λ (l : List ℕ). byte s at ∷ l) (window-none s (at + 1))

  pub window-two : at + 1 < length s → window s at (at + 1 + 1) ≡ byte s at ∷ byte s (at + 1) ∷ []
  window-two h = window-first s at (at + 1 + 1) (omega arith) (omega arith)
      ∙ ap (λ (l : List ℕ). byte s at ∷ l) (window-first s (at + 1) (at + 1 + 1) (omega arith) (omega arith)
      ∙ ap (λ (l : List ℕ). byte s (at + 1) ∷ l) (window-none s (at + 1 + 1)))

  pub tag-written : (end t : ℕ) (c : Bool) (next : ℕ) → Bytes s → tag_read t c next ≡ tag_at s at end → window s at next ≡ encode_tag t
  unfolding tag_at encode_tag
  tag-written end t c next b =
      let P : Option Tag → Type 0 = λ z. tag_read t c next ≡ z → window s at next ≡ encode_tag t in
      let none : P None = nothing in
      each-lt P (λ _. none) (λ h. each-le P (λ _. none) (λ i. each-eq P
      (λ j. each-le P (λ _. none) (λ k. each-le P (λ _. none) (λ m q.
      let e : t ≡ byte s at * 256 + byte s (at + 1) = tag-number q in
      let n : next ≡ at + 1 + 1 = tag-next q in
      let high : byte s at ≡ t / 256 = omega arith in
      let low : byte s (at + 1) ≡ t % 256 = omega arith in
      nlt! _ (omega arith) (rw n (window-two (omega arith) ∙ cc)))))
      (λ j q.
      let e : t ≡ byte s at = tag-number q in
      let n : next ≡ at + 1 = tag-next q in
      let l : byte s at < 256 = b at in
      lt! _ (omega arith) (rw n (window-one (omega arith) ∙ cc)))))

  pub length-written : (end n next : ℕ) → length_read n next ≡ length_at s at end → window s at next ≡ encode_length n
  unfolding length_at encode_length
  length-written end n next =
      let P : Option Length → Type 0 = λ z. length_read n next ≡ z → window s at next ≡ encode_length n in
      let none : P None = nothing in
      each-lt P (λ _. none) (λ h. each-le P (λ _. none) (λ i. each-lt P
      (λ j q.
      let e : n ≡ byte s at = length-count q in
      let k : next ≡ at + 1 = length-next q in
      lt! _ (omega arith) (rw k (window-one (omega arith) ∙ cc)))
      (λ j. each-eq P (λ m. each-le P (λ _. none) (λ k. each-lt P (λ _. none) (λ l q.
      let e : n ≡ byte s (at + 1) = length-count q in
      let g : next ≡ at + 1 + 1 = length-next q in
      nlt! _ (omega arith) (rw g (window-two (omega arith) ∙ cc))))) (λ _. none))))

pub element-written : ElementWritten
unfolding encode_element
element-written s at end t low high start stop b q =
    let p = expect-parts s at end t low high start stop q in
    let h = head-parts s at end t p.constructed start stop p.headed in
    let i = tag-inside s at end t p.constructed h.next h.tagged in
    let j = length-inside s h.next end h.count start h.counted in
    let tagged = tag-written s at end t p.constructed h.next b h.tagged in
    let counted = length-written s h.next end h.count start h.counted in
    let n : h.count ≡ length (window s start stop) = sym (window-length s start stop (omega arith) ∙ omega arith) in
    window-cut s at h.next stop (omega arith) (omega arith) (omega arith)
    ∙ ap (λ (l : List ℕ). l ++ window s h.next stop) tagged
    ∙ ap (λ (l : List ℕ). encode_tag t ++ l) (window-cut s h.next start stop (omega arith) (omega arith) (omega arith)
    ∙ ap (λ (l : List ℕ). l ++ window s start stop) (counted ∙ ap encode_length n))

-- an element found, and the window after it
pub elements-written : (s : List ℕ) (at end t low high start stop : ℕ) → Bytes s → element_read start stop ≡ expect_at s at end t low high
    → window s at end ≡ encode_element t (window s start stop) ++ window s stop end
elements-written s at end t low high start stop b q =
    let i = expect-inside s at end t low high start stop q in
    window-cut s at stop end (omega arith) (omega arith) (omega arith)
    ∙ ap (λ (l : List ℕ). l ++ window s stop end) (element-written s at end t low high start stop b q)
