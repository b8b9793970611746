-- An element alone in its window is an expected element that stops at the window's end. What is read in a window is read of the bytes up
-- to its end alone, so a reader of these bytes finds it; where the window does not lie in the bytes there is none, since what is read lies inside.
use Prim.Native.Nat.{ℕ, ◌+◌, ◌-◌, ◌≤◌, ◌<◌}
use mathlib.Core.Path.{◌≡◌, refl, sym, ap, ◌∙◌}
use mathlib.Core.List.{List, [], append-nil}
use native.Mathlib.Omega.{arith}
use lib.ListN.{length, take}
use lib.Seq.{length-take-le}
use Rattle.base_choice.specs.Choice.{pick, is_same}
use Rattle.base_choice.proofs.Branches.{each-eq, eq! }
use Rattle.read_tlv.specs.Tlv.{head_read, element_read, head_at, expect_at, on_found}
use Rattle.read_tlv.specs.Encoding.{window, Bytes, encode_element}
use Rattle.read_tlv.specs.Grammar.{LegalTag, marks_list}
use Rattle.std.specs.Prelude.{Option, Some, None}
use Rattle.read_tlv.specs.declared.Element.{Element}
use Rattle.read_tlv.proofs.Branches.{each-found}
use Rattle.read_tlv.proofs.Parts.{nothing, element-start, element-stop}
use Rattle.read_tlv.proofs.Inside.{Inside, Expected, expect-inside, expect-parts}
use Rattle.read_tlv.proofs.Windows.{window-length}
use Rattle.read_tlv.proofs.Written.{element-written}
use Rattle.read_tlv.proofs.ReadBack.{element-back}
use Rattle.read_tlv.proofs.Fronts.{expect-agrees, front-agrees}
use Rattle.read_elements.specs.Reader.{alone_at}

module _ (s : List ℕ) (at end tag low high : ℕ) where
  pub next-none : length s < end → None ≡ expect_at s at end tag low high
  next-none h = none (expect_at s at end tag low high) (expect-inside s at end tag low high)
    where
      none : (r : Option Element) → ((start stop : ℕ) → element_read start stop ≡ r → Inside s at start stop end) → None ≡ r
      none None f = refl
      none (Some e) f = let i = f e.start e.stop refl in absurd (omega arith)

  pub next-front : end ≤ length s → expect_at (take end s) at (length (take end s)) tag low high ≡ expect_at s at end tag low high
  next-front h =
      ap (λ (k : ℕ). expect_at (take end s) at k tag low high) (length-take-le end s h)
      ∙ expect-agrees (take end s) s end (front-agrees s end h) at tag low high

  pub alone-none : length s < end → None ≡ alone_at s at end tag low high
  unfolding alone_at
  alone-none h = rw (← next-none h) refl

  pub alone-front : end ≤ length s → alone_at (take end s) at (length (take end s)) tag low high ≡ alone_at s at end tag low high
  unfolding alone_at
  alone-front h =
      let fills : ℕ → Option Element → Option Element = λ k e. on_found e None λ start stop. pick (is_same stop k) (element_read start stop) None in
      ap (λ (k : ℕ). fills k (expect_at (take end s) at (length (take end s)) tag low high)) (length-take-le end s h) ∙ ap (fills end) (next-front h)

pub record Alone (s : List ℕ) (at end t low high start stop : ℕ) : Type 0 where
  pub fills : stop ≡ end
  pub found : element_read start stop ≡ expect_at s at end t low high

module _ (s : List ℕ) (at end t low high start stop : ℕ) where
  pub alone-parts : element_read start stop ≡ alone_at s at end t low high → Alone s at end t low high start stop
  unfolding alone_at
  alone-parts =
      let P : Option Element → Type 0 = λ z. element_read start stop ≡ z → Alone s at end t low high start stop in
      let none : P None = nothing in
      each-found P (expect_at s at end t low high) none λ k e g.
      each-eq P (λ h q. let i = element-start q in let j = element-stop q in record { fills = j ∙ h; found = ap (λ x. element_read x stop) i ∙ ap (element_read k) j ∙ g }) (λ _. none)

  pub alone-expected : element_read start stop ≡ alone_at s at end t low high → Expected s at end t low high start stop
  alone-expected q = expect-parts s at end t low high start stop (alone-parts q).found

-- both directions: what is read is the bytes of the element, and an encoded one is read back
pub alone-written : (s : List ℕ) (at end t low high start stop : ℕ) → Bytes s → element_read start stop ≡ alone_at s at end t low high
    → window s at end ≡ encode_element t (window s start stop)
alone-written s at end t low high start stop b q =
    let a = alone-parts s at end t low high start stop q in
    ap (window s at) (sym a.fills) ∙ element-written s at end t low high start stop b a.found

module _ (s : List ℕ) (at end : ℕ) (ordered : at ≤ end) (held : end ≤ length s) (t low high : ℕ) (v : List ℕ) where
  pub record AloneBack : Type 0 where
    pub start : ℕ
    pub head : head_read t (marks_list t) start end ≡ head_at s at end
    pub found : element_read start end ≡ alone_at s at end t low high
    pub long : end ≡ start + length v
    pub value : window s start end ≡ v

  pub alone-back : LegalTag t → low ≤ length v → length v ≤ high → window s at end ≡ encode_element t v → AloneBack
  unfolding alone_at
  alone-back l least most q =
      let e = element-back s at end ordered held t low high v [] l least most (q ∙ sym (append-nil (encode_element t v))) in
      let n : end - e.stop ≡ 0 = sym (window-length s e.stop end held) ∙ ap length e.after in
      let w = e.within in
      let m : e.stop ≡ end = omega arith in
      record {
        start = e.start;
        head = ap (head_read t (marks_list t) e.start) (sym m) ∙ e.head;
        found = rw (← e.found) (eq! _ m (ap (element_read e.start) (sym m)));
        long = sym m ∙ e.long;
        value = ap (window s e.start) (sym m) ∙ e.value;
      }
