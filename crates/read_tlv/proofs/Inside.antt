-- What is read lies inside what was given: its place is past the one asked for, and it stops in the window, which lies in the bytes.
-- Each law follows the branches of its definition to those that read something, which say what the tests there have shown.
use Prim.Native.Nat.{ℕ, ◌+◌, ◌-◌, ◌≤◌, ◌<◌}
use mathlib.Core.Path.{◌≡◌, refl, sym, ap, ◌∙◌}
use mathlib.Core.List.{List}
use mathlib.Core.Bool.{Bool, true, false}
use native.Mathlib.Omega.{arith}
use lib.ListN.{length}
use Rattle.std.specs.Prelude.{Option, Some, None}
use Rattle.read_tlv.specs.declared.Tag.{Tag}
use Rattle.read_tlv.specs.declared.Length.{Length}
use Rattle.read_tlv.specs.declared.Head.{Head}
use Rattle.read_tlv.specs.declared.Element.{Element}
use Rattle.read_tlv.specs.Tlv.{tag_read, length_read, head_read, element_read, tag_at, length_at, head_at, after_tag, after_length, expect_at, expect_of}
use Rattle.read_tlv.specs.Lists.{element_of, element_closed, element_at}
use Rattle.read_tlv.proofs.Parts.{nothing, tag-next, length-next, head-tag, head-constructed, head-start, head-stop, element-start, element-stop}
use Rattle.base_choice.proofs.Branches.{each, each-le, each-lt, each-eq}

-- something read from `at` on, with the next place `next`
pub record Passed (s : List ℕ) (at next end : ℕ) : Type 0 where
  pub past : at < next
  pub within : next ≤ end
  pub held : end ≤ length s

-- a value from `start` up to `stop`, read from `at` on
pub record Inside (s : List ℕ) (at start stop end : ℕ) : Type 0 where
  pub past : at < start
  pub ordered : start ≤ stop
  pub within : stop ≤ end
  pub held : end ≤ length s

module _ (s : List ℕ) (at end : ℕ) where
  pub tag-inside : (t : ℕ) (b : Bool) (next : ℕ) → tag_read t b next ≡ tag_at s at end → Passed s at next end
  unfolding tag_at
  tag-inside t b next =
      let P : Option Tag → Type 0 = λ z. tag_read t b next ≡ z → Passed s at next end in
      let none : P None = nothing in
      each-lt P (λ _. none) (λ h. each-le P (λ _. none) (λ i. each-eq P
      (λ _. each-le P (λ _. none) (λ j. each-le P (λ _. none) (λ _ q.
      let e = tag-next q in record { past = omega arith; within = omega arith; held = omega arith })))
      (λ _ q. let e = tag-next q in record { past = omega arith; within = omega arith; held = omega arith })))

  pub length-inside : (count next : ℕ) → length_read count next ≡ length_at s at end → Passed s at next end
  unfolding length_at
  length-inside count next =
      let P : Option Length → Type 0 = λ z. length_read count next ≡ z → Passed s at next end in
      let none : P None = nothing in
      each-lt P (λ _. none) (λ h. each-le P (λ _. none) (λ i. each-lt P
      (λ _ q. let e = length-next q in record { past = omega arith; within = omega arith; held = omega arith })
      (λ _. each-eq P (λ _. each-le P (λ _. none) (λ j. each-lt P (λ _. none) (λ _ q.
      let e = length-next q in record { past = omega arith; within = omega arith; held = omega arith }))) (λ _. none))))

-- what a head is made of: a tag, after it a length, and a value of that length before the end
pub record HeadParts (s : List ℕ) (at end t : ℕ) (b : Bool) (start stop : ℕ) : Type 0 where
  pub next : ℕ
  pub tagged : tag_read t b next ≡ tag_at s at end
  pub count : ℕ
  pub counted : length_read count start ≡ length_at s next end
  pub stops : stop ≡ start + count
  pub within : stop ≤ end

module _ (s : List ℕ) (at end t : ℕ) (b : Bool) (start stop : ℕ) where
  after-length-parts : (u : ℕ) (v : Bool) (next : ℕ) (r : Option Length) → tag_read u v next ≡ tag_at s at end → r ≡ length_at s next end
      → head_read t b start stop ≡ after_length end u v r → HeadParts s at end t b start stop
  unfolding after_length
  after-length-parts u v next None g l = nothing
  after-length-parts u v next (Some m) g l =
      let P : Option Head → Type 0 = λ z. head_read t b start stop ≡ z → HeadParts s at end t b start stop in
      let none : P None = nothing in
      each-le P (λ h q.
      let e₀ = head-tag q in let e₁ = head-constructed q in let e₂ = head-start q in let e₃ = head-stop q in
      record {
        next = next;
        tagged = ap (λ x. tag_read x b next) e₀ ∙ ap (λ x. tag_read u x next) e₁ ∙ g;
        count = m.count;
        counted = ap (length_read m.count) e₂ ∙ l;
        stops = omega arith;
        within = omega arith;
      })
      (λ _. none)

  after-tag-parts : (r : Option Tag) → r ≡ tag_at s at end → head_read t b start stop ≡ after_tag s end r → HeadParts s at end t b start stop
  unfolding after_tag
  after-tag-parts None g q = nothing q
  after-tag-parts (Some u) g q = after-length-parts u.tag u.constructed u.next (length_at s u.next end) g refl q

  pub head-parts : head_read t b start stop ≡ head_at s at end → HeadParts s at end t b start stop
  unfolding head_at
  head-parts q = after-tag-parts (tag_at s at end) refl q

  pub head-inside : head_read t b start stop ≡ head_at s at end → Inside s at start stop end
  head-inside q =
      let p = head-parts q in
      let i = tag-inside s at end t b p.next p.tagged in
      let j = length-inside s p.next end p.count start p.counted in
      record { past = omega arith; ordered = omega arith; within = omega arith; held = omega arith }

-- what an expected element is: a head of that tag, with a value of `low` to `high` bytes
pub record Expected (s : List ℕ) (at end t low high start stop : ℕ) : Type 0 where
  pub constructed : Bool
  pub headed : head_read t constructed start stop ≡ head_at s at end
  pub inside : Inside s at start stop end
  pub least : low ≤ stop - start
  pub most : stop - start ≤ high

module _ (s : List ℕ) (at end t low high start stop : ℕ) where
  expect-of : (r : Option Head) → r ≡ head_at s at end → element_read start stop ≡ expect_of t low high r → Expected s at end t low high start stop
  unfolding expect_of
  expect-of None g = nothing
  expect-of (Some h) g =
      let P : Option Element → Type 0 = λ z. element_read start stop ≡ z → Expected s at end t low high start stop in
      let none : P None = nothing in
      each-eq P (λ m. each-lt P (λ _. none) (λ i. each-lt P (λ _. none) (λ j q.
      let e₁ = element-start q in let e₂ = element-stop q in
      let l : head_read t h.constructed start stop ≡ head_at s at end =
      ap (λ x. head_read x h.constructed start stop) (sym m) ∙ ap (λ x. head_read h.tag h.constructed x stop) e₁
      ∙ ap (head_read h.tag h.constructed h.start) e₂ ∙ g in
      record { constructed = h.constructed; headed = l; inside = head-inside s at end t h.constructed start stop l; least = omega arith; most = omega arith }))) (λ _. none)

  pub expect-parts : element_read start stop ≡ expect_at s at end t low high → Expected s at end t low high start stop
  unfolding expect_at
  expect-parts q = expect-of (head_at s at end) refl q

  pub expect-inside : element_read start stop ≡ expect_at s at end t low high → Inside s at start stop end
  expect-inside q = (expect-parts q).inside

closed-next : (next stop : ℕ) (r : Bool) → Some next ≡ element_closed stop r → Some next ≡ Some stop
unfolding element_closed
closed-next next stop true q = q
closed-next next stop false q = nothing q

-- an element with all that it holds stops where its head does
pub element-of : (s : List ℕ) (at end : ℕ) (inner : ℕ → ℕ → Bool) (next : ℕ) (r : Option Head) → r ≡ head_at s at end
    → Some next ≡ element_of inner r → Passed s at next end
unfolding element_of
element-of s at end inner next None g = nothing
element-of s at end inner next (Some h) g =
    let P : Option ℕ → Type 0 = λ z. Some next ≡ z → Passed s at next end in
    let i = head-inside s at end h.tag h.constructed h.start h.stop g in
    let good : Some next ≡ Some h.stop → Passed s at next end = λ q.
    let e : next ≡ h.stop = cc in record { past = omega arith; within = omega arith; held = omega arith } in
    each P h.constructed (λ _ q. good (closed-next next h.stop (inner h.start h.stop) q)) (λ _. good)

pub element-inside : (s : List ℕ) (at end level next : ℕ) → Some next ≡ element_at s at end level → Passed s at next end
unfolding element_at
element-inside s at end level next q = element-of s at end _ next (head_at s at end) refl q
