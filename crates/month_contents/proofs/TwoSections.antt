-- Contents that list two sections: which numbers stand in them where both kinds are found and the contents are not wrong, and that
-- contents with these numbers are so read. The two known kinds leave room for two entries; the lengths fill the file, so one body
-- begins at the end of the contents and the other where it ends. Assumes nothing.
use mathlib.Core.Path.{◌≡◌, refl, sym, ap, subst, ◌∙◌}
use Rattle.std.specs.Prelude.{Some, None}
use Prim.Native.Nat.{ℕ, zero, suc, ◌+◌, ◌≤◌, ◌<◌}
use native.Mathlib.Omega.{arith}
use mathlib.Core.Logic.{◌⊎◌, inl, inr, ⊎_elim, ⊎_swap}
use mathlib.Core.List.{List}
use mathlib.Core.Bool.{Bool, true, false, cond}
use lib.ListN.{length}
use lib.Dec.{ltb}
use borrow.Author.Tests.{ltb-true, eqb-true, eq-eqb, ne_eqb}
use Rattle.base_choice.proofs.Branches.{on-lt, on-eq}
use Rattle.base_bytes.specs.declared.Part.{Part}
use Rattle.month_contents.specs.Below.{sum_below}
use Rattle.month_contents.specs.Contents.{most_file, is_known, sections, kind_at, start_at, body_length, kind_wrong, body_wrong, of_kind, section_place, contents_wrong, section_of}
use Rattle.month_contents.proofs.Below.{some-none, some_next, first_passes}
use Rattle.month_contents.proofs.Ends.{section-hit}
use Rattle.month_contents.proofs.Refusals.{Passed, passed, not-wrong}
use Rattle.month_contents.proofs.Entries.{kind-known, kind-new, kind-right, body-after, body-inside, body-apart, body-right}

-- the entry of a section bears this kind, and says that its body is this part
pub record Entry (s : List ℕ) (i kind : ℕ) (part : Part) : Type 0 where
  pub kind-is : kind_at s i ≡ kind
  pub start_is : start_at s i ≡ part.start
  pub length-is : body_length s i ≡ part.len

-- two sections are listed, in this order
pub record Lists (s : List ℕ) (kind : ℕ) (part : Part) (kind' : ℕ) (part' : Part) : Type 0 where
  pub two : sections s ≡ 2
  pub entry-0 : Entry s 0 kind part
  pub entry-1 : Entry s 1 kind' part'

-- two bodies fill the file after the contents, in this order
pub record Chain (s : List ℕ) (first second : Part) : Type 0 where
  pub first-starts : first.start ≡ 28
  pub second-starts : second.start ≡ 28 + first.len
  pub second-ends : length s ≡ 28 + first.len + second.len

-- `a` is the body of kind 1 and `b` of kind 2, listed in either order and laid in either order
pub record TwoSections (s : List ℕ) (a b : Part) : Type 0 where
  pub listed : Lists s 1 a 2 b ⊎ Lists s 2 b 1 a
  pub laid : Chain s a b ⊎ Chain s b a

-- the section that is found is the body of some entry of its kind
found-case : (s : List ℕ) (kind : ℕ) (part : Part) (c : Bool) → ltb (section_place s kind) (sections s) ≡ c
    → cond c (Some (record { start = start_at s (section_place s kind); len = body_length s (section_place s kind) })) None ≡ Some part
    → (section_place s kind < sections s) × Entry s (section_place s kind) kind part
found-case s kind part true e q =
    let h = ltb-true (section_place s kind) (sections s) e in
    (h, record { kind-is = eqb-true (kind_at s (section_place s kind)) kind (first_passes (sections s) (of_kind s kind) h); start_is = cc; length-is = cc })
found-case s kind part false e q = let z : ◌≡◌ {A = ℕ} 0 1 = cc in absurd (omega arith)

pub section-found : (s : List ℕ) (kind : ℕ) (part : Part) → section_of s kind ≡ Some part → (section_place s kind < sections s) × Entry s (section_place s kind) kind part
unfolding section_of
section-found s kind part e = found-case s kind part (ltb (section_place s kind) (sections s)) refl e

-- the known kinds are the numbers 1 and 2
known_is : (kind : ℕ) → is_known kind ≡ true → (1 ≤ kind) × (kind ≤ 2)
known_is kind e =
    on-eq kind 1
    (λ q. (omega arith, omega arith))
    (λ q. let f = rw (ne_eqb kind 1 q) at e in let r = eqb-true kind 2 f in (omega arith, omega arith))

-- no more than two are listed
at_most_two : (s : List ℕ) → Passed s → sections s ≤ 2
at_most_two s p =
    on-lt 2 (sections s)
    (λ h.
    let k₀ = known_is (kind_at s 0) (kind-known s 0 (p.kinds 0 (omega arith))) in
    let k₁ = known_is (kind_at s 1) (kind-known s 1 (p.kinds 1 (omega arith))) in
    let k₂ = known_is (kind_at s 2) (kind-known s 2 (p.kinds 2 h)) in
    let n₁ = kind-new s 1 (p.kinds 1 (omega arith)) 0 (omega arith) in
    let n₂ = kind-new s 2 (p.kinds 2 h) 0 (omega arith) in
    let n₃ = kind-new s 2 (p.kinds 2 h) 1 (omega arith) in
    absurd (omega (arith, k₀.0, k₀.1, k₁.0, k₁.1, k₂.0, k₂.1)))
    (λ h. h)

-- the two bodies fill the file
module _ (s : List ℕ) (p : Passed s) (kind : ℕ) (part : Part) (kind' : ℕ) (part' : Part) (l : Lists s kind part kind' part') where
  lengths : 28 + body_length s 0 + body_length s 1 ≡ length s
  unfolding sum_below
  lengths = let f = rw l.two at p.full in omega arith

  chained : Chain s part part' ⊎ Chain s part' part
  chained =
      let t = l.two in
      let f = lengths in
      let b₀ = p.bodies 0 (omega arith) in
      let b₁ = p.bodies 1 (omega arith) in
      let a₀ = body-after s 0 b₀ in
      let a₁ = body-after s 1 b₁ in
      let i₀ = body-inside s 0 b₀ in
      let i₁ = body-inside s 1 b₁ in
      let e₀ = l.entry-0 in
      let e₁ = l.entry-1 in
      ⊎_elim
      (λ q. inl (record { first-starts = omega arith; second-starts = omega arith; second-ends = omega arith }))
      (λ q. inr (record { first-starts = omega arith; second-starts = omega arith; second-ends = omega arith }))
      (body-apart s 1 b₁ 0 (omega arith))

entry-as : (s : List ℕ) (i j kind : ℕ) (part : Part) → i ≡ j → Entry s i kind part → Entry s j kind part
entry-as s i j kind part e = subst (λ (k : ℕ). Entry s k kind part) e

pub two-sections : (s : List ℕ) (a b : Part) → contents_wrong s ≡ false → section_of s 1 ≡ Some a → section_of s 2 ≡ Some b → TwoSections s a b
two-sections s a b e f g =
    let p = passed s e in
    let m = at_most_two s p in
    let i = section-found s 1 a f in
    let j = section-found s 2 b g in
    let hi = i.0 in
    let hj = j.0 in
    let ki = i.1.kind-is in
    let kj = j.1.kind-is in
    on-lt (section_place s 1) (section_place s 2)
    (λ h.
    let l : Lists s 1 a 2 b = record { two = omega arith; entry-0 = entry-as s (section_place s 1) 0 1 a (omega arith) i.1; entry-1 = entry-as s (section_place s 2) 1 2 b (omega arith) j.1 } in
    record { listed = inl l; laid = chained s p 1 a 2 b l })
    (λ h. on-lt (section_place s 2) (section_place s 1)
    (λ k.
    let l : Lists s 2 b 1 a = record { two = omega arith; entry-0 = entry-as s (section_place s 2) 0 2 b (omega arith) j.1; entry-1 = entry-as s (section_place s 1) 1 1 a (omega arith) i.1 } in
    record { listed = inr l; laid = ⊎_swap (chained s p 2 b 1 a l) })
    (λ k. let same : section_place s 1 ≡ section_place s 2 = omega arith in absurd (omega (arith, ap (kind_at s) same))))

-- the other way round: contents with these numbers are not wrong, and both sections are found
module _ (s : List ℕ) (kind : ℕ) (part : Part) (kind' : ℕ) (part' : Part) (l : Lists s kind part kind' part') where
  pub first_found : section_of s kind ≡ Some part
  first_found =
      let t = l.two in
      sym (section-hit s kind 0 (some-none (of_kind s kind)) (eq-eqb (kind_at s 0) kind l.entry-0.kind-is) (omega arith))
      ∙ rw (l.entry-0.start_is, l.entry-0.length-is)

  module _ (d : kind ≡ kind' → ⊥) where
    pub second-found : section_of s kind' ≡ Some part'
    second-found =
        let t = l.two in
        let none = some_next 0 (of_kind s kind') (some-none (of_kind s kind')) (ne_eqb (kind_at s 0) kind' (λ q. d (sym l.entry-0.kind-is ∙ q))) in
        sym (section-hit s kind' 1 none (eq-eqb (kind_at s 1) kind' l.entry-1.kind-is) (omega arith))
        ∙ rw (l.entry-1.start_is, l.entry-1.length-is)

    module _ (k : is_known kind ≡ true) (k' : is_known kind' ≡ true) (c : Chain s part part' ⊎ Chain s part' part) (m : length s ≤ most_file) where
      kinds-right : (i : ℕ) → i < 2 → kind_wrong s i ≡ false
      kinds-right zero h = kind-right s 0 (rw l.entry-0.kind-is k) (λ j n. absurd (omega arith))
      kinds-right (suc zero) h =
          kind-right s 1 (rw l.entry-1.kind-is k')
          (λ j n q. let z : j ≡ 0 = omega arith in d (sym l.entry-0.kind-is ∙ sym (ap (kind_at s) z) ∙ q ∙ l.entry-1.kind-is))
      kinds-right (suc (suc i)) h = absurd (omega arith)

      bodies_right : (i : ℕ) → i < 2 → body_wrong s i ≡ false
      bodies_right zero h =
          let t = l.two in
          let e₀ = l.entry-0 in
          body-right s 0 (⊎_elim (λ x. omega arith) (λ x. omega arith) c) (⊎_elim (λ x. omega arith) (λ x. omega arith) c) (λ j n. absurd (omega arith))
      bodies_right (suc zero) h =
          let t = l.two in
          let e₀ = l.entry-0 in
          let e₁ = l.entry-1 in
          body-right s 1 (⊎_elim (λ x. omega arith) (λ x. omega arith) c) (⊎_elim (λ x. omega arith) (λ x. omega arith) c)
          (λ j n. let z : j ≡ 0 = omega arith in rw z (⊎_elim (λ x. inl (omega arith)) (λ x. inr (omega arith)) c))
      bodies_right (suc (suc i)) h = absurd (omega arith)

      pub two-right : contents_wrong s ≡ false
      unfolding sum_below
      two-right =
          let t = l.two in
          let e₀ = l.entry-0 in
          let e₁ = l.entry-1 in
          not-wrong s
          (record {
            most = m;
            least = ⊎_elim (λ x. omega arith) (λ x. omega arith) c;
            held = ⊎_elim (λ x. omega arith) (λ x. omega arith) c;
            kinds = λ i h. kinds-right i (omega arith);
            bodies = λ i h. bodies_right i (omega arith);
            full = rw l.two (⊎_elim (λ x. omega arith) (λ x. omega arith) c);
          })

-- contents that are so listed and laid are accepted, and both bodies found
pub record Accepted (s : List ℕ) (a b : Part) : Type 0 where
  pub right : contents_wrong s ≡ false
  pub fresh-found : section_of s 1 ≡ Some a
  pub events-found : section_of s 2 ≡ Some b

pub two-accepted : (s : List ℕ) (a b : Part) → TwoSections s a b → length s ≤ most_file → Accepted s a b
two-accepted s a b t m =
    ⊎_elim
    (λ l. record { right = two-right s 1 a 2 b l (λ e. absurd (omega arith)) refl refl t.laid m; fresh-found = first_found s 1 a 2 b l; events-found = second-found s 1 a 2 b l (λ e. absurd (omega arith)) })
    (λ l. record { right = two-right s 2 b 1 a l (λ e. absurd (omega arith)) refl refl (⊎_swap t.laid) m; fresh-found = second-found s 2 b 1 a l (λ e. absurd (omega arith)); events-found = first_found s 2 b 1 a l })
    t.listed
