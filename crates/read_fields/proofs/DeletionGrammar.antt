-- DELETE, both directions. An encoded field is a row of elements: each is read back in turn, and the window after it holds the others. What is
-- accepted was found element by element, so the window is their bytes in a row; the values beside the AID are what stands there.
use Prim.Native.Nat.{ℕ, ◌-◌, ◌≤◌}
use mathlib.Core.Path.{◌≡◌, refl, sym, ap, subst, ◌∙◌}
use mathlib.Core.List.{List, [], ◌++◌, append-nil}
use mathlib.Core.Option.{some}
use native.Mathlib.Omega.{arith}
use lib.ListN.{length}
use Rattle.std.specs.Prelude.{Bool, true, false, Some}
use Rattle.base_bytes.specs.Bytes.{between, part_of}
use Rattle.read_tlv.specs.Tlv.{element_read, expect_at}
use Rattle.read_tlv.specs.Lists.{list_wrong}
use Rattle.read_tlv.specs.Filled.{Filled, ended, primitive, constructed}
use Rattle.read_tlv.specs.Encoding.{window, Bytes, encode_element}
use Rattle.base_choice.proofs.Branches.{no!, each, each-eq, eq!, ne! }
use Rattle.read_tlv.proofs.Inside.{Expected, expect-parts, expect-inside}
use Rattle.read_tlv.proofs.Windows.{window-length, window-part}
use Rattle.read_tlv.proofs.Fills.{right-filled, filled-right, first-level, second-level}
use Rattle.read_tlv.proofs.Written.{element-written}
use Rattle.read_tlv.specs.Grammar.{one, two}
use Rattle.read_tlv.proofs.ReadBack.{element-back}
use Rattle.read_fields.specs.declared.request.Request.TheVariants as request
use Rattle.read_fields.specs.Found.{Field}
use Rattle.read_elements.specs.Reader.{alone_at}
use Rattle.read_fields.specs.Delete.{verification_at, deletion_at}
use Rattle.read_fields.specs.Grammar.{Named, delete, master_delete, Wanted, deletion, found_as, ReadFrom, Verified, Given, encode_verification, LegalVerified, encode_master_delete, EncodesDeleted, DeletionBack, DeletionWritten, DeletionFilled}
use Rattle.read_elements.proofs.Alone.{alone-expected, alone-written, alone-back}
use Rattle.read_fields.proofs.Parts.{part-named}
use Rattle.read_fields.proofs.Cases.{each-filled, same-value, no_value}
use Rattle.read_tlv.proofs.Branches.{each-found}
use Rattle.read_tlv.proofs.Written.{elements-written}

-- ---- an encoded field is read back

verification-back : (s : List ℕ) (at end : ℕ) → at ≤ end → end ≤ length s → (v : Verified) → LegalVerified v
    → window s at end ≡ encode_verification v → (true ≡ verification_at s at end) × Filled s 2 at end
unfolding encode_verification verification_at
verification-back s at end ordered held v l q =
    let a = element-back s at end ordered held 0x42 1 255 v.of42 _ (one (omega arith) (omega arith)) l.given42.least l.given42.most q in
    let b = element-back s a.stop end a.within held 0x45 1 255 v.of45 _ (one (omega arith) (omega arith)) l.given45.least l.given45.most a.after in
    let c = element-back s b.stop end b.within held 0x5F20 1 255 v.of5_f20 _ (two (omega arith) (omega arith) (omega arith)) l.given5_f20.least l.given5_f20.most b.after in
    let d = alone-back s c.stop end c.within held 0x93 1 255 v.of93 (one (omega arith) (omega arith)) l.given93.least l.given93.most c.after in
    let l = second-level in (
      rw (← a.found) (rw (← b.found) (rw (← c.found) (rw (← d.found) refl))),
      primitive l a.head (primitive l b.head (primitive l c.head (primitive l d.head (ended l held)))),
    )

pub deletion-back : DeletionBack
unfolding deletion_at
deletion-back s at end (delete aid) ordered held (named, q) =
    let a = element-back s at end ordered held 0x4F 5 16 aid [] (one (omega arith) (omega arith)) named.least named.most (q ∙ sym (append-nil (encode_element 0x4F aid))) in
    let n : end - a.stop ≡ 0 = sym (window-length s a.stop end held) ∙ ap length a.after in
    let w = a.within in let l = a.long in
    let m : a.stop ≡ end = omega arith in
    let f : Filled s 1 at end = primitive first-level a.head (subst (λ (k : ℕ). Filled s 1 k end) (sym m) (ended first-level held)) in
    let r : Some (request.Delete (between a.start a.stop)) ≡ deletion_at s at end = no! _ (filled-right f) (rw (← a.found) (eq! _ m refl)) in
    rw (← r) (ap (λ (l : List ℕ). some (deletion (delete l))) (window-part s a.start a.stop (omega arith) ∙ a.value))
deletion-back s at end (master_delete aid) ordered held (v, (named, (l, q))) =
    let a = element-back s at end ordered held 0x4F 5 16 aid _ (one (omega arith) (omega arith)) named.least named.most q in
    let b = element-back s a.stop end a.within held 0xB6 0 255 (encode_verification v) _ (one (omega arith) (omega arith)) (omega arith) l.most a.after in
    let i = expect-inside s a.stop end 0xB6 0 255 b.start b.stop b.found in
    let f = verification-back s b.start b.stop i.ordered (omega arith) v l b.value in
    let t = alone-back s b.stop end b.within held 0x9E 1 255 v.of9_e (one (omega arith) (omega arith)) l.given9_e.least l.given9_e.most b.after in
    let k = a.long in
    let r : Some (request.MasterDelete (between a.start a.stop)) ≡ deletion_at s at end =
    no! _ (filled-right (primitive first-level a.head (constructed first-level b.head f.1 (primitive first-level t.head (ended first-level held)))))
    (rw (← a.found) (ne! _ (omega arith) (rw (← b.found) (rw (← f.0) (rw (← t.found) refl))))) in
    rw (← r) (ap (λ (l : List ℕ). some (deletion (master_delete l))) (window-part s a.start a.stop (omega arith) ∙ a.value))

-- ---- what is accepted is so encoded

module _ (s : List ℕ) (b : Bytes s) where
  given : (at end t start stop : ℕ) → Expected s at end t 1 255 start stop → Given (window s start stop)
  given at end t start stop x =
      let i = x.inside in let l = x.least in let m = x.most in
      let n = window-length s start stop (omega arith) in
      record { least = omega arith; most = omega arith }

  -- what B6 holds, beside the token of a 9E to come
  pub record Four (at end : ℕ) (token : List ℕ) : Type 0 where
    pub values : Verified
    pub last : values.of9_e ≡ token
    pub given42 : Given values.of42
    pub given45 : Given values.of45
    pub given5_f20 : Given values.of5_f20
    pub given93 : Given values.of93
    pub bytes : window s at end ≡ encode_verification values

  verification-written : (at end : ℕ) (token : List ℕ) → true ≡ verification_at s at end → Four at end token
  unfolding verification_at encode_verification
  verification-written at end token =
      let P : Bool → Type 0 = λ z. true ≡ z → Four at end token in
      let none : P false = λ q. let z : ◌≡◌ {A = ℕ} 0 1 = cc in absurd (omega arith) in
      each-found P (expect_at s at end 0x42 1 255) none λ k₁ first q₁.
      each-found P (expect_at s first end 0x45 1 255) none λ k₂ second q₂.
      each-found P (expect_at s second end 0x5F20 1 255) none λ k₃ third q₃.
      each-found P (alone_at s third end 0x93 1 255) none λ k₄ stop q₄ _. record {
        values = record { of42 = window s k₁ first; of45 = window s k₂ second; of5_f20 = window s k₃ third; of93 = window s k₄ stop; of9_e = token };
        last = refl;
        given42 = given at end 0x42 k₁ first (expect-parts s at end 0x42 1 255 k₁ first q₁);
        given45 = given first end 0x45 k₂ second (expect-parts s first end 0x45 1 255 k₂ second q₂);
        given5_f20 = given second end 0x5F20 k₃ third (expect-parts s second end 0x5F20 1 255 k₃ third q₃);
        given93 = given third end 0x93 k₄ stop (alone-expected s third end 0x93 1 255 k₄ stop q₄);
        bytes = elements-written s at end 0x42 1 255 k₁ first b q₁
            ∙ ap (λ (l : List ℕ). encode_element 0x42 (window s k₁ first) ++ l) (elements-written s first end 0x45 1 255 k₂ second b q₂
            ∙ ap (λ (l : List ℕ). encode_element 0x45 (window s k₂ second) ++ l) (elements-written s second end 0x5F20 1 255 k₃ third b q₃
            ∙ ap (λ (l : List ℕ). encode_element 0x5F20 (window s k₃ third) ++ l) (alone-written s third end 0x93 1 255 k₄ stop b q₄)));
      }

module _ (s : List ℕ) (at end : ℕ) (w : Wanted) (b : Bytes s) where
  abbrev Encoded : Wanted → Type 0
  Encoded z = ReadFrom deletion EncodesDeleted s at end z

  abbrev Accepted : Field → Type 0
  Accepted z = found_as s z ≡ some w → Encoded w

  module _ (start stop : ℕ) (q : element_read start stop ≡ expect_at s at end 0x4F 5 16) where
    named : Named (part_of s (between start stop))
    named =
        let x = expect-parts s at end 0x4F 5 16 start stop q in
        let i = x.inside in
        subst Named (sym (window-part s start stop i.ordered)) (part-named s start stop i.ordered (omega arith) x.least x.most)

    delete-written : stop ≡ end → Accepted (Some (request.Delete (between start stop)))
    delete-written h =
        let i = expect-inside s at end 0x4F 5 16 start stop q in
        let bytes : window s at end ≡ encode_element 0x4F (part_of s (between start stop)) =
        ap (window s at) (sym h) ∙ element-written s at end 0x4F 5 16 start stop b q ∙ ap (encode_element 0x4F) (sym (window-part s start stop i.ordered)) in
        same-value Encoded (deletion (delete (part_of s (between start stop)))) w record { ordered = omega arith; held = omega arith; value = delete (part_of s (between start stop)); meant = refl; encoded = (named, bytes) }

    master-written : (from to k e : ℕ) → element_read from to ≡ expect_at s stop end 0xB6 0 255 → true ≡ verification_at s from to
        → element_read k e ≡ alone_at s to end 0x9E 1 255 → Accepted (Some (request.MasterDelete (between start stop)))
    master-written from to k e q₂ f g =
        let i = expect-inside s at end 0x4F 5 16 start stop q in
        let x = expect-parts s stop end 0xB6 0 255 from to q₂ in
        let j = x.inside in let m = x.most in
        let v = verification-written s b from to (window s k e) f in
        let n : length (encode_verification v.values) ≡ to - from = ap length (sym v.bytes) ∙ window-length s from to (omega arith) in
        let t : Given (window s k e) = given s b to end 0x9E k e (alone-expected s to end 0x9E 1 255 k e g) in
        let l : LegalVerified v.values = record {
          given42 = v.given42;
          given45 = v.given45;
          given5_f20 = v.given5_f20;
          given93 = v.given93;
          given9_e = subst Given (sym v.last) t;
          most = omega arith;
        } in
        let bytes : window s at end ≡ encode_master_delete (part_of s (between start stop)) v.values =
        elements-written s at end 0x4F 5 16 start stop b q
        ∙ ap (λ (a : List ℕ). encode_element 0x4F a ++ window s stop end) (sym (window-part s start stop i.ordered))
        ∙ ap (λ (a : List ℕ). encode_element 0x4F (part_of s (between start stop)) ++ a) (elements-written s stop end 0xB6 0 255 from to b q₂
        ∙ ap (λ (a : List ℕ). encode_element 0xB6 a ++ window s to end) v.bytes
        ∙ ap (λ (a : List ℕ). encode_element 0xB6 (encode_verification v.values) ++ a) (alone-written s to end 0x9E 1 255 k e b g
        ∙ ap (encode_element 0x9E) (sym v.last))) in
        same-value Encoded (deletion (master_delete (part_of s (between start stop)))) w record { ordered = omega arith; held = omega arith; value = master_delete (part_of s (between start stop)); meant = refl; encoded = (v.values, (named, (l, bytes))) }

  accepted : Accepted (deletion_at s at end)
  unfolding deletion_at
  accepted = each Accepted (list_wrong s at end) (λ _. no_value (Encoded w) w) λ _.
      each-found Accepted (expect_at s at end 0x4F 5 16) (no_value (Encoded w) w) λ start stop q.
      each-eq Accepted (delete-written start stop q)
      (λ _. each-found Accepted (expect_at s stop end 0xB6 0 255) (no_value (Encoded w) w) λ from to q₂.
      each-filled Accepted (verification_at s from to) (no_value (Encoded w) w) λ f.
      each-found Accepted (alone_at s to end 0x9E 1 255) (no_value (Encoded w) w) λ k e g. master-written start stop q from to k e q₂ f g)

pub deletion-written : DeletionWritten
deletion-written s at end w b q = accepted s at end w b q

pub deletion-filled : DeletionFilled
unfolding deletion_at
deletion-filled s at end r = each (λ (z : Field). Some r ≡ z → Filled s 1 at end) (list_wrong s at end)
    (λ _ q. let z : ◌≡◌ {A = ℕ} 0 1 = cc in absurd (omega arith)) (λ e _. right-filled s at end e)
