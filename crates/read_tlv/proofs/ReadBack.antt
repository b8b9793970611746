-- Reading an encoded element gives it back: where a window starts with the bytes of a tag, of a length or of an element, that is what is read
-- there, and the window after it holds the rest.
use Prim.Native.Nat.{ℕ, ◌+◌, ◌*◌, ◌/◌, ◌%◌, ◌≤◌, ◌<◌}
use mathlib.Core.Path.{◌≡◌, refl, sym, ap, ◌∙◌}
use mathlib.Core.List.{List, [], ◌∷◌, ◌++◌, append_assoc}
use native.Mathlib.Omega.{arith}
use lib.ListN.{length}
use borrow.Author.Tests.{lt-ltb, le-ltb}
use Rattle.base_bytes.specs.Bytes.{byte}
use Rattle.read_tlv.specs.Tlv.{is_constructed, tag_read, length_read, head_read, tag_at, length_at, head_at, after_tag, after_length, expect_at, expect_of}
use Rattle.read_tlv.specs.Encoding.{window, encode_number, encode_tag, encode_length, encode_element}
use Rattle.read_tlv.specs.Grammar.{LegalTag, one, two, marks_list, ElementReadBack}
use Rattle.base_choice.proofs.Branches.{each-lt, le!, nle!, lt!, nlt!, eq!, ne! }
use Rattle.read_tlv.proofs.Windows.{window-starts, window-begins}

module _ (s : List ℕ) (at end : ℕ) (ordered : at ≤ end) (held : end ≤ length s) where
  pub record TagBack (t : ℕ) (rest : List ℕ) : Type 0 where
    pub next : ℕ
    pub read : tag_read t (marks_list t) next ≡ tag_at s at end
    pub past : at < next
    pub within : next ≤ end
    pub after : window s next end ≡ rest

  pub tag_back : (t : ℕ) (rest : List ℕ) → LegalTag t → window s at end ≡ encode_tag t ++ rest → TagBack t rest
  unfolding tag_at encode_tag
  tag_back t rest (one h i) q =
      let e : t ∷ [] ≡ encode_tag t = lt! _ h refl in
      let w = window-starts s at end ordered held t rest (q ∙ ap (λ (l : List ℕ). l ++ rest) (sym e)) in
      let f = w.first in
      let g : byte s at % 32 ≡ 31 → ⊥ = λ x. i (sym (ap (λ (n : ℕ). n % 32) f) ∙ x) in
      let r = w.room in
      let c : marks_list t ≡ is_constructed (byte s at) = rw (lt-ltb t 256 h) (ap is_constructed (sym f)) in
      record {
        next = at + 1;
        read = nlt! _ held (nle! _ r (ne! _ g (rw c (ap (λ (n : ℕ). tag_read n (is_constructed (byte s at)) (at + 1)) (sym f)))));
        past = omega arith;
        within = omega arith;
        after = w.after;
      }
  tag_back t rest (two h i j) q =
      let e : encode_number t ≡ encode_tag t = nlt! _ h refl in
      let w = window-starts s at end ordered held (t / 256) (t % 256 ∷ rest) (q ∙ ap (λ (l : List ℕ). l ++ rest) (sym e)) in
      let v = window-starts s (at + 1) end (omega arith) held (t % 256) rest w.after in
      let f = w.first in let g = v.first in
      let n : t ≡ byte s at * 256 + byte s (at + 1) = omega arith in
      let c : marks_list t ≡ is_constructed (byte s at) = rw (le-ltb t 256 h) (ap is_constructed (sym f)) in
      record {
        next = at + 1 + 1;
        read = nlt! _ held (nle! _ (omega arith) (eq! _ (ap (λ (n : ℕ). n % 32) f ∙ i) (nle! _ v.room (nle! _ (omega arith)
            (rw c (ap (λ (n : ℕ). tag_read n (is_constructed (byte s at)) (at + 1 + 1)) n))))));
        past = omega arith;
        within = omega arith;
        after = v.after;
      }

  pub record LengthBack (n : ℕ) (rest : List ℕ) : Type 0 where
    pub next : ℕ
    pub read : length_read n next ≡ length_at s at end
    pub past : at < next
    pub within : next ≤ end
    pub after : window s next end ≡ rest

  pub length_back : (n : ℕ) (rest : List ℕ) → window s at end ≡ encode_length n ++ rest → LengthBack n rest
  unfolding length_at encode_length
  length_back n rest =
      let P : List ℕ → Type 0 = λ z. window s at end ≡ z ++ rest → LengthBack n rest in
      each-lt P
      (λ h q.
      let w = window-starts s at end ordered held n rest q in
      let f = w.first in
      record {
        next = at + 1;
        read = nlt! _ held (nle! _ w.room (lt! _ (omega arith) (ap (λ (k : ℕ). length_read k (at + 1)) (sym f))));
        past = omega arith;
        within = omega arith;
        after = w.after;
      })
      (λ h q.
      let w = window-starts s at end ordered held 0x81 (n ∷ rest) q in
      let v = window-starts s (at + 1) end (omega arith) held n rest w.after in
      let f = w.first in let g = v.first in
      record {
        next = at + 1 + 1;
        read = nlt! _ held (nle! _ w.room (nlt! _ (omega arith) (eq! _ f (nle! _ v.room (nlt! _ (omega arith)
            (ap (λ (k : ℕ). length_read k (at + 1 + 1)) (sym g)))))));
        past = omega arith;
        within = omega arith;
        after = v.after;
      })

pub element-back : ElementReadBack
unfolding encode_element head_at after_tag after_length expect_at expect_of
element-back s at end ordered held t low high v rest l least most q =
    let a = tag_back s at end ordered held t (encode_length (length v) ++ (v ++ rest)) l (simp append_assoc at q) in
    let b = length_back s a.next end a.within held (length v) (v ++ rest) a.after in
    let w = window-begins s b.next end b.within held v rest b.after in
    let r = w.room in
    let h : head_read t (marks_list t) b.next (b.next + length v) ≡ head_at s at end =
    rw (← a.read) (rw (← b.read) (le! _ r refl)) in
    record {
      start = b.next;
      stop = b.next + length v;
      head = h;
      found = rw (← h) (eq! _ refl (nlt! _ (omega arith) (nlt! _ (omega arith) refl)));
      long = refl;
      within = r;
      value = w.front;
      after = w.after;
    }
