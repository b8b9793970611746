-- The parts that the grammar's proofs share, both ways: a DGI, one short element alone in it, and an AID in its place.
use Prim.Native.Nat.{ℕ, ◌+◌, ◌-◌, ◌/◌, ◌%◌, ◌≤◌, ◌<◌}
use mathlib.Core.Path.{◌≡◌, refl, sym, ap, subst, ◌∙◌}
use mathlib.Core.List.{List, [], ◌∷◌}
use mathlib.Core.Bool.{Bool, false}
use native.Mathlib.Omega.{arith}
use lib.ListN.{length}
use Rattle.std.specs.Prelude.{Option, None}
use Rattle.base_bytes.specs.Bytes.{byte, pair_at}
use Rattle.read_tlv.specs.Tlv.{head_read, element_read, head_at}
use Rattle.read_tlv.specs.Lists.{list_wrong}
use Rattle.read_tlv.specs.Filled.{Filled, ended, primitive}
use Rattle.read_tlv.specs.Grammar.{one, marks_list}
use Rattle.read_tlv.specs.Encoding.{window, Bytes, encode_tag, encode_length, encode_element}
use Rattle.base_choice.proofs.Branches.{each-lt, each-eq, lt!, nlt!, eq! }
use Rattle.read_tlv.proofs.Windows.{window-first, window-length, window-starts}
use Rattle.read_tlv.proofs.Fills.{right-filled, filled-right, first-level}
use Rattle.read_elements.specs.Reader.{alone_at}
use Rattle.read_elements.proofs.Alone.{alone-written, alone-back}
use Rattle.read_fields.specs.declared.Dgi.{Dgi}
use Rattle.read_fields.specs.StoreData.{dgi_read, on_dgi, dgi_at}
use Rattle.read_fields.specs.Grammar.{Named, encode_dgi}

-- ---- a DGI

pub record DgiParts (s : List ℕ) (at end number contents : ℕ) : Type 0 where
  pub place : contents ≡ at + 3
  pub numbered : number ≡ pair_at s at
  pub fills : at + 3 + byte s (at + 2) ≡ end
  pub held : end ≤ length s

pub dgi-parts : (s : List ℕ) (at end number contents : ℕ) → dgi_read number contents ≡ dgi_at s at end → DgiParts s at end number contents
unfolding dgi_at
dgi-parts s at end number contents =
    let P : Option Dgi → Type 0 = λ z. dgi_read number contents ≡ z → DgiParts s at end number contents in
    let none : P None = λ q. let z : ◌≡◌ {A = ℕ} 0 1 = cc in absurd (omega arith) in
    each-lt P (λ _. none) (λ h. each-lt P (λ _. none) (λ i. each-lt P (λ _. none) (λ j. each-eq P
    (λ k q. record {
      place = ap (λ (z : Option Dgi). on_dgi z 0 (λ _ start. start)) q;
      numbered = ap (λ (z : Option Dgi). on_dgi z 0 (λ number _. number)) q;
      fills = k;
      held = h;
    }) (λ _. none))))

pub dgi-written : (s : List ℕ) (at end number contents : ℕ) → Bytes s → dgi_read number contents ≡ dgi_at s at end
    → window s at end ≡ encode_dgi number (window s contents end)
dgi-written s at end number contents b q =
    let p = dgi-parts s at end number contents q in
    let c = p.place in let f = p.fills in let h = p.held in let e = p.numbered in
    let l : byte s (at + 1) < 256 = b (at + 1) in
    let high : byte s at ≡ number / 256 = omega arith in
    let low : byte s (at + 1) ≡ number % 256 = omega arith in
    let n : byte s (at + 1 + 1) ≡ length (window s contents end) =
    ap (byte s) {x = at + 1 + 1} {y = at + 2} (omega arith) ∙ (omega arith) ∙ sym (window-length s contents end h) in
    let w : window s at end ≡ byte s at ∷ byte s (at + 1) ∷ byte s (at + 1 + 1) ∷ window s (at + 1 + 1 + 1) end =
    window-first s at end (omega arith) h
    ∙ ap (λ (l : List ℕ). byte s at ∷ l) (window-first s (at + 1) end (omega arith) h
    ∙ ap (λ (l : List ℕ). byte s (at + 1) ∷ l) (window-first s (at + 1 + 1) end (omega arith) h)) in
    let m : at + 1 + 1 + 1 ≡ contents = omega arith in
    cc

module _ (s : List ℕ) (at end : ℕ) (ordered : at ≤ end) (held : end ≤ length s) (number : ℕ) (contents : List ℕ) where
  pub record DgiBack : Type 0 where
    pub found : dgi_read number (at + 3) ≡ dgi_at s at end
    pub room : at + 3 ≤ end
    pub after : window s (at + 3) end ≡ contents

  pub dgi-back : length contents ≤ 0xFE → window s at end ≡ encode_dgi number contents → DgiBack
  unfolding dgi_at
  dgi-back most q =
      let a = window-starts s at end ordered held (number / 256) _ q in
      let b = window-starts s (at + 1) end (omega arith) held (number % 256) _ a.after in
      let c = window-starts s (at + 1 + 1) end (omega arith) held (length contents) contents b.after in
      let f = a.first in let g = b.first in
      let e : at + 1 + 1 ≡ at + 2 = omega arith in
      let d : at + 1 + 1 + 1 ≡ at + 3 = omega arith in
      let h : byte s (at + 2) ≡ length contents = ap (byte s) (sym e) ∙ c.first in
      let w : window s (at + 3) end ≡ contents = ap (λ (n : ℕ). window s n end) (sym d) ∙ c.after in
      let r = c.room in
      let n : length contents ≡ end - (at + 3) = ap length (sym w) ∙ window-length s (at + 3) end held in
      let k : number ≡ pair_at s at = omega arith in
      record {
        found = nlt! _ held (nlt! _ (omega arith) (nlt! _ (omega arith) (eq! _ (omega arith) (ap (λ (n : ℕ). dgi_read n (at + 3)) k))));
        room = omega arith;
        after = w;
      }

pub dgi-filled : (s : List ℕ) (at end number contents : ℕ) → dgi_read number contents ≡ dgi_at s at end → list_wrong s contents end ≡ false → Filled s 1 (at + 3) end
dgi-filled s at end number contents d e = subst (λ (k : ℕ). Filled s 1 k end) (dgi-parts s at end number contents d).place (right-filled s contents end e)

-- ---- a DGI that holds one element, which fills it

short-element : (t : ℕ) (v : List ℕ) → t < 256 → length v < 0x80 → length (encode_element t v) ≡ 2 + length v
unfolding encode_element encode_tag encode_length
short-element t v h i =
    let a : t ∷ [] ≡ encode_tag t = lt! _ h refl in
    let b : length v ∷ [] ≡ encode_length (length v) = lt! _ i refl in
    rw (← a) (rw (← b) (omega arith))

module _ (s : List ℕ) (at end : ℕ) (ordered : at ≤ end) (held : end ≤ length s) (number t low high : ℕ) (v : List ℕ) where
  pub record LoneBack : Type 0 where
    pub start : ℕ
    pub opened : dgi_read number (at + 3) ≡ dgi_at s at end
    pub listed : list_wrong s (at + 3) end ≡ false
    pub found : element_read start end ≡ alone_at s (at + 3) end t low high
    pub long : end ≡ start + length v
    pub value : window s start end ≡ v

  -- a tag of one byte that marks no list, and a value that one length byte below 80 counts
  pub lone-back : t < 256 → (t % 32 ≡ 31 → ⊥) → marks_list t ≡ false → low ≤ length v → length v ≤ high → length v < 0x80
      → window s at end ≡ encode_dgi number (encode_element t v) → LoneBack
  lone-back small legal plain least most short q =
      let n = short-element t v small short in
      let d = dgi-back s at end ordered held number (encode_element t v) (omega arith) q in
      let a = alone-back s (at + 3) end d.room held t low high v (one small legal) least most d.after in
      let h = subst (λ (b : Bool). head_read t b a.start end ≡ head_at s (at + 3) end) plain a.head in
      record {
        start = a.start;
        opened = d.found;
        listed = filled-right (primitive first-level h (ended first-level held));
        found = a.found;
        long = a.long;
        value = a.value;
      }

pub lone-written : (s : List ℕ) (at end number contents t low high start stop : ℕ) → Bytes s → dgi_read number contents ≡ dgi_at s at end
    → element_read start stop ≡ alone_at s contents end t low high → window s at end ≡ encode_dgi number (encode_element t (window s start stop))
lone-written s at end number contents t low high start stop b d g =
    dgi-written s at end number contents b d ∙ ap (encode_dgi number) (alone-written s contents end t low high start stop b g)

-- ---- an AID in its place

module _ (s : List ℕ) (start stop : ℕ) where
  pub part-named : start ≤ stop → stop ≤ length s → 5 ≤ stop - start → stop - start ≤ 16 → Named (window s start stop)
  part-named h i j k = let n = window-length s start stop i in record { least = omega arith; most = omega arith }
