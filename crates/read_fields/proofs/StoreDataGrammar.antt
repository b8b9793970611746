-- STORE DATA, both directions. An encoded field is a DGI and, in it, one element alone: both are read back, and the tests on the DGI's number
-- take its branch. What is accepted came by such a branch, so the window is the DGI's bytes around the element's.
use Prim.Native.Nat.{ℕ, ◌+◌, ◌/◌, ◌%◌, ◌≤◌, ◌<◌}
use mathlib.Core.Path.{◌≡◌, refl, sym, ap, subst, ◌∙◌}
use mathlib.Core.List.{List, [], ◌∷◌}
use mathlib.Core.Option.{some}
use native.Mathlib.Omega.{arith}
use lib.ListN.{length}
use Rattle.std.specs.Prelude.{Some, None}
use Rattle.base_bytes.specs.Bytes.{byte, pair_at, between, part_of}
use Rattle.base_bytes.specs.declared.Part.{Part}
use Rattle.read_tlv.specs.Tlv.{element_read}
use Rattle.read_tlv.specs.Lists.{list_wrong}
use Rattle.read_tlv.specs.Filled.{Filled}
use Rattle.read_tlv.specs.Encoding.{window, Bytes, encode_number, encode_element}
use Rattle.base_choice.proofs.Branches.{no!, each, each-eq, eq!, ne! }
use Rattle.read_tlv.proofs.Windows.{window-starts, window-part}
use Rattle.read_tlv.proofs.Written.{window-two}
use Rattle.read_fields.specs.declared.request.Request.TheVariants as request
use Rattle.read_fields.specs.Found.{Field}
use Rattle.read_elements.specs.Reader.{alone_at}
use Rattle.read_fields.specs.StoreData.{dgi_read, dgi_at, confirmation_at, request_named, store_data_at}
use Rattle.read_fields.specs.Grammar.{Named, enable, disable, set_fall_back, confirmation, Wanted, store_data, found_as, ReadFrom, encode_dgi, EncodesStored, StoreDataBack, StoreDataWritten, StoreDataFilled}
use Rattle.read_elements.proofs.Alone.{alone-expected, alone-parts}
use Rattle.read_fields.proofs.Parts.{dgi-parts, dgi-filled, lone-back, lone-written, part-named}
use Rattle.read_fields.proofs.Cases.{each-dgi, same-value, no_value}
use Rattle.read_tlv.proofs.Branches.{each-found}

-- ---- an encoded field is read back

module _ (s : List ℕ) (at end : ℕ) (ordered : at ≤ end) (held : end ≤ length s) where
  pub record AidBack (number : ℕ) (aid : List ℕ) : Type 0 where
    pub part : Part
    pub read : request_named number part ≡ store_data_at s at end
    pub bytes : part_of s part ≡ aid

  aid-back : (number : ℕ) (aid : List ℕ) → (number ≡ 0x3A08 → ⊥) → Named aid → window s at end ≡ encode_dgi number (encode_element 0x4F aid)
      → AidBack number aid
  unfolding store_data_at
  aid-back number aid other named q =
      let a = lone-back s at end ordered held number 0x4F 5 16 aid (omega arith) (omega arith) refl named.least named.most (omega arith) q in
      let l = a.long in
      record {
        part = between a.start end;
        read = rw (← a.opened) (no! _ a.listed (ne! _ other (rw (← a.found) refl)));
        bytes = window-part s a.start end (omega arith) ∙ a.value;
      }

  number-back : (number : ℕ) → window s at end ≡ encode_dgi 0x3A08 (encode_element 0x4E (encode_number number))
      → Some (request.Confirm number) ≡ store_data_at s at end
  unfolding store_data_at confirmation_at
  number-back number q =
      let a = lone-back s at end ordered held 0x3A08 0x4E 2 2 (encode_number number) (omega arith) (omega arith) refl (omega arith) (omega arith) (omega arith) q in
      let l = a.long in
      let x = window-starts s a.start end (omega arith) held (number / 256) (number % 256 ∷ []) a.value in
      let y = window-starts s (a.start + 1) end (omega arith) held (number % 256) [] x.after in
      let f = x.first in let g = y.first in
      let e : number ≡ pair_at s a.start = omega arith in
      rw (← a.opened) (no! _ a.listed (eq! _ refl (rw (← a.found) (ap (λ (n : ℕ). Some (request.Confirm n)) e))))

pub store-data-back : StoreDataBack
unfolding request_named
store-data-back s at end (enable aid) ordered held (named, q) =
    let a = aid-back s at end ordered held 0x3A03 aid (omega arith) named q in
    let r : Some (request.Enable a.part) ≡ request_named 0x3A03 a.part = eq! _ refl refl in
    rw (← a.read) (rw (← r) (ap (λ (l : List ℕ). some (store_data (enable l))) a.bytes))
store-data-back s at end (disable aid) ordered held (named, q) =
    let a = aid-back s at end ordered held 0x3A04 aid (omega arith) named q in
    let r : Some (request.Disable a.part) ≡ request_named 0x3A04 a.part = ne! _ (omega arith) (eq! _ refl refl) in
    rw (← a.read) (rw (← r) (ap (λ (l : List ℕ). some (store_data (disable l))) a.bytes))
store-data-back s at end (set_fall_back aid) ordered held (named, q) =
    let a = aid-back s at end ordered held 0x3A05 aid (omega arith) named q in
    let r : Some (request.SetFallBack a.part) ≡ request_named 0x3A05 a.part = ne! _ (omega arith) (ne! _ (omega arith) (eq! _ refl refl)) in
    rw (← a.read) (rw (← r) (ap (λ (l : List ℕ). some (store_data (set_fall_back l))) a.bytes))
store-data-back s at end (confirmation number) ordered held (legal, q) = rw (← number-back s at end ordered held number q) refl

-- ---- what is accepted is so encoded

module _ (s : List ℕ) (at end : ℕ) (w : Wanted) (b : Bytes s) where
  abbrev Encoded : Wanted → Type 0
  Encoded z = ReadFrom store_data EncodesStored s at end z

  abbrev Accepted : Field → Type 0
  Accepted z = found_as s z ≡ some w → Encoded w

  module _ (number contents : ℕ) (d : dgi_read number contents ≡ dgi_at s at end) (start stop : ℕ) where
    aid-written : element_read start stop ≡ alone_at s contents end 0x4F 5 16 → Accepted (request_named number (between start stop))
    unfolding request_named
    aid-written g =
        let p = dgi-parts s at end number contents d in
        let x = alone-expected s contents end 0x4F 5 16 start stop g in
        let k : start ≤ stop = x.inside.ordered in
        let f : stop ≡ end = (alone-parts s contents end 0x4F 5 16 start stop g).fills in
        let aid = part_of s (between start stop) in
        let e : aid ≡ window s start stop = window-part s start stop k in
        let named : Named aid = subst Named (sym e) (part-named s start stop k (omega arith) x.least x.most) in
        let bytes : window s at end ≡ encode_dgi number (encode_element 0x4F aid) =
        lone-written s at end number contents 0x4F 5 16 start stop b d g ∙ ap (λ (l : List ℕ). encode_dgi number (encode_element 0x4F l)) (sym e) in
        let by : (n : ℕ) → number ≡ n → window s at end ≡ encode_dgi n (encode_element 0x4F aid) =
        λ n h. subst (λ (m : ℕ). window s at end ≡ encode_dgi m (encode_element 0x4F aid)) h bytes in
        let lies : at ≤ end = omega arith in
        let held : end ≤ length s = omega arith in
        each-eq Accepted (λ h. same-value Encoded (store_data (enable aid)) w record { ordered = lies; held = held; value = enable aid; meant = refl; encoded = (named, by 0x3A03 h) })
        (λ _. each-eq Accepted (λ h. same-value Encoded (store_data (disable aid)) w record { ordered = lies; held = held; value = disable aid; meant = refl; encoded = (named, by 0x3A04 h) })
        (λ _. each-eq Accepted (λ h. same-value Encoded (store_data (set_fall_back aid)) w record { ordered = lies; held = held; value = set_fall_back aid; meant = refl; encoded = (named, by 0x3A05 h) })
        (λ _. no_value (Encoded w) w)))

    number-written : number ≡ 0x3A08 → element_read start stop ≡ alone_at s contents end 0x4E 2 2 → Accepted (Some (request.Confirm (pair_at s start)))
    number-written h g =
        let p = dgi-parts s at end number contents d in
        let x = alone-expected s contents end 0x4E 2 2 start stop g in
        let f : stop ≡ end = (alone-parts s contents end 0x4E 2 2 start stop g).fills in
        let i = x.inside in
        let l = x.least in let m = x.most in
        let y : byte s start < 256 = b start in
        let z : byte s (start + 1) < 256 = b (start + 1) in
        let n = pair_at s start in
        let high : byte s start ≡ n / 256 = omega arith in
        let low : byte s (start + 1) ≡ n % 256 = omega arith in
        let c : window s start stop ≡ encode_number n =
        ap (window s start) {x = stop} {y = start + 1 + 1} (omega arith) ∙ window-two s start (omega arith) ∙ cc in
        let bytes : window s at end ≡ encode_dgi 0x3A08 (encode_element 0x4E (encode_number n)) =
        lone-written s at end number contents 0x4E 2 2 start stop b d g ∙ ap (λ (l : List ℕ). encode_dgi number (encode_element 0x4E l)) c
        ∙ ap (λ (m : ℕ). encode_dgi m (encode_element 0x4E (encode_number n))) h in
        same-value Encoded (store_data (confirmation n)) w record { ordered = omega arith; held = omega arith; value = confirmation n; meant = refl; encoded = (omega arith, bytes) }

  accepted : Accepted (store_data_at s at end)
  unfolding store_data_at confirmation_at
  accepted = each-dgi Accepted (dgi_at s at end) (no_value (Encoded w) w) λ number contents d.
      each Accepted (list_wrong s contents end) (λ _. no_value (Encoded w) w) (λ _. each-eq Accepted
      (λ h. each-found Accepted (alone_at s contents end 0x4E 2 2) (no_value (Encoded w) w) λ start stop g. number-written number contents d start stop h g)
      (λ _. each-found Accepted (alone_at s contents end 0x4F 5 16) (no_value (Encoded w) w) λ start stop g. aid-written number contents d start stop g))

pub store-data-written : StoreDataWritten
store-data-written s at end w b q = accepted s at end w b q

pub store-data-filled : StoreDataFilled
unfolding store_data_at
store-data-filled s at end r =
    let P : Field → Type 0 = λ z. Some r ≡ z → Filled s 1 (at + 3) end in
    let none : P None = λ q. let z : ◌≡◌ {A = ℕ} 0 1 = cc in absurd (omega arith) in
    each-dgi P (dgi_at s at end) none λ number contents d. each P (list_wrong s contents end) (λ _. none) λ e _.
    dgi-filled s at end number contents d e
