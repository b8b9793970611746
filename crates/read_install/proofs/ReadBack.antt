-- Create's data field: an encoded field is read back. The window that holds the encoding is cut into the encodings of its parts, each of
-- which its reader finds there; the tests on their numbers of bytes are what the encoding promises.
use Prim.Native.Nat.{ℕ, zero, suc, ◌+◌, ◌-◌, ◌≤◌}
use mathlib.Core.Bool.{true}
use Rattle.std.specs.Prelude.{Some}
use mathlib.Core.Path.{◌≡◌, refl, sym, ap, ◌∙◌}
use mathlib.Core.List.{List, [], ◌∷◌, ◌++◌, append_assoc, append-nil}
use native.Mathlib.Omega.{arith}
use lib.ListN.{length, length-append}
use Rattle.read_tlv.specs.Tlv.{element_read}
use Rattle.read_tlv.specs.Encoding.{window, encode_length, encode_element}
use Rattle.base_choice.proofs.Branches.{no!, le!, nle!, nlt!, eq!, ne! }
use Rattle.read_tlv.proofs.Inside.{expect-inside}
use Rattle.read_tlv.proofs.Windows.{window-length, window-begins, window-part}
use Rattle.read_tlv.specs.Filled.{Filled, ended, primitive, constructed}
use Rattle.read_tlv.specs.Grammar.{one}
use Rattle.read_tlv.proofs.Fills.{filled-right, first-level, second-level}
use Rattle.read_tlv.proofs.ReadBack.{length_back, element-back}
use Rattle.read_elements.proofs.Alone.{alone-back}
use Rattle.read_install.specs.Parameters.{protocols_within, protocols_at, number_at, grant_of, memory_at, parameters_at}
use Rattle.read_install.specs.Install.{prefixed_of, prefixed_at, names_at, rights_at, install_of}
use Rattle.read_install.specs.Grammar.{Free, encode_prefixed, encode_protocols, encode_parameters, encode_names, encode_rights, encode_install, high_first, Sized, OrTwoMore, AllPairs, LegalParameters, InstallBack}
use Rattle.read_install.proofs.Numbers.{number-first}

-- nothing is left of a window whose bytes are none
nothing_left : (s : List ℕ) (at end : ℕ) → at ≤ end → end ≤ length s → window s at end ≡ [] → at ≡ end
nothing_left s at end o h q = let n = sym (window-length s at end h) ∙ ap length q in omega arith

-- ---- a field after its length

module _ (s : List ℕ) (at end : ℕ) (ordered : at ≤ end) (held : end ≤ length s) (low high : ℕ) (v rest : List ℕ) where
  pub record PrefixedBack : Type 0 where
    pub start : ℕ
    pub stop : ℕ
    pub found : element_read start stop ≡ prefixed_at s at end low high
    pub long : stop ≡ start + length v
    pub past : at ≤ start
    pub within : stop ≤ end
    pub value : window s start stop ≡ v
    pub after : window s stop end ≡ rest

  pub prefixed-back : Sized low high v → window s at end ≡ encode_prefixed v ++ rest → PrefixedBack
  unfolding encode_prefixed prefixed_at prefixed_of
  prefixed-back z q =
      let b = length_back s at end ordered held (length v) (v ++ rest) (q ∙ append_assoc (encode_length (length v)) v rest) in
      let w = window-begins s b.next end b.within held v rest b.after in
      let r = w.room in let l = z.least in let m = z.most in let p = b.past in
      record {
        start = b.next;
        stop = b.next + length v;
        found = rw (← b.read) (nlt! _ (omega arith) (nlt! _ (omega arith) (nlt! _ (omega arith) refl)));
        long = refl;
        past = omega arith;
        within = r;
        value = w.front;
        after = w.after;
      }

-- ---- 81, n occurrences

protocols-back-within : (n : ℕ) (s : List ℕ) (at end : ℕ) (values : List (List ℕ)) → end - at ≤ n → at ≤ end → end ≤ length s
    → AllPairs values → window s at end ≡ encode_protocols values → true ≡ protocols_within n s at end
unfolding protocols_within encode_protocols
protocols-back-within zero s at end values h o l p q = refl
protocols-back-within (suc n) s at end [] h o l p q = let e = nothing_left s at end o l q in le! _ (omega arith) refl
protocols-back-within (suc n) s at end (v ∷ values) h o l p q =
    let two = p.0 in
    let b = element-back s at end o l 0x81 2 2 v (encode_protocols values) (one (omega arith) (omega arith)) (omega arith) (omega arith) q in
    let w = b.within in let x = expect-inside s at end 0x81 2 2 b.start b.stop b.found in
    nle! _ (omega arith) (rw (← b.found) (protocols-back-within n s b.stop end values (omega arith) (omega arith) l p.1 b.after))

protocols-back : (s : List ℕ) (at end : ℕ) (values : List (List ℕ)) → at ≤ end → end ≤ length s → AllPairs values
    → window s at end ≡ encode_protocols values → true ≡ protocols_at s at end
unfolding protocols_at
protocols-back s at end values o l p q = protocols-back-within (end - at) s at end values (omega arith) o l p q

-- ---- the quota

memory-back : (s : List ℕ) (at end capacity number : ℕ) (memory : List ℕ) → at ≤ end → end ≤ length s → OrTwoMore 2 memory
    → number ≡ high_first 0 memory → 1 ≤ number → number ≤ capacity → window s at end ≡ encode_element 0x83 memory
    → (Some number ≡ memory_at s at end capacity) × Filled s 2 at end
unfolding memory_at grant_of
memory-back s at end capacity number memory o l c n g f q =
    let least = c.least in let most = c.most in let not = c.not_between in
    let b = alone-back s at end o l 0x83 2 4 memory (one (omega arith) (omega arith)) (omega arith) (omega arith) q in
    let k = b.long in
    let other : end - b.start ≡ 3 → ⊥ = λ z. not (omega arith) in
    let m : number_at s b.start (end - b.start) ≡ number =
    number-first s b.start end (omega arith) l (omega arith) (omega arith) other ∙ ap (high_first 0) b.value ∙ sym n in (
      rw (← b.found) (ne! _ other (rw m (ne! _ (omega arith) (nlt! _ (omega arith) refl)))),
      primitive second-level b.head (ended second-level l),
    )

-- ---- the install parameters

-- a value is no longer than an element that holds it, and no longer than what holds that
held-length : (t : ℕ) (v before : List ℕ) → length v ≤ length (before ++ encode_element t v)
unfolding encode_element
held-length t v before = simp length-append (omega arith)

parameters-back : (s : List ℕ) (at end capacity number : ℕ) (free : Free) → at ≤ end → end ≤ length s → LegalParameters capacity number free
    → length (encode_parameters free) ≤ 255 → window s at end ≡ encode_parameters free → Some number ≡ parameters_at s at end capacity
unfolding encode_parameters parameters_at
parameters-back s at end capacity number free o l p h q =
    let m : length (encode_element 0x83 free.memory) ≤ length (encode_parameters free) = held-length 0xEF (encode_element 0x83 free.memory) (encode_element 0xC9 (encode_protocols free.protocols)) in
    let a = element-back s at end o l 0xC9 1 255 (encode_protocols free.protocols) (encode_element 0xEF (encode_element 0x83 free.memory))
    (one (omega arith) (omega arith)) p.listed.least p.listed.most q in
    let aw = a.within in let al = a.long in
    let r = protocols-back s a.start a.stop free.protocols (omega arith) (omega arith) p.pairs a.value in
    let b = alone-back s a.stop end aw l 0xEF 0 255 (encode_element 0x83 free.memory) (one (omega arith) (omega arith)) (omega arith) (omega arith) a.after in
    let bl = b.long in
    let n = memory-back s b.start end capacity number free.memory (omega arith) l p.counted p.number p.granted p.fits b.value in
    no! _ (filled-right (primitive first-level a.head (constructed first-level b.head n.1 (ended first-level l))))
    (rw (← a.found) (rw (← r) (rw (← b.found) n.0)))

-- ---- load file AID, module AID and ISD-P AID

module _ (s : List ℕ) (at end : ℕ) (ordered : at ≤ end) (held : end ≤ length s) where
  pub record NamesBack (aid rest : List ℕ) : Type 0 where
    pub start : ℕ
    pub stop : ℕ
    pub found : element_read start stop ≡ names_at s at end
    pub reached : start ≤ stop
    pub within : stop ≤ end
    pub value : window s start stop ≡ aid
    pub after : window s stop end ≡ rest

  names-back : (aid rest : List ℕ) (free : Free) → Sized 5 16 free.load_file → Sized 5 16 free.module_aid → Sized 5 16 aid
      → window s at end ≡ encode_names aid free ++ rest → NamesBack aid rest
  unfolding names_at encode_names
  names-back aid rest free x y z q =
      let w : window s at end ≡ encode_prefixed free.load_file ++ (encode_prefixed free.module_aid ++ (encode_prefixed aid ++ rest)) = q ∙ simp append_assoc in
      let a = prefixed-back s at end ordered held 5 16 free.load_file (encode_prefixed free.module_aid ++ (encode_prefixed aid ++ rest)) x w in
      let b = prefixed-back s a.stop end a.within held 5 16 free.module_aid (encode_prefixed aid ++ rest) y a.after in
      let c = prefixed-back s b.stop end b.within held 5 16 aid rest z b.after in
      let l = c.long in
      record {
        start = c.start;
        stop = c.stop;
        found = rw (← a.found) (rw (← b.found) c.found);
        reached = omega arith;
        within = c.within;
        value = c.value;
        after = c.after;
      }

  -- ---- privileges, install parameters and token

  pub record RightsBack (parameters : List ℕ) : Type 0 where
    pub from : ℕ
    pub to : ℕ
    pub found : element_read from to ≡ rights_at s at end
    pub reached : from ≤ to
    pub within : to ≤ end
    pub value : window s from to ≡ parameters

  rights-back : (free : Free) → OrTwoMore 1 free.privileges → length (encode_parameters free) ≤ 255
      → window s at end ≡ encode_rights free → RightsBack (encode_parameters free)
  unfolding rights_at encode_rights
  rights-back free x h q =
      let not = x.not_between in
      let a = prefixed-back s at end ordered held 1 3 free.privileges (encode_prefixed (encode_parameters free) ++ encode_prefixed [])
      (record { least = x.least; most = x.most }) q in
      let al = a.long in
      let b = prefixed-back s a.stop end a.within held 0 255 (encode_parameters free) (encode_prefixed []) (record { least = omega arith; most = h }) a.after in
      let bl = b.long in
      let c = prefixed-back s b.stop end b.within held 0 0 [] [] (record { least = omega arith; most = omega arith })
      (b.after ∙ sym (append-nil (encode_prefixed []))) in
      let e = nothing_left s c.stop end c.within held c.after in
      let other : a.stop - a.start ≡ 2 → ⊥ = λ z. not (omega arith) in
      record {
        from = b.start;
        to = b.stop;
        found = rw (← a.found) (ne! _ other (rw (← b.found) (rw (← c.found) (eq! _ e refl))));
        reached = omega arith;
        within = b.within;
        value = b.value;
      }

-- ---- the whole field

pub install-back : InstallBack
unfolding install_of encode_install
install-back s at end capacity v o l x =
    let free = x.free in
    let n = names-back s at end o l v.aid (encode_rights free) free x.loaded x.moduled x.named x.written in
    let nw = n.within in let nr = n.reached in
    let r = rights-back s n.stop end nw l free x.privileged x.short n.after in
    let rw' = r.within in
    let p = parameters-back s r.from r.to capacity v.quota free r.reached (omega arith) x.parameters x.short r.value in
    let e = window-part s n.start n.stop n.reached in
    rw (← n.found) (rw (← r.found) (rw (← p) (rw e (rw n.value refl))))
