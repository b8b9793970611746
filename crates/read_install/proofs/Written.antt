-- Create's data field: whatever is accepted is the encoding of what was read. Each reader's definition is followed to the branch that reads
-- something; there the window is cut where its parts were found, and each part is the bytes of its encoding.
use Prim.Native.Nat.{ℕ, zero, suc, ◌-◌, ◌≤◌}
use mathlib.Core.Path.{◌≡◌, refl, sym, ap, subst, ◌∙◌}
use mathlib.Core.List.{List, [], ◌∷◌, ◌++◌}
use mathlib.Core.Option.{some}
use native.Mathlib.Omega.{arith}
use lib.ListN.{length}
use Rattle.std.specs.Prelude.{Option, Some, None}
use Rattle.read_tlv.proofs.Parts.{nothing, element-start, element-stop}
use mathlib.Core.Bool.{Bool, true, false, false≢true}
use Rattle.base_bytes.specs.Bytes.{between, part_of}
use Rattle.read_tlv.specs.Tlv.{element_read, expect_at}
use Rattle.read_tlv.specs.Lists.{list_wrong}
use Rattle.read_elements.specs.Reader.{alone_at}
use Rattle.read_elements.proofs.Alone.{alone-expected, alone-written}
use Rattle.read_tlv.specs.declared.Element.{Element}
use Rattle.read_tlv.specs.Encoding.{window, Bytes, encode_length, encode_element}
use Rattle.base_choice.proofs.Branches.{each, each-le, each-lt, each-eq}
use Rattle.read_tlv.proofs.Inside.{expect-parts}
use Rattle.read_tlv.proofs.Windows.{window-none, window-length, window-part, window-cut}
use Rattle.read_tlv.proofs.Written.{length-written, element-written}
use Rattle.read_tlv.specs.Filled.{Filled}
use Rattle.read_tlv.proofs.Fills.{right-filled}
use Rattle.read_fields.specs.Grammar.{Created, Wanted, create, found_as, ReadFrom}
use Rattle.read_fields.specs.Found.{Field}
use Rattle.read_fields.proofs.Cases.{same-value, no_value}
use Rattle.read_install.specs.Parameters.{protocols_within, protocols_at, number_at, grant_of, memory_at, parameters_at}
use Rattle.read_install.specs.Install.{prefixed_at, names_at, rights_at, install_of}
use Rattle.read_install.specs.Grammar.{Free, encode_prefixed, encode_protocols, encode_parameters, encode_names, encode_rights, encode_install, high_first, Sized, OrTwoMore, AllPairs, EncodesInstall, EncodesCreated, InstallWritten, ParametersFilled}
use Rattle.read_tlv.proofs.Branches.{each-found}
use Rattle.read_install.proofs.Inside.{prefixed-parts, each-granted, each-listed}
use Rattle.read_install.proofs.Numbers.{number-first}

-- ---- a field after its length

module _ (s : List ℕ) (at end low high start stop : ℕ) (q : element_read start stop ≡ prefixed_at s at end low high) where
  pub prefixed-written : window s at stop ≡ encode_prefixed (window s start stop)
  unfolding encode_prefixed
  prefixed-written =
      let p = prefixed-parts s at end low high start stop q in let i = p.inside in let e = p.stops in
      let n : p.count ≡ length (window s start stop) = sym (window-length s start stop (omega arith) ∙ omega arith) in
      window-cut s at start stop (omega arith) (omega arith) (omega arith)
      ∙ ap (λ (l : List ℕ). l ++ window s start stop) (length-written s at end p.count start p.counted ∙ ap encode_length n)

  pub prefixed-sized : Sized low high (window s start stop)
  prefixed-sized =
      let p = prefixed-parts s at end low high start stop q in let i = p.inside in let e = p.stops in let l = p.least in let m = p.most in
      let n = window-length s start stop (omega arith) in
      record { least = omega arith; most = omega arith }

-- ---- 81, n occurrences

pub record ProtocolsWritten (s : List ℕ) (at end : ℕ) : Type 0 where
  pub values : List (List ℕ)
  pub pairs : AllPairs values
  pub written : window s at end ≡ encode_protocols values

no-protocols : (s : List ℕ) (at end : ℕ) → at ≤ end → end ≤ at → ProtocolsWritten s at end
unfolding encode_protocols
no-protocols s at end h i = let e : at ≡ end = omega arith in record { values = []; pairs = tt; written = ap (λ (n : ℕ). window s n end) e ∙ window-none s end }

protocols-within : (n : ℕ) (s : List ℕ) (at end : ℕ) → Bytes s → end - at ≤ n → at ≤ end → end ≤ length s
    → true ≡ protocols_within n s at end → ProtocolsWritten s at end
unfolding protocols_within encode_protocols
protocols-within zero s at end b h o l = λ _. no-protocols s at end o (omega arith)
protocols-within (suc n) s at end b h o l =
    let P : Bool → Type 0 = λ z. true ≡ z → ProtocolsWritten s at end in
    let none : P false = λ q. absurd (false≢true (sym q)) in
    each-le P (λ i _. no-protocols s at end o i) (λ i. each-found P (expect_at s at end 0x81 2 2) none (λ k e f q.
    let x = expect-parts s at end 0x81 2 2 k e f in let j = x.inside in let y = x.least in let z = x.most in
    let r = protocols-within n s e end b (omega arith) (omega arith) l q in
    record {
      values = window s k e ∷ r.values;
      pairs = (window-length s k e (omega arith) ∙ omega arith, r.pairs);
      written = window-cut s at e end (omega arith) (omega arith) l
          ∙ ap (λ (u : List ℕ). u ++ window s e end) (element-written s at end 0x81 2 2 k e b f)
          ∙ ap (λ (u : List ℕ). encode_element 0x81 (window s k e) ++ u) r.written;
    }))

protocols-written : (s : List ℕ) (at end : ℕ) → Bytes s → at ≤ end → end ≤ length s → true ≡ protocols_at s at end → ProtocolsWritten s at end
unfolding protocols_at
protocols-written s at end b o l q = protocols-within (end - at) s at end b (omega arith) o l q

-- ---- the quota

pub record MemoryWritten (s : List ℕ) (at end capacity number : ℕ) : Type 0 where
  pub memory : List ℕ
  pub counted : OrTwoMore 2 memory
  pub numbered : number ≡ high_first 0 memory
  pub granted : 1 ≤ number
  pub fits : number ≤ capacity
  pub written : window s at end ≡ encode_element 0x83 memory

memory-written : (s : List ℕ) (at end capacity number : ℕ) → Bytes s → Some number ≡ memory_at s at end capacity → MemoryWritten s at end capacity number
unfolding memory_at grant_of
memory-written s at end capacity number b =
    let P : Option ℕ → Type 0 = λ z. Some number ≡ z → MemoryWritten s at end capacity number in
    let none : P None = nothing in
    each-found P (alone_at s at end 0x83 2 4) none λ k e f. each-eq P (λ _. none) (λ t. each-eq P (λ _. none) (λ u. each-lt P (λ _. none) (λ v q.
    let x = alone-expected s at end 0x83 2 4 k e f in let j = x.inside in let y = x.least in let z = x.most in
    let m : number ≡ number_at s k (e - k) = cc in
    let n = window-length s k e (omega arith) in
    record {
      memory = window s k e;
      counted = record { least = omega arith; most = omega arith; not_between = λ w. t (omega arith) };
      numbered = m ∙ number-first s k e (omega arith) (omega arith) y z t;
      granted = omega arith;
      fits = omega arith;
      written = alone-written s at end 0x83 2 4 k e b f;
    })))

-- ---- the install parameters

module _ (s : List ℕ) (at end capacity number : ℕ) where
  pub record ParametersWritten : Type 0 where
    pub values : List (List ℕ)
    pub pairs : AllPairs values
    pub listed : Sized 1 255 (encode_protocols values)
    pub memory : List ℕ
    pub counted : OrTwoMore 2 memory
    pub numbered : number ≡ high_first 0 memory
    pub granted : 1 ≤ number
    pub fits : number ≤ capacity
    pub written : window s at end ≡ encode_element 0xC9 (encode_protocols values) ++ encode_element 0xEF (encode_element 0x83 memory)

  parameters-written : Bytes s → Some number ≡ parameters_at s at end capacity → ParametersWritten
  unfolding parameters_at
  parameters-written b =
      let P : Option ℕ → Type 0 = λ z. Some number ≡ z → ParametersWritten in
      let none : P None = nothing in
      each P (list_wrong s at end) (λ _. none) λ _.
      each-found P (expect_at s at end 0xC9 1 255) none λ k e c. each-listed P (protocols_at s k e) none λ l.
      each-found P (alone_at s e end 0xEF 0 255) none λ f t d q.
      let x = expect-parts s at end 0xC9 1 255 k e c in let i = x.inside in let y = x.least in let z = x.most in
      let u = alone-expected s e end 0xEF 0 255 f t d in let j = u.inside in
      let r = protocols-written s k e b (omega arith) (omega arith) l in
      let m = memory-written s f t capacity number b q in
      let n = window-length s k e (omega arith) in
      let sized : Sized 1 255 (window s k e) = record { least = omega arith; most = omega arith } in
      record {
        values = r.values;
        pairs = r.pairs;
        listed = subst (Sized 1 255) r.written sized;
        memory = m.memory;
        counted = m.counted;
        numbered = m.numbered;
        granted = m.granted;
        fits = m.fits;
        written = window-cut s at e end (omega arith) (omega arith) (omega arith)
            ∙ ap (λ (w : List ℕ). w ++ window s e end) (element-written s at end 0xC9 1 255 k e b c ∙ ap (encode_element 0xC9) r.written)
            ∙ ap (λ (w : List ℕ). encode_element 0xC9 (encode_protocols r.values) ++ w)
            (alone-written s e end 0xEF 0 255 f t b d ∙ ap (encode_element 0xEF) m.written);
      }

-- ---- load file AID, module AID and ISD-P AID

module _ (s : List ℕ) (at end start stop : ℕ) where
  pub record NamesWritten : Type 0 where
    pub load_file : List ℕ
    pub loaded : Sized 5 16 load_file
    pub module_aid : List ℕ
    pub moduled : Sized 5 16 module_aid
    pub named : Sized 5 16 (window s start stop)
    pub ordered : at ≤ stop
    pub reached : start ≤ stop
    pub within : stop ≤ end
    pub held : end ≤ length s
    pub written : window s at stop ≡ encode_prefixed load_file ++ (encode_prefixed module_aid ++ encode_prefixed (window s start stop))

  names-written : element_read start stop ≡ names_at s at end → NamesWritten
  unfolding names_at
  names-written =
      let P : Option Element → Type 0 = λ z. element_read start stop ≡ z → NamesWritten in
      let none : P None = nothing in
      each-found P (prefixed_at s at end 5 16) none λ k next c. each-found P (prefixed_at s next end 5 16) none λ l own d q.
      let i = (prefixed-parts s at end 5 16 k next c).inside in
      let j = (prefixed-parts s next end 5 16 l own d).inside in
      let m = (prefixed-parts s own end 5 16 start stop q).inside in
      record {
        load_file = window s k next;
        loaded = prefixed-sized s at end 5 16 k next c;
        module_aid = window s l own;
        moduled = prefixed-sized s next end 5 16 l own d;
        named = prefixed-sized s own end 5 16 start stop q;
        ordered = omega arith;
        reached = omega arith;
        within = omega arith;
        held = omega arith;
        written = window-cut s at next stop (omega arith) (omega arith) (omega arith)
            ∙ ap (λ (w : List ℕ). w ++ window s next stop) (prefixed-written s at end 5 16 k next c)
            ∙ ap (λ (w : List ℕ). encode_prefixed (window s k next) ++ w)
            (window-cut s next own stop (omega arith) (omega arith) (omega arith)
            ∙ ap (λ (w : List ℕ). w ++ window s own stop) (prefixed-written s next end 5 16 l own d)
            ∙ ap (λ (w : List ℕ). encode_prefixed (window s l own) ++ w) (prefixed-written s own end 5 16 start stop q));
      }

-- ---- privileges, install parameters and token

empty : (s : List ℕ) (at stop : ℕ) → at ≡ stop → window s at stop ≡ []
empty s at stop e = ap (λ (n : ℕ). window s n stop) e ∙ window-none s stop

module _ (s : List ℕ) (at end from to : ℕ) where
  pub record RightsWritten : Type 0 where
    pub privileges : List ℕ
    pub privileged : OrTwoMore 1 privileges
    pub parameters : Sized 0 255 (window s from to)
    pub ordered : at ≤ end
    pub written : window s at end ≡ encode_prefixed privileges ++ (encode_prefixed (window s from to) ++ encode_prefixed [])

  rights-written : element_read from to ≡ rights_at s at end → RightsWritten
  unfolding rights_at
  rights-written =
      let P : Option Element → Type 0 = λ z. element_read from to ≡ z → RightsWritten in
      let none : P None = nothing in
      each-found P (prefixed_at s at end 1 3) none λ k e c. each-eq P (λ _. none) (λ t. each-found P (prefixed_at s e end 0 255) none λ f g d.
      each-found P (prefixed_at s g end 0 0) none λ h last u. each-eq P (λ v q.
      let a₁ : f ≡ from = sym (element-start q) in let a₂ : g ≡ to = sym (element-stop q) in
      let x = prefixed-parts s at end 1 3 k e c in let i = x.inside in
      let j = (prefixed-parts s e end 0 255 f g d).inside in
      let y = prefixed-parts s g end 0 0 h last u in let m = y.inside in let w = y.stops in let z = y.most in
      let n = prefixed-sized s at end 1 3 k e c in
      let o = window-length s k e (omega arith) in
      let token : window s g end ≡ encode_prefixed [] = ap (window s g) (sym v) ∙ prefixed-written s g end 0 0 h last u ∙ ap encode_prefixed (empty s h last (omega arith)) in
      let whole : window s at end ≡ encode_prefixed (window s k e) ++ (encode_prefixed (window s f g) ++ encode_prefixed []) =
      window-cut s at e end (omega arith) (omega arith) (omega arith)
      ∙ ap (λ (w : List ℕ). w ++ window s e end) (prefixed-written s at end 1 3 k e c)
      ∙ ap (λ (w : List ℕ). encode_prefixed (window s k e) ++ w)
      (window-cut s e g end (omega arith) (omega arith) (omega arith)
      ∙ ap (λ (w : List ℕ). w ++ window s g end) (prefixed-written s e end 0 255 f g d)
      ∙ ap (λ (w : List ℕ). encode_prefixed (window s f g) ++ w) token) in
      record {
        privileges = window s k e;
        privileged = record { least = n.least; most = n.most; not_between = λ p. t (omega arith) };
        parameters = rw (← a₁, ← a₂) (prefixed-sized s e end 0 255 f g d);
        ordered = omega arith;
        written = rw (← a₁, ← a₂) whole;
      }) (λ _. none))

-- ---- the whole field

module _ (s : List ℕ) (at end capacity start stop from to number : ℕ) where
  abbrev free_of : NamesWritten s at end start stop → RightsWritten s stop end from to → ParametersWritten s from to capacity number → Free
  free_of n r p = record {
    load_file = n.load_file;
    module_aid = n.module_aid;
    privileges = r.privileges;
    protocols = p.values;
    memory = p.memory;
  }

  whole : (n : NamesWritten s at end start stop) (r : RightsWritten s stop end from to) (p : ParametersWritten s from to capacity number)
      → EncodesInstall capacity (window s start stop) number (window s at end)
  unfolding encode_install encode_names encode_rights encode_parameters
  whole n r p =
      let parameters : window s from to ≡ encode_parameters (free_of n r p) = p.written in
      let o = n.ordered in let w = n.within in
      record {
        free = free_of n r p;
        loaded = n.loaded;
        moduled = n.moduled;
        named = n.named;
        privileged = r.privileged;
        parameters = record { pairs = p.pairs; listed = p.listed; counted = p.counted; number = p.numbered; granted = p.granted; fits = p.fits };
        short = (subst (Sized 0 255) parameters r.parameters).most;
        written = window-cut s at stop end o w n.held
            ∙ ap (λ (l : List ℕ). l ++ window s stop end) n.written
            ∙ ap (λ (l : List ℕ). encode_names (window s start stop) (free_of n r p) ++ l)
            (r.written ∙ ap (λ (l : List ℕ). encode_prefixed r.privileges ++ (encode_prefixed l ++ encode_prefixed [])) parameters);
      }

pub install-written : InstallWritten
unfolding install_of
install-written s at end capacity w b =
    let Encoded : Wanted → Type 0 = λ z. ReadFrom create (EncodesCreated capacity) s at end z in
    let P : Field → Type 0 = λ z. found_as s z ≡ some w → Encoded w in
    let none : P None = no_value (Encoded w) w in
    each-found P (names_at s at end) none λ start stop c. each-found P (rights_at s stop end) none λ from to d.
    each-granted P (parameters_at s from to capacity) none λ number g.
    let n = names-written s at end start stop c in
    let r = rights-written s stop end from to d in
    let p = parameters-written s from to capacity number b g in
    let o = n.ordered in let m = n.within in
    let e : part_of s (between start stop) ≡ window s start stop = window-part s start stop n.reached in
    let v : Created = record { aid = part_of s (between start stop); quota = number } in
    same-value Encoded (create v) w record {
      ordered = omega arith;
      held = n.held;
      value = v;
      meant = refl;
      encoded = rw e (whole s at end capacity start stop from to number n r p);
    }

pub parameters-filled : ParametersFilled
unfolding parameters_at
parameters-filled s at end capacity number = each (λ (z : Option ℕ). Some number ≡ z → Filled s 1 at end) (list_wrong s at end)
    (λ _. nothing) (λ e _. right-filled s at end e)
