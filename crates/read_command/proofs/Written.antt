-- Whatever command is accepted is the encoding of what was read. It passed all six rows: so its class and parameters are right and it is
-- framed, and its data field is the encoding that the field's own theorem gives; with no data field it is GET DATA's five bytes.
use Prim.Native.Nat.{ℕ}
use mathlib.Core.Path.{◌≡◌, refl, sym, ap, subst, ◌∙◌}
use mathlib.Core.List.{List, [], ◌∷◌}
use mathlib.Core.Option.{some}
use mathlib.Core.Bool.{Bool, true, false, ◌&&◌, ◌||◌}
use native.Mathlib.Omega.{arith}
use lib.ListN.{length}
use lib.Dec.{eqb}
use borrow.Author.Tests.{eqb-true, ne_eqb, eq-eqb, not-false}
use Rattle.std.specs.Prelude.{Ok, Err}
use Rattle.base_bytes.specs.Bytes.{byte}
use Rattle.read_tlv.specs.Encoding.{window, Bytes}
use Rattle.base_choice.proofs.Branches.{each-eq}
use Rattle.read_fields.specs.Grammar.{Inquiry, Wanted, get_data, wanted_of, found_as, EncodesListed, EncodesNext}
use Rattle.read_fields.proofs.StoreDataGrammar.{store-data-written}
use Rattle.read_fields.proofs.DeletionGrammar.{deletion-written}
use Rattle.read_fields.proofs.ListingGrammar.{listing-written}
use Rattle.read_install.proofs.Written.{install-written}
use Rattle.read_fields.specs.declared.request.Request.{Request}
use Rattle.read_fields.specs.Found.{Field}
use Rattle.read_frame.specs.Framing.{instruction_wrong, parameters_right, shape_right, is_bare, data_end}
use Rattle.read_command.specs.Requests.{goes_on, field_of}
use Rattle.read_command.specs.Reading.{read_of, Reading}
use Rattle.read_command.specs.Grammar.{read_as, Bare, second_of, Listing, Encodes, CommandWritten}
use Rattle.std.proofs.lemmas.Bool.{and_parts}
use Rattle.read_frame.proofs.Framed.{class-right, parameters-right, shape-right, passes-framed}
use Rattle.read_command.proofs.Answers.{Passes, read-passes, read_done}

read_as_lem : (s : List ℕ) (r : Reading) (v : Wanted) → read_as s r ≡ some v → (q : Request) × ((Ok q ≡ r) × (some (wanted_of s q) ≡ some v))
read_as_lem s (Ok q) v e = (q, (refl, e))
read_as_lem s (Err w) v e = let z : ◌≡◌ {A = ℕ} 0 1 = cc in absurd (omega arith)

-- an instruction that is none of the other four is GET DATA's
instruction-last : (s : List ℕ) (capacity : ℕ) → Passes s capacity → (byte s 1 ≡ 0xE6 → ⊥) → (byte s 1 ≡ 0xE4 → ⊥) → (byte s 1 ≡ 0xE2 → ⊥) → (byte s 1 ≡ 0xF2 → ⊥) → byte s 1 ≡ 0xCA
unfolding instruction_wrong
instruction-last s capacity p x y z w =
    let known : (eqb (byte s 1) 0xE6 || (eqb (byte s 1) 0xE4 || (eqb (byte s 1) 0xE2 || (eqb (byte s 1) 0xF2 || eqb (byte s 1) 0xCA)))) ≡ true =
    not-false _ p.instruction_right in
    eqb-true _ _ (rw (ne_eqb (byte s 1) 0xE6 x, ne_eqb (byte s 1) 0xE4 y, ne_eqb (byte s 1) 0xE2 z, ne_eqb (byte s 1) 0xF2 w) at known)

or-none : (a : Bool) → (a || false) ≡ true → a ≡ true
or-none true h = refl
or-none false h = h

bare_of : (s : List ℕ) → byte s 1 ≡ 0xCA → shape_right s ≡ true → is_bare s ≡ true
unfolding shape_right
bare_of s i h = or-none (is_bare s) (rw (eq-eqb (byte s 1) 0xCA i) at h)

parameters-of : (i p1 p2 : ℕ) → i ≡ 0xCA → parameters_right i p1 p2 ≡ true → (eqb p1 0xFF && eqb p2 0x21) ≡ true
unfolding parameters_right
parameters-of i p1 p2 e h = rw e at h

five-bytes : (s : List ℕ) → length s ≡ 5 → s ≡ byte s 0 ∷ byte s 1 ∷ byte s 2 ∷ byte s 3 ∷ byte s 4 ∷ []
five-bytes [] h = absurd (omega arith)
five-bytes (a ∷ []) h = absurd (omega arith)
five-bytes (a ∷ b ∷ []) h = absurd (omega arith)
five-bytes (a ∷ b ∷ c ∷ []) h = absurd (omega arith)
five-bytes (a ∷ b ∷ c ∷ d ∷ []) h = absurd (omega arith)
five-bytes (a ∷ b ∷ c ∷ d ∷ e ∷ []) h = refl
five-bytes (a ∷ b ∷ c ∷ d ∷ e ∷ f ∷ s) h = absurd (omega arith)

bare-written : (s : List ℕ) (capacity : ℕ) → Passes s capacity → byte s 1 ≡ 0xCA → Bare s
bare-written s capacity p i =
    let bare = bare_of s i (shape-right s p) in
    let l = eqb-true (length s) 5 (and_parts (eqb (length s) 5) _ bare).0 in
    let z = eqb-true (byte s 4) 0 (and_parts (eqb (length s) 5) _ bare).1 in
    let m = parameters-of (byte s 1) (byte s 2) (byte s 3) i (parameters-right s p) in
    let x = eqb-true (byte s 2) 0xFF (and_parts (eqb (byte s 2) 0xFF) _ m).0 in
    let y = eqb-true (byte s 3) 0x21 (and_parts (eqb (byte s 2) 0xFF) _ m).1 in
    let e = five-bytes s l in
    record { class = byte s 0; right_class = class-right s p; written = cc }

second-of : (i p1 p2 : ℕ) (next : Bool) → i ≡ 0xF2 → parameters_right i p1 p2 ≡ true → next ≡ eqb p2 0x03 → p2 ≡ second_of next
unfolding parameters_right
second-of i p1 p2 true e h q = eqb-true p2 0x03 (sym q)
second-of i p1 p2 false e h q =
    let m : (eqb p1 0x40 && (eqb p2 0x02 || eqb p2 0x03)) ≡ true = or-none _ (rw e at h) in
    eqb-true p2 0x02 (or-none (eqb p2 0x02) (rw (← q) at (and_parts (eqb p1 0x40) _ m).1))

listing-framed : (s : List ℕ) (capacity : ℕ) → Passes s capacity → Bytes s → byte s 1 ≡ 0xF2 → (v : Inquiry) → EncodesNext (goes_on s) v (window s 5 (data_end s)) → Listing v s
listing-framed s capacity p b i v e =
    let f = passes-framed s p 0xF2 (EncodesListed v) b i (omega arith) e.1 in
    record { command = f.0; second = f.1 ∙ second-of (byte s 1) (byte s 2) (byte s 3) v.next i (parameters-right s p) e.0 }

pub command-written : CommandWritten
unfolding field_of
command-written s capacity v b q =
    let r = read_as_lem s (read_of s capacity) v q in
    let p = read-passes s capacity r.0 r.1.0 in
    let f : found_as s (field_of s capacity) ≡ some v = ap (found_as s) (sym (read_done s capacity r.0 r.1.0).1) ∙ r.1.1 in
    let P : Field → Type 0 = λ z. found_as s z ≡ some v → Encodes capacity v s in
    each-eq P
    (λ i h. let u = install-written s 5 (data_end s) capacity v b h in
    subst (λ (w : Wanted). Encodes capacity w s) u.meant (passes-framed s p 0xE6 _ b i (omega arith) u.encoded).0)
    (λ x. each-eq P
    (λ i h. let u = deletion-written s 5 (data_end s) v b h in
    subst (λ (w : Wanted). Encodes capacity w s) u.meant (passes-framed s p 0xE4 _ b i (omega arith) u.encoded).0)
    (λ y. each-eq P
    (λ i h. let u = store-data-written s 5 (data_end s) v b h in
    subst (λ (w : Wanted). Encodes capacity w s) u.meant (passes-framed s p 0xE2 _ b i (omega arith) u.encoded).0)
    (λ z. each-eq P
    (λ i h. let u = listing-written (goes_on s) s 5 (data_end s) v b h in
    subst (λ (w : Wanted). Encodes capacity w s) u.meant (listing-framed s capacity p b i u.value u.encoded))
    (λ w h. let g : get_data ≡ v = cc in
    subst (λ (w : Wanted). Encodes capacity w s) g (bare-written s capacity p (instruction-last s capacity p x y z w)))))) f
