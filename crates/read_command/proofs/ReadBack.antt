-- An encoded command is read back. By the laws of framing it passes the rows before its data field, which stands from the sixth byte on, and
-- there the field's own theorem reads it back.
use Prim.Native.Nat.{ℕ, ◌≤◌}
use mathlib.Core.Path.{◌≡◌, refl, sym, ap, subst, ◌∙◌}
use mathlib.Core.List.{List, [], ◌∷◌}
use mathlib.Core.Option.{some}
use mathlib.Core.Bool.{Bool, true, false}
use native.Mathlib.Omega.{arith}
use lib.ListN.{length}
use lib.Dec.{eqb}
use Rattle.base_bytes.specs.Bytes.{byte}
use Rattle.read_tlv.specs.Encoding.{window}
use Rattle.read_fields.specs.GetStatus.{listing_at}
use Rattle.read_fields.specs.Grammar.{EncodesStored, EncodesDeleted, EncodesListed, Wanted, create, store_data, deletion, get_status, get_data, found_as}
use Rattle.read_fields.proofs.StoreDataGrammar.{store-data-back}
use Rattle.read_fields.proofs.DeletionGrammar.{deletion-back}
use Rattle.read_fields.proofs.ListingGrammar.{listing-back}
use Rattle.read_install.specs.Grammar.{EncodesCreated}
use Rattle.read_install.proofs.ReadBack.{install-back}
use Rattle.read_frame.specs.Framing.{length_wrong, class_wrong, instruction_wrong, parameters_right, parameters_wrong, shape_right, shape_wrong, data_end}
use Rattle.read_frame.specs.Frame.{Framed}
use Rattle.read_command.specs.Requests.{field_of, data_wrong}
use Rattle.read_command.specs.Reading.{read_of}
use Rattle.read_command.specs.Grammar.{read_as, Bare, second_of, CommandBack}
use Rattle.read_frame.proofs.Framed.{stands, stands-passes}
use Rattle.read_command.proofs.Answers.{Passes, passes-answer}
use Rattle.read_command.proofs.Fields.{accepted-as, right-as, field-create, field-deletion, field-store-data, field-listing, field-get-data}

passes-read : (s : List ℕ) (capacity : ℕ) (v : Wanted) → Passes s capacity → found_as s (field_of s capacity) ≡ some v → read_as s (read_of s capacity) ≡ some v
passes-read s capacity v p q = ap (read_as s) (sym (passes-answer s capacity p)) ∙ accepted-as s (field_of s capacity) ∙ q

-- a command with a data field, where the field's own theorem reads it back
framed-back : (s : List ℕ) (capacity : ℕ) (v : Wanted) (instruction : ℕ) (Encoded : List ℕ → Type 0) → (instruction ≡ 0xCA → ⊥)
    → (byte s 1 ≡ instruction → instruction_wrong s ≡ false)
    → (f : Framed instruction Encoded s)
    → (byte s 1 ≡ instruction → byte s 3 ≡ f.p2 → 5 ≤ data_end s → data_end s ≤ length s → Encoded (window s 5 (data_end s)) → found_as s (field_of s capacity) ≡ some v)
    → read_as s (read_of s capacity) ≡ some v
unfolding data_wrong
framed-back s capacity v instruction Encoded n known f reads =
    let t = stands s instruction Encoded n f in
    let q = reads t.instructed t.second t.ordered t.held t.encoded in
    passes-read s capacity v
    (stands-passes s instruction f.p2 Encoded (instruction_wrong s) (data_wrong s capacity) t (known t.instructed) (right-as s (field_of s capacity) v q)) q

bare-back : (s : List ℕ) (capacity : ℕ) → Bare s → read_as s (read_of s capacity) ≡ some get_data
unfolding length_wrong class_wrong instruction_wrong parameters_right parameters_wrong shape_right shape_wrong data_wrong
bare-back s capacity f =
    let t : List ℕ = f.class ∷ 0xCA ∷ 0xFF ∷ 0x21 ∷ 0x00 ∷ [] in
    let q : found_as t (field_of t capacity) ≡ some get_data = ap (found_as t) (sym (field-get-data t capacity refl)) in
    subst (λ (z : List ℕ). read_as z (read_of z capacity) ≡ some get_data) (sym f.written)
    (passes-read t capacity get_data record {
      length_right = refl;
      class_right = rw f.right_class refl;
      instruction_right = refl;
      parameters_right = refl;
      shape_right = refl;
      data_right = right-as t (field_of t capacity) get_data q;
    } q)

-- P2 tells whether the listing goes on
second-next : (next : Bool) (p2 : ℕ) → p2 ≡ second_of next → eqb p2 0x03 ≡ next
second-next false p2 e = rw e refl
second-next true p2 e = rw e refl

pub command-back : CommandBack
unfolding instruction_wrong
command-back s capacity (create u) f = framed-back s capacity (create u) 0xE6 (EncodesCreated capacity u) (omega arith) (λ i. rw i refl) f (λ i _ o l e.
    ap (found_as s) (sym (field-create s capacity i)) ∙ install-back s 5 (data_end s) capacity u o l e)
command-back s capacity (store_data u) f = framed-back s capacity (store_data u) 0xE2 (EncodesStored u) (omega arith) (λ i. rw i refl) f (λ i _ o l e.
    ap (found_as s) (sym (field-store-data s capacity i)) ∙ store-data-back s 5 (data_end s) u o l e)
command-back s capacity (deletion u) f = framed-back s capacity (deletion u) 0xE4 (EncodesDeleted u) (omega arith) (λ i. rw i refl) f (λ i _ o l e.
    ap (found_as s) (sym (field-deletion s capacity i)) ∙ deletion-back s 5 (data_end s) u o l e)
command-back s capacity (get_status u) f = framed-back s capacity (get_status u) 0xF2 (EncodesListed u) (omega arith) (λ i. rw i refl) f.command (λ i j o l e.
    ap (found_as s) (sym (field-listing s capacity i) ∙ ap (λ (n : Bool). listing_at n s 5 (data_end s)) (second-next u.next (byte s 3) (j ∙ f.second)))
    ∙ listing-back s 5 (data_end s) u o l e)
command-back s capacity get_data f = bare-back s capacity f
