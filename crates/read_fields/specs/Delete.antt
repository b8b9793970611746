-- Document 01, 'Reading a command': "Delete: 4F. Master delete: 4F, B6 with 42, 45, 5F20, 93, then 9E (Table 33), each at least 1 byte";
-- the data field alone tells the two apart (000, Tables 20 and 33).
use Rattle.std.specs.Prelude.{ℕ, List, Bool, true, false, Some, None}
use Rattle.base_bytes.specs.Bytes.{between}
use Rattle.base_choice.specs.Choice.{pick, is_same}
use Rattle.read_tlv.specs.Tlv.{expect_at, on_found}
use Rattle.read_tlv.specs.Lists.{list_wrong}
use Rattle.read_elements.specs.Reader.{alone_at}
use Rattle.read_fields.specs.declared.request.Request.TheVariants as request
use Rattle.read_fields.specs.Found.{Field}

-- what B6 holds, in this order, each of at least one byte (decision 28)
unfoldable pub verification_at : List ℕ → ℕ → ℕ → Bool
verification_at s at end =
    on_found (expect_at s at end 0x42 1 255) false λ _ first.
    on_found (expect_at s first end 0x45 1 255) false λ _ second.
    on_found (expect_at s second end 0x5F20 1 255) false λ _ third.
    on_found (alone_at s third end 0x93 1 255) false λ _ _.
    true

abbrev pub on_filled {ℓ} : {X : Type ℓ} → Bool → X → X → X
on_filled false w x = w
on_filled true w x = x

-- the data field alone tells the two apart, and the verdict does not choose (decisions 28, 29)
unfoldable pub deletion_at : List ℕ → ℕ → ℕ → Field
deletion_at s at end =
    pick (list_wrong s at end) None
    (on_found (expect_at s at end 0x4F 5 16) None λ start stop.
    pick (is_same stop end) (Some (request.Delete (between start stop)))
    (on_found (expect_at s stop end 0xB6 0 255) None λ from to.
    on_filled (verification_at s from to) None
    (on_found (alone_at s to end 0x9E 1 255) None λ _ _.
    Some (request.MasterDelete (between start stop)))))
