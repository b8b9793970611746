-- Document 01, 'Reading a command': "GET STATUS: 4F of length 0 (all) or one AID (5 to 16 bytes), held exactly; then optionally 5C
-- listing any of 4F, 9F70, 53. Unknown listed tag: 6A 80. Repeats count once; an empty list is allowed." (000, Table 27) "Held exactly"
-- is asked of the card, by its rows. With no 5C both optional tags are shown.
use Rattle.std.specs.Prelude.{ℕ, zero, suc, ◌-◌, List, Bool, true, false, Option, Some, None}
use Rattle.base_bytes.specs.Bytes.{between}
use Rattle.base_choice.specs.Choice.{pick, at_most, is_below, is_same}
use Rattle.read_tlv.specs.Tlv.{tag_at, expect_at, on_found}
use Rattle.read_tlv.specs.declared.Tag.{Tag}
use Rattle.read_tlv.specs.Lists.{list_wrong}
use Rattle.read_elements.specs.Reader.{alone_at}
use Rattle.card_isdp.specs.declared.Tags.{Tags}
use Rattle.read_fields.specs.declared.request.Request.TheVariants as request
use Rattle.read_fields.specs.Found.{Field}

abbrev pub tags_shown : Bool → Bool → Tags
tags_shown life fall_back = record { life = life; fall_back = fall_back }

-- tags that were read
abbrev pub tags_read : Bool → Bool → Option Tags
tags_read life fall_back = Some (tags_shown life fall_back)

-- one more listed tag; "Repeats count once" (decision 30)
unfoldable pub tag_noted : ℕ → Bool → Bool → Option Tags
tag_noted t life fall_back =
    pick (is_same t 0x4F) (tags_read life fall_back)
    (pick (is_same t 0x9F70) (tags_read true fall_back)
    (pick (is_same t 0x53) (tags_read life true)
    None))

abbrev pub on_tag {ℓ} : {X : Type ℓ} → Option Tag → X → (ℕ → ℕ → X) → X
on_tag None w f = w
on_tag (Some tag) w f = f tag.tag tag.next

abbrev pub on_shown {ℓ} : {X : Type ℓ} → Option Tags → X → (Bool → Bool → X) → X
on_shown None w f = w
on_shown (Some tags) w f = f tags.life tags.fall_back

-- the tags listed from `at` up to `end`, after those seen so far; `n` counts down from the bytes left
unfoldable pub listed_within : ℕ → List ℕ → ℕ → ℕ → Bool → Bool → Option Tags
listed_within zero s at end life fall_back = tags_read life fall_back
listed_within (suc n) s at end life fall_back =
    pick (at_most end at) (tags_read life fall_back)
    (on_tag (tag_at s at end) None λ t next.
    on_shown (tag_noted t life fall_back) None λ l f.
    listed_within n s next end l f)

unfoldable pub listed_at : List ℕ → ℕ → ℕ → Option Tags
listed_at s at end = listed_within (end - at) s at end false false

-- "then optionally 5C": without it all three tags are shown, and an empty one is taken (decisions 7, 30)
unfoldable pub tags_at : List ℕ → ℕ → ℕ → Option Tags
tags_at s at end =
    pick (is_same at end) (tags_read true true)
    (on_found (alone_at s at end 0x5C 0 255) None λ start stop.
    listed_at s start stop)

-- all rows where 4F is empty, else the row of its AID; 02, request 2026-05: "P2 03 leaves the 6A 86 row;
-- with an AID named it is 6A 80" (decisions 29, B73)
abbrev pub rows_of : Bool → ℕ → ℕ → Bool → Bool → Field
rows_of next start stop life fall_back =
    pick (is_same (stop - start) 0) (Some (request.GetStatusOfAll next (tags_shown life fall_back)))
    (pick next None
    (pick (is_below (stop - start) 5) None
    (Some (request.GetStatusOfOne (between start stop) (tags_shown life fall_back)))))

-- `next`: with P2 03 the listing goes on from the kept place, with P2 02 it begins anew (decisions 7, B72)
unfoldable pub listing_at : Bool → List ℕ → ℕ → ℕ → Field
listing_at next s at end =
    pick (list_wrong s at end) None
    (on_found (expect_at s at end 0x4F 0 16) None λ start stop.
    on_shown (tags_at s stop end) None λ life fall_back.
    rows_of next start stop life fall_back)
