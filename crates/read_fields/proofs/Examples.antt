-- Worked data fields about the definitions, each by computing: one of each kind, and the near misses of each.
use mathlib.Core.Path.{◌≡◌, refl}
use mathlib.Core.List.{[], ◌∷◌}
use mathlib.Core.Bool.{true, false}
use Rattle.std.specs.Prelude.{Some, None}
use Rattle.base_bytes.specs.Bytes.{between}
use Rattle.base_choice.specs.Choice.{pick, at_most, is_below, is_same}
use Rattle.read_tlv.specs.Lists.{list_wrong, list_at, list_within, list_of, element_of, rest_after, element_closed}
use Rattle.read_tlv.specs.Tlv.{tag_at, length_at, head_at, after_tag, after_length, expect_at, expect_of}
use Rattle.read_fields.specs.declared.request.Request.TheVariants as request
use Rattle.read_elements.specs.Reader.{alone_at}
use Rattle.read_fields.specs.StoreData.{dgi_at, confirmation_at, request_named, store_data_at}
use Rattle.read_fields.specs.Delete.{verification_at, deletion_at}
use Rattle.read_fields.specs.GetStatus.{tags_shown, tag_noted, listed_within, listed_at, tags_at, listing_at}

-- example 2's data field, in the command
set-fall-back : store_data_at (0x80 ∷ 0xE2 ∷ 0x88 ∷ 0x00 ∷ 0x0A ∷ 0x3A ∷ 0x05 ∷ 0x07 ∷ 0x4F ∷ 0x05 ∷ 0xA0 ∷ 0 ∷ 0 ∷ 0 ∷ 2 ∷ []) 5 15 ≡ Some (request.SetFallBack (between 10 15))
unfolding store_data_at list_wrong list_at list_within list_of element_of rest_after element_closed request_named confirmation_at dgi_at alone_at expect_at expect_of head_at after_tag after_length tag_at length_at pick at_most is_below is_same
set-fall-back = refl

-- example 4's: inner lengths 06 and 04
aid-of-four : store_data_at (0x3A ∷ 0x05 ∷ 0x06 ∷ 0x4F ∷ 0x04 ∷ 0xA0 ∷ 0 ∷ 0 ∷ 0 ∷ []) 0 9 ≡ None
unfolding store_data_at list_wrong list_at list_within list_of element_of rest_after element_closed request_named confirmation_at dgi_at alone_at expect_at expect_of head_at after_tag after_length tag_at length_at pick at_most is_below is_same
aid-of-four = refl

confirm-one : store_data_at (0x3A ∷ 0x08 ∷ 0x04 ∷ 0x4E ∷ 0x02 ∷ 0x00 ∷ 0x01 ∷ []) 0 7 ≡ Some (request.Confirm 1)
unfolding store_data_at list_wrong list_at list_within list_of element_of rest_after element_closed request_named confirmation_at dgi_at alone_at expect_at expect_of head_at after_tag after_length tag_at length_at pick at_most is_below is_same
confirm-one = refl

-- 3A06 is no DGI of the root domain
other-dgi : store_data_at (0x3A ∷ 0x06 ∷ 0x07 ∷ 0x4F ∷ 0x05 ∷ 0xA0 ∷ 0 ∷ 0 ∷ 0 ∷ 2 ∷ []) 0 10 ≡ None
unfolding store_data_at list_wrong list_at list_within list_of element_of rest_after element_closed request_named confirmation_at dgi_at alone_at expect_at expect_of head_at after_tag after_length tag_at length_at pick at_most is_below is_same
other-dgi = refl

delete-two : deletion_at (0x4F ∷ 0x05 ∷ 0xA0 ∷ 0 ∷ 0 ∷ 0 ∷ 2 ∷ []) 0 7 ≡ Some (request.Delete (between 2 7))
unfolding deletion_at list_wrong list_at list_within list_of element_of rest_after element_closed verification_at alone_at expect_at expect_of head_at after_tag after_length tag_at length_at pick at_most is_below is_same
delete-two = refl

master-delete-two : deletion_at (0x4F ∷ 0x05 ∷ 0xA0 ∷ 0 ∷ 0 ∷ 0 ∷ 2 ∷ 0xB6 ∷ 0x0D ∷ 0x42 ∷ 1 ∷ 1 ∷ 0x45 ∷ 1 ∷ 2 ∷ 0x5F ∷ 0x20 ∷ 1 ∷ 3 ∷ 0x93 ∷ 1 ∷ 4 ∷ 0x9E ∷ 1 ∷ 0x55 ∷ []) 0 25
    ≡ Some (request.MasterDelete (between 2 7))
unfolding deletion_at list_wrong list_at list_within list_of element_of rest_after element_closed verification_at alone_at expect_at expect_of head_at after_tag after_length tag_at length_at pick at_most is_below is_same
master-delete-two = refl

-- B6 and no token
no-token : deletion_at (0x4F ∷ 0x05 ∷ 0xA0 ∷ 0 ∷ 0 ∷ 0 ∷ 2 ∷ 0xB6 ∷ 0x0D ∷ 0x42 ∷ 1 ∷ 1 ∷ 0x45 ∷ 1 ∷ 2 ∷ 0x5F ∷ 0x20 ∷ 1 ∷ 3 ∷ 0x93 ∷ 1 ∷ 4 ∷ []) 0 22 ≡ None
unfolding deletion_at list_wrong list_at list_within list_of element_of rest_after element_closed verification_at alone_at expect_at expect_of head_at after_tag after_length tag_at length_at pick at_most is_below is_same
no-token = refl

-- example 1's data field
all-rows : listing_at false (0x4F ∷ 0x00 ∷ []) 0 2 ≡ Some (request.GetStatusOfAll false (tags_shown true true))
unfolding listing_at list_wrong list_at list_within list_of element_of rest_after element_closed tags_at listed_at listed_within tag_noted alone_at expect_at expect_of head_at after_tag after_length tag_at length_at pick at_most is_below is_same
all-rows = refl

empty-list : listing_at false (0x4F ∷ 0x00 ∷ 0x5C ∷ 0x00 ∷ []) 0 4 ≡ Some (request.GetStatusOfAll false (tags_shown false false))
unfolding listing_at list_wrong list_at list_within list_of element_of rest_after element_closed tags_at listed_at listed_within tag_noted alone_at expect_at expect_of head_at after_tag after_length tag_at length_at pick at_most is_below is_same
empty-list = refl

repeats-count-once : listing_at false (0x4F ∷ 0x00 ∷ 0x5C ∷ 0x05 ∷ 0x53 ∷ 0x9F ∷ 0x70 ∷ 0x4F ∷ 0x53 ∷ []) 0 9 ≡ Some (request.GetStatusOfAll false (tags_shown true true))
unfolding listing_at list_wrong list_at list_within list_of element_of rest_after element_closed tags_at listed_at listed_within tag_noted alone_at expect_at expect_of head_at after_tag after_length tag_at length_at pick at_most is_below is_same
repeats-count-once = refl

unknown-tag : listing_at false (0x4F ∷ 0x00 ∷ 0x5C ∷ 0x02 ∷ 0x9F ∷ 0x71 ∷ []) 0 6 ≡ None
unfolding listing_at list_wrong list_at list_within list_of element_of rest_after element_closed tags_at listed_at listed_within tag_noted alone_at expect_at expect_of head_at after_tag after_length tag_at length_at pick at_most is_below is_same
unknown-tag = refl

half-a-tag : listing_at false (0x4F ∷ 0x00 ∷ 0x5C ∷ 0x01 ∷ 0x9F ∷ []) 0 5 ≡ None
unfolding listing_at list_wrong list_at list_within list_of element_of rest_after element_closed tags_at listed_at listed_within tag_noted alone_at expect_at expect_of head_at after_tag after_length tag_at length_at pick at_most is_below is_same
half-a-tag = refl

aid-of-one : listing_at false (0x4F ∷ 0x01 ∷ 0xA0 ∷ []) 0 3 ≡ None
unfolding listing_at list_wrong list_at list_within list_of element_of rest_after element_closed tags_at listed_at listed_within tag_noted alone_at expect_at expect_of head_at after_tag after_length tag_at length_at pick at_most is_below is_same
aid-of-one = refl

one-row : listing_at false (0x4F ∷ 0x05 ∷ 0xA0 ∷ 0 ∷ 0 ∷ 0 ∷ 2 ∷ []) 0 7 ≡ Some (request.GetStatusOfOne (between 2 7) (tags_shown true true))
unfolding listing_at list_wrong list_at list_within list_of element_of rest_after element_closed tags_at listed_at listed_within tag_noted alone_at expect_at expect_of head_at after_tag after_length tag_at length_at pick at_most is_below is_same
one-row = refl

-- P2 03, with its own tags, and with an AID named
next-rows : listing_at true (0x4F ∷ 0x00 ∷ []) 0 2 ≡ Some (request.GetStatusOfAll true (tags_shown true true))
unfolding listing_at list_wrong list_at list_within list_of element_of rest_after element_closed tags_at listed_at listed_within tag_noted alone_at expect_at expect_of head_at after_tag after_length tag_at length_at pick at_most is_below is_same
next-rows = refl

next-tags : listing_at true (0x4F ∷ 0x00 ∷ 0x5C ∷ 0x01 ∷ 0x53 ∷ []) 0 5 ≡ Some (request.GetStatusOfAll true (tags_shown false true))
unfolding listing_at list_wrong list_at list_within list_of element_of rest_after element_closed tags_at listed_at listed_within tag_noted alone_at expect_at expect_of head_at after_tag after_length tag_at length_at pick at_most is_below is_same
next-tags = refl

next-of-one : listing_at true (0x4F ∷ 0x05 ∷ 0xA0 ∷ 0 ∷ 0 ∷ 0 ∷ 2 ∷ []) 0 7 ≡ None
unfolding listing_at list_wrong list_at list_within list_of element_of rest_after element_closed tags_at listed_at listed_within tag_noted alone_at expect_at expect_of head_at after_tag after_length tag_at length_at pick at_most is_below is_same
next-of-one = refl
