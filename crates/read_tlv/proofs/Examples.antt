-- Worked byte strings about the definitions, each by computing: four levels are good and five wrong, and the forms that are not lengths or tags.
use mathlib.Core.Path.{◌≡◌, refl}
use mathlib.Core.List.{[], ◌∷◌}
use mathlib.Core.Bool.{true, false}
use Rattle.std.specs.Prelude.{None}
use Rattle.base_choice.specs.Choice.{pick, at_most, is_below, is_same}
use Rattle.read_tlv.specs.Tlv.{tag_read, length_read, element_read, tag_at, length_at, head_at, after_tag, after_length, expect_at, expect_of}
use Rattle.read_tlv.specs.Lists.{list_at, list_within, list_of, element_of, rest_after, element_closed}

four-levels : list_at (0x70 ∷ 6 ∷ 0x70 ∷ 4 ∷ 0x70 ∷ 2 ∷ 0x4F ∷ 0 ∷ []) 0 8 1 ≡ true
unfolding list_at list_within list_of element_of rest_after element_closed head_at after_tag after_length tag_at length_at pick at_most is_below is_same
four-levels = refl

five-levels : list_at (0x70 ∷ 8 ∷ 0x70 ∷ 6 ∷ 0x70 ∷ 4 ∷ 0x70 ∷ 2 ∷ 0x4F ∷ 0 ∷ []) 0 10 1 ≡ false
unfolding list_at list_within list_of element_of rest_after element_closed head_at after_tag after_length tag_at length_at pick at_most is_below is_same
five-levels = refl

-- the level that counts is the list's, so an empty list at level 5 is wrong too
empty-fifth : list_at (0x70 ∷ 6 ∷ 0x70 ∷ 4 ∷ 0x70 ∷ 2 ∷ 0x70 ∷ 0 ∷ []) 0 8 1 ≡ false
unfolding list_at list_within list_of element_of rest_after element_closed head_at after_tag after_length tag_at length_at pick at_most is_below is_same
empty-fifth = refl

stray-byte : list_at (0x4F ∷ 1 ∷ 0xAA ∷ 0x00 ∷ []) 0 4 1 ≡ false
unfolding list_at list_within list_of element_of rest_after element_closed head_at after_tag after_length tag_at length_at pick at_most is_below is_same
stray-byte = refl

two_bytes : tag_at (0x9F ∷ 0x70 ∷ []) 0 2 ≡ tag_read 0x9F70 false 2
unfolding tag_at pick at_most is_below is_same
two_bytes = refl

second-80 : tag_at (0x9F ∷ 0x80 ∷ []) 0 2 ≡ None
unfolding tag_at pick at_most is_below is_same
second-80 = refl

long-form : length_at (0x81 ∷ 0x80 ∷ []) 0 2 ≡ length_read 128 2
unfolding length_at pick at_most is_below is_same
long-form = refl

long-form-7F : length_at (0x81 ∷ 0x7F ∷ []) 0 2 ≡ None
unfolding length_at pick at_most is_below is_same
long-form-7F = refl

form-82 : length_at (0x82 ∷ 0x01 ∷ 0x00 ∷ []) 0 3 ≡ None
unfolding length_at pick at_most is_below is_same
form-82 = refl

aid-of-five : expect_at (0x4F ∷ 5 ∷ 0xA0 ∷ 0 ∷ 0 ∷ 0 ∷ 2 ∷ []) 0 7 0x4F 5 16 ≡ element_read 2 7
unfolding expect_at expect_of head_at after_tag after_length tag_at length_at pick at_most is_below is_same
aid-of-five = refl

aid-of-four : expect_at (0x4F ∷ 4 ∷ 0xA0 ∷ 0 ∷ 0 ∷ 0 ∷ []) 0 6 0x4F 5 16 ≡ None
unfolding expect_at expect_of head_at after_tag after_length tag_at length_at pick at_most is_below is_same
aid-of-four = refl

-- a window that does not lie in the bytes
past-the-bytes : expect_at (0x4F ∷ 0 ∷ []) 0 3 0x4F 0 16 ≡ None
unfolding expect_at expect_of head_at after_tag after_length tag_at length_at pick at_most is_below is_same
past-the-bytes = refl
