-- Document 01, 'Reading a command', TLV: a tag, a length, an element, in the window of the bytes from `at` up to `end`.
-- A window that does not lie in the bytes, `at` past `end` or `end` past their number, is wrong.
use Rattle.std.specs.Prelude.{ℕ, ◌+◌, ◌-◌, ◌/◌, ◌%◌, List, Bool, Option, Some, None, length, eqb}
use Rattle.base_bytes.specs.Bytes.{byte, pair_at}
use Rattle.base_choice.specs.Choice.{pick, at_most, is_below, is_same}
use Rattle.read_tlv.specs.declared.Tag.{Tag}
use Rattle.read_tlv.specs.declared.Length.{Length}
use Rattle.read_tlv.specs.declared.Head.{Head}
use Rattle.read_tlv.specs.declared.Element.{Element}

-- what is read, where something is
abbrev pub tag_read : ℕ → Bool → ℕ → Option Tag
tag_read t constructed next = Some (record { tag = t; constructed = constructed; next = next })

abbrev pub length_read : ℕ → ℕ → Option Length
length_read count next = Some (record { count = count; next = next })

abbrev pub head_read : ℕ → Bool → ℕ → ℕ → Option Head
head_read t constructed start stop = Some (record { tag = t; constructed = constructed; start = start; stop = stop })

abbrev pub element_read : ℕ → ℕ → Option Element
element_read start stop = Some (record { start = start; stop = stop })

-- "bit 20 (hex) of the first byte marks a constructed tag"
abbrev pub is_constructed : ℕ → Bool
is_constructed first = eqb (first / 32 % 2) 1

-- "one byte, or two when the low five bits of the first are all ones; the second byte is then below 80" (decision 22)
unfoldable pub tag_at : List ℕ → ℕ → ℕ → Option Tag
tag_at s at end =
    pick (is_below (length s) end) None
    (pick (at_most end at) None
    (pick (is_same (byte s at % 32) 31)
    (pick (at_most end (at + 1)) None
    (pick (at_most 0x80 (byte s (at + 1))) None
    (tag_read (pair_at s at) (is_constructed (byte s at)) (at + 1 + 1))))
    (tag_read (byte s at) (is_constructed (byte s at)) (at + 1))))

-- "length is 00-7F, or 81 with 80-FF; other forms are wrong" (decision 23)
unfoldable pub length_at : List ℕ → ℕ → ℕ → Option Length
length_at s at end =
    pick (is_below (length s) end) None
    (pick (at_most end at) None
    (pick (is_below (byte s at) 0x80) (length_read (byte s at) (at + 1))
    (pick (is_same (byte s at) 0x81)
    (pick (at_most end (at + 1)) None
    (pick (is_below (byte s (at + 1)) 0x80) None
    (length_read (byte s (at + 1)) (at + 1 + 1))))
    None)))

-- a value of `count` bytes after its length, where the window has so many
unfoldable pub after_length : ℕ → ℕ → Bool → Option Length → Option Head
after_length end t constructed None = None
after_length end t constructed (Some length) =
    pick (at_most (length.next + length.count) end) (head_read t constructed length.next (length.next + length.count)) None

unfoldable pub after_tag : List ℕ → ℕ → Option Tag → Option Head
unfolding after_length
after_tag s end None = None
after_tag s end (Some tag) = after_length end tag.tag tag.constructed (length_at s tag.next end)

-- a tag, a length, and where the value of that length starts and stops
unfoldable pub head_at : List ℕ → ℕ → ℕ → Option Head
unfolding after_tag
head_at s at end = after_tag s end (tag_at s at end)

-- the element, where it bears the tag and its value has `low` to `high` bytes
unfoldable pub expect_of : ℕ → ℕ → ℕ → Option Head → Option Element
expect_of expected low high None = None
expect_of expected low high (Some head) =
    pick (is_same head.tag expected)
    (pick (is_below (head.stop - head.start) low) None
    (pick (is_below high (head.stop - head.start)) None
    (element_read head.start head.stop)))
    None

-- the next element is the one that the table has there
unfoldable pub expect_at : List ℕ → ℕ → ℕ → ℕ → ℕ → ℕ → Option Element
unfolding expect_of
expect_at s at end expected low high = expect_of expected low high (head_at s at end)

-- an element found and what comes of it, or `w` where there is none
abbrev pub on_found {ℓ} : {X : Type ℓ} → Option Element → X → (ℕ → ℕ → X) → X
on_found None w f = w
on_found (Some element) w f = f element.start element.stop
