-- Document 01, 'Reading a command', 'Create': the install parameters. Which tags must or may stand is Table 10 of 000:
-- C9 with 81 of two bytes, n times; then EF with one 83 of 2 or 4 bytes, which must be present.
use Rattle.std.specs.Prelude.{ℕ, zero, suc, ◌-◌, List, Bool, true, false, Option, Some, None}
use Rattle.base_choice.specs.Choice.{pick, at_most, is_below, is_same}
use Rattle.base_bytes.specs.Bytes.{pair_at, four_at}
use Rattle.read_tlv.specs.Tlv.{expect_at, on_found}
use Rattle.read_tlv.specs.Lists.{list_wrong}
use Rattle.read_elements.specs.Reader.{alone_at}

-- elements 81 of two bytes that fill the window; n counts down, from the bytes left or more (decision 24)
unfoldable pub protocols_within : ℕ → List ℕ → ℕ → ℕ → Bool
protocols_within zero s at end = true
protocols_within (suc n) s at end =
    pick (at_most end at) true
    (on_found (expect_at s at end 0x81 2 2) false λ _ stop. protocols_within n s stop end)

unfoldable pub protocols_at : List ℕ → ℕ → ℕ → Bool
protocols_at s at end = protocols_within (end - at) s at end

abbrev pub on_listed : Bool → Option ℕ → Option ℕ
on_listed false q = None
on_listed true q = q

-- "2 or 4 bytes", high byte first
unfoldable pub number_at : List ℕ → ℕ → ℕ → ℕ
number_at s start count = pick (is_same count 2) (pair_at s start) (four_at s start)

-- "1 up to capacity" (decision 26)
unfoldable pub grant_of : ℕ → ℕ → Option ℕ
grant_of number capacity = pick (is_same number 0) None (pick (is_below capacity number) None (Some number))

-- the cumulative granted non-volatile memory, alone in its window (decisions 14, 25)
unfoldable pub memory_at : List ℕ → ℕ → ℕ → ℕ → Option ℕ
memory_at s at end capacity =
    on_found (alone_at s at end 0x83 2 4) None λ start stop.
    pick (is_same (stop - start) 3) None (grant_of (number_at s start (stop - start)) capacity)

-- a list of elements: C9, then EF, and nothing after (decisions 14, 24, 25)
unfoldable pub parameters_at : List ℕ → ℕ → ℕ → ℕ → Option ℕ
parameters_at s at end capacity =
    pick (list_wrong s at end) None
    (on_found (expect_at s at end 0xC9 1 255) None λ start stop.
    on_listed (protocols_at s start stop)
    (on_found (alone_at s stop end 0xEF 0 255) None λ from to.
    memory_at s from to capacity))
