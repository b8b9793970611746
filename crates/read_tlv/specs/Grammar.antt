-- Document 01, 'Reading a command', TLV: reading and writing agree. An encoded element is read back, whatever is read is so encoded, and a
-- list is read well exactly where its elements fill it, at most four levels deep.
use Rattle.std.specs.Prelude.{ℕ, ◌+◌, ◌/◌, ◌%◌, ◌≤◌, ◌<◌, ◌≡◌, List, ◌++◌, Bool, true, false, cond, length, ltb}
use Rattle.read_tlv.specs.Tlv.{is_constructed, head_read, element_read, head_at, expect_at}
use Rattle.read_tlv.specs.Lists.{list_at, list_wrong}
use Rattle.read_tlv.specs.Filled.{Filled}
use Rattle.read_tlv.specs.Encoding.{window, Bytes, encode_element}

-- the numbers that are tags: of one byte, or of two with the low five bits of the first all ones and the second below 80
pub data LegalTag : ℕ → Type 0 where
  one : {t : ℕ} → t < 256 → (t % 32 ≡ 31 → ⊥) → LegalTag t
  two : {t : ℕ} → 256 ≤ t → t / 256 % 32 ≡ 31 → t % 256 < 0x80 → LegalTag t

-- a tag whose first byte marks a list
abbrev pub marks_list : ℕ → Bool
marks_list t = is_constructed (cond (ltb t 256) t (t / 256))

-- an element of tag t with the value v stands first in the window, and `rest` follows
pub record ElementBack (s : List ℕ) (at end t low high : ℕ) (v rest : List ℕ) : Type 0 where
  pub start : ℕ
  pub stop : ℕ
  pub head : head_read t (marks_list t) start stop ≡ head_at s at end
  pub found : element_read start stop ≡ expect_at s at end t low high
  pub long : stop ≡ start + length v
  pub within : stop ≤ end
  pub value : window s start stop ≡ v
  pub after : window s stop end ≡ rest

-- reading an encoded element gives it back
abbrev pub ElementReadBack : Type 0
ElementReadBack = (s : List ℕ) (at end : ℕ) → at ≤ end → end ≤ length s → (t low high : ℕ) (v rest : List ℕ)
    → LegalTag t → low ≤ length v → length v ≤ high → window s at end ≡ encode_element t v ++ rest → ElementBack s at end t low high v rest

-- whatever is read is the encoding of an element
abbrev pub ElementWritten : Type 0
ElementWritten = (s : List ℕ) (at end t low high start stop : ℕ) → Bytes s → element_read start stop ≡ expect_at s at end t low high
    → window s at stop ≡ encode_element t (window s start stop)

-- a list that is read well is filled by its elements, and a filled one is read well
abbrev pub ListFilled : Type 0
ListFilled = (s : List ℕ) (at end level : ℕ) → true ≡ list_at s at end level → Filled s level at end

abbrev pub FilledList : Type 0
FilledList = (s : List ℕ) (at end level : ℕ) → Filled s level at end → true ≡ list_at s at end level

-- the same of the test that the data fields ask
abbrev pub RightFilled : Type 0
RightFilled = (s : List ℕ) (at end : ℕ) → list_wrong s at end ≡ false → Filled s 1 at end
