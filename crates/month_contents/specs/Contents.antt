-- docs/EVENTS.md, 'The file': "count (4 bytes), for each section: kind, start, length (4 bytes each), the bodies"; 'What is refused':
-- `contents wrong`. Entries are told by their number, from 0. Starts and stops are numbers that do not wrap.
use Rattle.std.specs.Prelude.{ℕ, ◌+◌, ◌*◌, List, Bool, not, cond, ◌||◌, length, leb, ltb, eqb, Option, Some, None}
use Rattle.base_bytes.specs.Bytes.{four_at}
use Rattle.base_bytes.specs.declared.Part.{Part}
use Rattle.month_contents.specs.Below.{some_below, first_below, sum_below}

-- "A file has at most 65,536 bytes." (decision B44)
abbrev pub most_file : ℕ
most_file = 65536

-- the section kinds
abbrev pub fresh_kind : ℕ
fresh_kind = 1

abbrev pub events_kind : ℕ
events_kind = 2

abbrev pub is_known : ℕ → Bool
is_known kind = eqb kind fresh_kind || eqb kind events_kind

-- the contents: a count, then twelve bytes for each section
abbrev pub sections : List ℕ → ℕ
sections s = four_at s 0

abbrev pub entry_at : ℕ → ℕ
entry_at i = 4 + i * 12

abbrev pub kind_at : List ℕ → ℕ → ℕ
kind_at s i = four_at s (entry_at i)

abbrev pub start_at : List ℕ → ℕ → ℕ
start_at s i = four_at s (entry_at i + 4)

abbrev pub body_length : List ℕ → ℕ → ℕ
body_length s i = four_at s (entry_at i + 8)

-- "A start plus a length .. does not wrap" (decision B43)
abbrev pub stop_at : List ℕ → ℕ → ℕ
stop_at s i = start_at s i + body_length s i

-- "from the end of the contents"
abbrev pub contents_end : List ℕ → ℕ
contents_end s = entry_at (sections s)

-- "is listed twice"
abbrev pub same_kind : List ℕ → ℕ → ℕ → Bool
same_kind s i j = eqb (kind_at s j) (kind_at s i)

-- "a section's kind is not known, or is listed twice"
abbrev pub kind_wrong : List ℕ → ℕ → Bool
kind_wrong s i = not (is_known (kind_at s i)) || some_below i (same_kind s i)

-- one of two bodies ends where the other begins, or before
abbrev pub apart : ℕ → ℕ → ℕ → ℕ → Bool
apart start stop begin end = leb end start || leb stop begin

-- "two sections overlap"
abbrev pub overlap : List ℕ → ℕ → ℕ → Bool
overlap s i j = not (apart (start_at s i) (stop_at s i) (start_at s j) (stop_at s j))

-- "a section begins before the end of the contents or runs past the end of the file", or overlaps one listed before it
abbrev pub body_wrong : List ℕ → ℕ → Bool
body_wrong s i =
    ltb (start_at s i) (contents_end s)
    || (ltb (length s) (stop_at s i)
    || some_below i (overlap s i))

-- "there is a gap, or bytes are left over": bodies that lie inside and do not overlap fill the file exactly where
-- their lengths do (decision B43)
abbrev pub not_filled : List ℕ → Bool
not_filled s = not (eqb (contents_end s + sum_below (sections s) (body_length s)) (length s))

-- sections may lie in any order; a file that is too long or too short is wrong here too (decisions B43, B44)
unfoldable pub contents_wrong : List ℕ → Bool
contents_wrong s =
    ltb most_file (length s)
    || (ltb (length s) 4
    || (ltb (length s) (contents_end s)
    || (some_below (sections s) (kind_wrong s)
    || (some_below (sections s) (body_wrong s)
    || not_filled s))))

-- the number of the first entry of a kind, and its body
abbrev pub of_kind : List ℕ → ℕ → ℕ → Bool
of_kind s kind i = eqb (kind_at s i) kind

abbrev pub section_place : List ℕ → ℕ → ℕ
section_place s kind = first_below (sections s) (of_kind s kind)

unfoldable pub section_of : List ℕ → ℕ → Option Part
section_of s kind =
    cond (ltb (section_place s kind) (sections s))
    (Some (record { start = start_at s (section_place s kind); len = body_length s (section_place s kind) }))
    None
