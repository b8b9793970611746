-- What the contents of a file say where they are not wrong (docs/EVENTS.md, 'The file'): the bodies lie end to end, from the end of
-- the contents to the end of the file. And that nothing else is called wrong. The proofs: proofs/Laid.antt.
use Rattle.std.specs.Prelude.{ℕ, ◌≤◌, ◌<◌, ◌≡◌, List, Bool, true, false, ◌&&◌, length, leb, ltb}
use Rattle.month_contents.specs.Below.{count_below}
use Rattle.month_contents.specs.Contents.{is_known, sections, kind_at, start_at, stop_at, contents_end, contents_wrong}

-- the place p of the file lies in the body of section i
abbrev pub holds : List ℕ → ℕ → ℕ → Bool
holds s p i = leb (start_at s i) p && ltb p (stop_at s i)

pub record Laid (s : List ℕ) : Type 0 where
  -- the file has 4 to 65,536 bytes, and holds its contents
  pub least : 4 ≤ length s
  pub most : length s ≤ 65536
  pub fits : contents_end s ≤ length s
  -- each kind that is listed is known, and listed once
  pub known : (i : ℕ) → i < sections s → is_known (kind_at s i) ≡ true
  pub once : (i j : ℕ) → i < sections s → j < sections s → kind_at s i ≡ kind_at s j → i ≡ j
  -- no body has a place elsewhere
  pub after-contents : (i : ℕ) → i < sections s → contents_end s ≤ start_at s i
  pub inside : (i : ℕ) → i < sections s → stop_at s i ≤ length s
  -- every place from the end of the contents to the end of the file lies in exactly one body
  pub filled : (p : ℕ) → contents_end s ≤ p → p < length s → count_below (sections s) (holds s p) ≡ 1
  -- of two sections that begin at different places the later begins where the other has ended: an empty one lies within no body
  pub in-turn : (i j : ℕ) → i < sections s → j < sections s → start_at s i < start_at s j → stop_at s i ≤ start_at s j

abbrev pub EndToEnd : Type 0
EndToEnd = (s : List ℕ) → contents_wrong s ≡ false → Laid s

abbrev pub NothingElseWrong : Type 0
NothingElseWrong = (s : List ℕ) → Laid s → contents_wrong s ≡ false
