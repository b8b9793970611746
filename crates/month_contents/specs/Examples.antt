-- Small files, and whether their contents are wrong: a file for each sentence of docs/EVENTS.md, 'The file' and `contents wrong`.
-- Where the contents list two sections the bodies begin at 28. The proof is by computing: proofs/Examples.antt.
use Rattle.std.specs.Prelude.{ℕ, ◌≡◌, List, [], ◌∷◌, ◌++◌, true, false, Some, None}
use Rattle.base_bytes.specs.Bytes.{four_bytes}
use Rattle.month_contents.specs.Contents.{contents_wrong, section_of}
use Rattle.month_contents.specs.Statements.{Laid}
use Rattle.month_contents.specs.Written.{entry, two_sections}

abbrev pub three : List ℕ
three = 0xA1 ∷ 0xA2 ∷ 0xA3 ∷ []

pub record ContentsExamples : Type 0 where
  -- "The sections may be listed in any order, and their bodies may lie in any order"
  pub in_order : contents_wrong (two_sections (entry 1 28 2) (entry 2 30 1) three) ≡ false
  pub listed-in-turn : contents_wrong (two_sections (entry 2 30 1) (entry 1 28 2) three) ≡ false
  pub laid-in-turn : contents_wrong (two_sections (entry 1 29 2) (entry 2 28 1) three) ≡ false
  -- "A section of length 0 is legal where it fits"
  pub empty-first : contents_wrong (two_sections (entry 1 28 0) (entry 2 28 3) three) ≡ false
  pub empty-last : contents_wrong (two_sections (entry 1 31 0) (entry 2 28 3) three) ≡ false
  pub both-empty : contents_wrong (two_sections (entry 1 28 0) (entry 2 28 0) []) ≡ false
  pub empty-within : contents_wrong (two_sections (entry 1 29 0) (entry 2 28 3) three) ≡ true
  pub empty-past-the-end : contents_wrong (two_sections (entry 1 32 0) (entry 2 28 3) three) ≡ true
  -- one section, or none
  pub one : contents_wrong (four_bytes 1 ++ entry 2 16 3 ++ three) ≡ false
  pub none : contents_wrong (four_bytes 0) ≡ false
  -- "there is a gap, or bytes are left over"
  pub gap : contents_wrong (two_sections (entry 1 28 1) (entry 2 30 1) three) ≡ true
  pub gap-first : contents_wrong (two_sections (entry 1 29 1) (entry 2 30 1) three) ≡ true
  pub left_over : contents_wrong (two_sections (entry 1 28 1) (entry 2 29 1) three) ≡ true
  -- "two sections overlap": also where their lengths add up to what there is
  pub overlapping : contents_wrong (two_sections (entry 1 28 2) (entry 2 29 2) three) ≡ true
  pub overlapping-and-gap : contents_wrong (two_sections (entry 1 28 2) (entry 2 28 1) three) ≡ true
  -- "A start plus a length .. does not wrap": 4,294,967,280 + 47 is 31 in 32 bits
  pub wrapping : contents_wrong (two_sections (entry 1 28 3) (entry 2 4294967280 47) three) ≡ true
  pub wrapping-empty : contents_wrong (two_sections (entry 1 28 3) (entry 2 4294967295 0) three) ≡ true
  -- "a section begins before the end of the contents or runs past the end of the file"
  pub in-the-contents : contents_wrong (two_sections (entry 1 27 1) (entry 2 28 3) three) ≡ true
  pub past_the_end : contents_wrong (two_sections (entry 1 28 1) (entry 2 29 3) three) ≡ true
  -- "a section's kind is not known, or is listed twice"
  pub twice : contents_wrong (two_sections (entry 1 28 2) (entry 1 30 1) three) ≡ true
  pub kind_0 : contents_wrong (two_sections (entry 0 28 2) (entry 2 30 1) three) ≡ true
  pub kind_3 : contents_wrong (two_sections (entry 1 28 2) (entry 3 30 1) three) ≡ true
  -- "under 4; the contents pass the end of the file"
  pub three-bytes : contents_wrong (0 ∷ 0 ∷ 0 ∷ []) ≡ true
  pub cut : contents_wrong (four_bytes 2 ++ entry 1 28 0) ≡ true
  pub most-sections : contents_wrong (four_bytes 4294967295) ≡ true
  -- where a section lies
  pub found : section_of (two_sections (entry 2 30 1) (entry 1 28 2) three) 1 ≡ Some (record { start = 28; len = 2 })
  pub found_first : section_of (two_sections (entry 2 30 1) (entry 1 28 2) three) 2 ≡ Some (record { start = 30; len = 1 })
  pub missing : section_of (four_bytes 1 ++ entry 2 16 3 ++ three) 1 ≡ None

-- some file is laid as the statements have it
abbrev pub LaidMet : Type 0
LaidMet = Laid (two_sections (entry 1 28 2) (entry 2 30 1) three)
