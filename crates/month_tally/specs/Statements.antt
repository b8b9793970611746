-- docs/EVENTS.md, 'The report': which AIDs have a line, said of any AIDs that are enabled one after the other. The number of lines and the order
-- stand here in words of their own: the AIDs that differ, taken off a list from its front.
use Rattle.std.specs.Prelude.{◌≡◌, ℕ, zero, suc, ◌<◌, min, List, [], ◌∷◌, true, false, cond, length, take, ltb}
use Rattle.card_isdp.specs.Aids.{named, bytes_of}
use Rattle.card_isdp.specs.declared.Aid.{Aid}
use Rattle.month_tally.specs.Lines.{same_aid, seek_aid, aids_in, line_of, no_names, noted}
use Rattle.month_tally.specs.declared.Names.{Names}

-- the names after these AIDs were enabled, one after the other
unfoldable pub noted_all : Names → List Aid → Names
noted_all n [] = n
noted_all n (a ∷ aids) = noted_all (noted n a) aids

-- the AIDs of a list that are not the same as this one
unfoldable pub others : Aid → List Aid → List Aid
others a [] = []
others a (x ∷ xs) = cond (same_aid a x) (others a xs) (x ∷ others a xs)

-- the different AIDs of a list, in the order in which each comes first
unfoldable pub firsts : List Aid → List Aid
firsts [] = []
firsts (a ∷ aids) = a ∷ others a (firsts aids)

abbrev pub lines_after : List Aid → Names
lines_after enabled = noted_all no_names enabled

-- "Two AIDs are the same if they have the same length and the same bytes."
abbrev pub SameAids : Type 0
SameAids = (a b : Aid) → (same_aid a b ≡ true → bytes_of a ≡ bytes_of b) × (bytes_of a ≡ bytes_of b → same_aid a b ≡ true)

-- "There is one line for each of the first 64 different AIDs ever enabled, in the order in which each was first enabled"
abbrev pub FirstSixtyFour : Type 0
FirstSixtyFour = (enabled : List Aid) → aids_in (lines_after enabled) ≡ take 64 (firsts enabled)

-- "All AIDs from the 65th on share the line `rest`, which is printed only where there is a 65th."
abbrev pub RestFromSixtyFifth : Type 0
RestFromSixtyFifth = (enabled : List Aid) → (lines_after enabled).more ≡ ltb 64 (length (firsts enabled))

abbrev pub LineOfEach : Type 0
LineOfEach =
    (enabled : List Aid) (a : Aid)
    → seek_aid a (firsts enabled) < length (firsts enabled)
    → line_of (lines_after enabled) a ≡ min 64 (seek_aid a (firsts enabled))

pub record LinesInOrder : Type 0 where
  pub same-aids : SameAids
  pub first-64 : FirstSixtyFour
  pub rest-from-65 : RestFromSixtyFifth
  pub line-of-each : LineOfEach

-- by computing, of AIDs that differ in the last byte, and of one that differs by a zero at its end
abbrev pub tally_aid : ℕ → Aid
tally_aid n = named (0xA0 ∷ 0x00 ∷ 0x00 ∷ 0x00 ∷ n ∷ [])

abbrev pub longer_aid : Aid
longer_aid = named (0xA0 ∷ 0x00 ∷ 0x00 ∷ 0x00 ∷ 0x01 ∷ 0x00 ∷ [])

-- as many, each with another ending
unfoldable pub many_aids : ℕ → List Aid
many_aids zero = []
many_aids (suc n) = tally_aid n ∷ many_aids n

pub record LinesShown : Type 0 where
  pub few : aids_in (lines_after (tally_aid 1 ∷ tally_aid 2 ∷ tally_aid 1 ∷ longer_aid ∷ tally_aid 2 ∷ [])) ≡ tally_aid 1 ∷ tally_aid 2 ∷ longer_aid ∷ []
  pub all-have-lines : ((lines_after (many_aids 64)).count ≡ 64) × ((lines_after (many_aids 64)).more ≡ false)
  pub one-too-many : ((lines_after (many_aids 65)).count ≡ 64) × (((lines_after (many_aids 65)).more ≡ true) × (line_of (lines_after (many_aids 65)) (tally_aid 0) ≡ 64))
