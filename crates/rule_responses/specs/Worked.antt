-- Document 01, 'Responses': responses worked by hand from the tables of 000. EID and figures that the bytes do not show are any.
use Rattle.std.specs.Prelude.{ℕ, zero, suc, ◌-◌, ◌≡◌, List, [], ◌∷◌, ◌++◌, Bool, true, false, cond, length, replicate, eqb}
use Rattle.card_isdp.specs.Sizes.{most_places}
use Rattle.card_isdp.specs.Aids.{named, no_aid}
use Rattle.card_isdp.specs.LifeCycle.{selectable, personalized, disabled, enabled}
use Rattle.card_isdp.specs.Place.{vacant, made}
use Rattle.card_record.specs.Cards.{no_place, with_places}
use Rattle.card_record.specs.Fresh.{fresh_card}
use Rattle.card_record.specs.declared.Card.{Card}
use Rattle.rule_responses.specs.Responses.{part_given, next_row_after, one_status, data_response, deleted_response}

abbrev pub aid_ending : ℕ → List ℕ
aid_ending n = 0xA0 ∷ 0x00 ∷ 0x00 ∷ 0x00 ∷ n ∷ []

-- a card of one profile, and one with a free place between two held ones
abbrev pub one : List ℕ → ℕ → Card
one eid figure = fresh_card eid (aid_ending 1) figure figure figure figure

abbrev pub gap : List ℕ → ℕ → Card
gap eid figure =
    with_places (one eid figure)
    (made (aid_ending 1) enabled figure figure ∷ vacant ∷ made (aid_ending 2) disabled figure figure ∷ [])

-- one with two profiles whose downloads are not finished
abbrev pub loading_rows : List ℕ → ℕ → Card
loading_rows eid figure =
    with_places (one eid figure)
    (made (aid_ending 1) selectable figure figure ∷ made (aid_ending 2) personalized figure figure ∷ [])

-- a card of so many profiles with an AID of this length, and one that is full
abbrev pub crowd : List ℕ → ℕ → List ℕ → ℕ → Card
crowd eid figure aid n = with_places (one eid figure) (replicate n (made aid disabled figure figure) ++ replicate (most_places - n) vacant)

abbrev pub full : List ℕ → ℕ → List ℕ → Card
full eid figure aid = crowd eid figure aid most_places

-- how long each part of a listing is, from a place on: as many as there are, of at most so many
unfoldable pub lengths_from : ℕ → Card → ℕ → Bool → Bool → List ℕ
lengths_from zero c from life fallback = []
lengths_from (suc k) c from life fallback =
    cond (eqb from no_place) []
    (length (part_given c from life fallback) ∷ lengths_from k c (next_row_after c from life fallback) life fallback)

abbrev pub parts_of : Card → Bool → Bool → List ℕ
parts_of c life fallback = lengths_from most_places c 0 life fallback

pub record Worked (eid : List ℕ) (figure : ℕ) : Type 0 where
  -- example 1: "80 F2 40 02 02 4F 00 00 gives E3 0E 4F 05 A0 00 00 00 01 9F 70 01 3F 53 01 01"
  pub example-1 : part_given (one eid figure) 0 true true ≡ 0xE3 ∷ 0x0E ∷ 0x4F ∷ 0x05 ∷ 0xA0 ∷ 0x00 ∷ 0x00 ∷ 0x00 ∷ 0x01 ∷ 0x9F ∷ 0x70 ∷ 0x01 ∷ 0x3F ∷ 0x53 ∷ 0x01 ∷ 0x01 ∷ []
  pub none_left : next_row_after (one eid figure) 0 true true ≡ no_place
  -- an empty 5C leaves the AID only
  pub aid-only : part_given (one eid figure) 0 false false ≡ 0xE3 ∷ 0x07 ∷ 0x4F ∷ 0x05 ∷ 0xA0 ∷ 0x00 ∷ 0x00 ∷ 0x00 ∷ 0x01 ∷ []
  -- a free place has no row, and the profile that is not the fall-back has 53 00
  pub two-rows : part_given (gap eid figure) 0 false true ≡ 0xE3 ∷ 0x0A ∷ 0x4F ∷ 0x05 ∷ 0xA0 ∷ 0x00 ∷ 0x00 ∷ 0x00 ∷ 0x01 ∷ 0x53 ∷ 0x01 ∷ 0x01 ∷ 0xE3 ∷ 0x0A ∷ 0x4F ∷ 0x05 ∷ 0xA0 ∷ 0x00 ∷ 0x00 ∷ 0x00 ∷ 0x02 ∷ 0x53 ∷ 0x01 ∷ 0x00 ∷ []
  pub named-row : one_status (gap eid figure) 2 true true ≡ 0xE3 ∷ 0x0E ∷ 0x4F ∷ 0x05 ∷ 0xA0 ∷ 0x00 ∷ 0x00 ∷ 0x00 ∷ 0x02 ∷ 0x9F ∷ 0x70 ∷ 0x01 ∷ 0x1F ∷ 0x53 ∷ 0x01 ∷ 0x00 ∷ []
  -- SELECTABLE is 07 and PERSONALIZED 0F (000, Table 1)
  pub not-finished : part_given (loading_rows eid figure) 0 true false ≡ 0xE3 ∷ 0x0B ∷ 0x4F ∷ 0x05 ∷ 0xA0 ∷ 0x00 ∷ 0x00 ∷ 0x00 ∷ 0x01 ∷ 0x9F ∷ 0x70 ∷ 0x01 ∷ 0x07 ∷ 0xE3 ∷ 0x0B ∷ 0x4F ∷ 0x05 ∷ 0xA0 ∷ 0x00 ∷ 0x00 ∷ 0x00 ∷ 0x02 ∷ 0x9F ∷ 0x70 ∷ 0x01 ∷ 0x0F ∷ []
  -- capacity 1,048,576 and quota 66,051 leave 0E FD FD; the volatile figure is 0A 0B 0C 0D
  pub data-figures : data_response (fresh_card eid (aid_ending 1) 1048576 66051 figure 168496141) ≡ 0xFF ∷ 0x21 ∷ 0x0F ∷ 0x81 ∷ 0x01 ∷ 0x01 ∷ 0x82 ∷ 0x04 ∷ 0x00 ∷ 0x0E ∷ 0xFD ∷ 0xFD ∷ 0x83 ∷ 0x04 ∷ 0x0A ∷ 0x0B ∷ 0x0C ∷ 0x0D ∷ []
  -- request 2026-05, a full card: AIDs of five bytes, 15 + 15 + 2 rows of 16; of sixteen bytes, 9 + 9 + 9 + 5 rows of 27; an empty 5C, 28 + 4
  -- rows of 9. Fifteen profiles just fit, sixteen do not
  pub five-bytes : parts_of (full eid figure (aid_ending 1)) true true ≡ 240 ∷ 240 ∷ 32 ∷ []
  pub sixteen-bytes : parts_of (full eid figure (replicate 16 0xA0)) true true ≡ 243 ∷ 243 ∷ 243 ∷ 135 ∷ []
  pub aids-only : parts_of (full eid figure (aid_ending 1)) false false ≡ 252 ∷ 36 ∷ []
  pub just-fits : parts_of (crowd eid figure (aid_ending 1) 15) true true ≡ 240 ∷ []
  pub one-too-many : parts_of (crowd eid figure (aid_ending 1) 16) true true ≡ 240 ∷ 16 ∷ []
  pub nothing-deleted : deleted_response no_aid ≡ []
  -- the true length, though Table 63 prints 16
  pub one-deleted : deleted_response (named (aid_ending 2)) ≡ 0x80 ∷ 0x07 ∷ 0x4F ∷ 0x05 ∷ 0xA0 ∷ 0x00 ∷ 0x00 ∷ 0x00 ∷ 0x02 ∷ []
