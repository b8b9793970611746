-- Document 01, 'Responses' (000: Tables 28, 29, 63; ETSI TS 102 226 for GET DATA): the bytes of each response.
-- All is said over a list of places of any length, so that no count of places is written here.
use Rattle.std.specs.Prelude.{ℕ, suc, ◌+◌, ◌-◌, List, [], ◌∷◌, ◌++◌, Bool, cond, length, drop, leb, eqb}
use Rattle.base_bytes.specs.Bytes.{four_bytes}
use Rattle.card_isdp.specs.Aids.{bytes_of, aid_of}
use Rattle.card_isdp.specs.Place.{held}
use Rattle.card_isdp.specs.declared.Isdp.{Isdp}
use Rattle.card_isdp.specs.declared.Aid.{Aid}
use Rattle.card_places.specs.Places.{at, count_of}
use Rattle.card_record.specs.Cards.{no_place, free_in}
use Rattle.card_record.specs.declared.Card.{Card}

-- "4F": the AID, with its true length (decision 13)
abbrev pub aid_element : List ℕ → List ℕ
aid_element aid = 0x4F ∷ length aid ∷ aid

-- "9F70": the life cycle
abbrev pub life_element : ℕ → List ℕ
life_element life = 0x9F ∷ 0x70 ∷ 1 ∷ life ∷ []

-- "53 is 01 for the fall-back, else 00": the Fall-back Attribute of 000
abbrev pub attribute_element : ℕ → List ℕ
attribute_element attribute = 0x53 ∷ 1 ∷ attribute ∷ []

abbrev pub attribute_of : ℕ → ℕ → ℕ
attribute_of holder place = cond (eqb place holder) 1 0

-- "4F is always there and the others if listed"
abbrev pub listed : Bool → List ℕ → List ℕ
listed asked bytes = cond asked bytes []

-- what E3 holds of a place
unfoldable pub status_body : Isdp → ℕ → Bool → Bool → List ℕ
status_body p attribute life fallback =
    aid_element (aid_of p) ++ (listed life (life_element p.life) ++ listed fallback (attribute_element attribute))

unfoldable pub status_row : Isdp → ℕ → Bool → Bool → List ℕ
status_row p attribute life fallback =
    0xE3 ∷ length (status_body p attribute life fallback) ∷ status_body p attribute life fallback

-- a row is 27 bytes at the most: E3 and its length, 4F with 16 bytes, 9F70, 53 (decision 50)
abbrev pub most_row : ℕ
most_row = 27

-- a place that is not held has no row; a held one has, SELECTABLE too (decision 50)
unfoldable pub row_of : Isdp → ℕ → Bool → Bool → List ℕ
row_of p attribute life fallback = cond (held p) (status_row p attribute life fallback) []

-- the bytes that it takes: E3 and its length, 4F and its length, the AID, and the other elements where they are asked
abbrev pub row_size : Isdp → Bool → Bool → ℕ
row_size p life fallback = cond (held p) (length (aid_of p) + 4 + (cond life 4 0 + cond fallback 3 0)) 0

-- the rows of these places, the first of which has the number `place`
unfoldable pub rows_from : ℕ → ℕ → Bool → Bool → List Isdp → List ℕ
rows_from holder place life fallback [] = []
rows_from holder place life fallback (p ∷ ps) =
    row_of p (attribute_of holder place) life fallback ++ rows_from holder (suc place) life fallback ps

-- the one long listing, GET STATUS of all without a limit: "for each place from the lowest", and from a place on
unfoldable pub listing_from : Card → ℕ → Bool → Bool → List ℕ
listing_from c from life fallback = rows_from c.fallback from life fallback (drop from c.places)

abbrev pub listing : Card → Bool → Bool → List ℕ
listing c life fallback = listing_from c 0 life fallback

-- a response "has at most 255" (decision B70)
abbrev pub most_response : ℕ
most_response = 255

-- request 2026-05: "as many whole rows as fit 255 bytes": of these places, the first of which has the number `place`,
-- in so much room (decision B72)
unfoldable pub part_from : ℕ → ℕ → ℕ → Bool → Bool → List Isdp → List ℕ
part_from room holder place life fallback [] = []
part_from room holder place life fallback (p ∷ ps) =
    cond (leb (row_size p life fallback) room)
    (row_of p (attribute_of holder place) life fallback ++ part_from (room - row_size p life fallback) holder (suc place) life fallback ps)
    []

-- "the place of the first row not yet given" (decision B72)
unfoldable pub next_row_from : ℕ → ℕ → ℕ → Bool → Bool → List Isdp → ℕ
next_row_from room holder place life fallback [] = no_place
next_row_from room holder place life fallback (p ∷ ps) =
    cond (leb (row_size p life fallback) room)
    (next_row_from (room - row_size p life fallback) holder (suc place) life fallback ps)
    place

-- a part of the listing, from a place on, and the place from which the next one goes on
unfoldable pub part_given : Card → ℕ → Bool → Bool → List ℕ
part_given c from life fallback = part_from most_response c.fallback from life fallback (drop from c.places)

unfoldable pub next_row_after : Card → ℕ → Bool → Bool → ℕ
next_row_after c from life fallback = next_row_from most_response c.fallback from life fallback (drop from c.places)

-- GET STATUS of one AID, held at this place
unfoldable pub one_status : Card → ℕ → Bool → Bool → List ℕ
one_status c place life fallback = row_of (at c.places place) (attribute_of c.fallback place) life fallback

-- GET DATA: "FF21 holding 81 (number of ISD-Ps, 1 byte), 82 (free, 4 bytes), 83 (volatile figure, 4 bytes)", high byte first (decision 51)
unfoldable pub data_response : Card → List ℕ
data_response c =
    0xFF ∷ 0x21 ∷ 0x0F
    ∷ 0x81 ∷ 1 ∷ count_of held c.places
    ∷ 0x82 ∷ 4 ∷ four_bytes (free_in c)
    ++ (0x83 ∷ 4 ∷ four_bytes c.volatile)

-- confirmation: the AID deleted, where there is one (decisions 13, 44)
unfoldable pub deleted_response : Aid → List ℕ
deleted_response a =
    cond (eqb a.len 0) []
    (0x80 ∷ length (aid_element (bytes_of a)) ∷ aid_element (bytes_of a))
