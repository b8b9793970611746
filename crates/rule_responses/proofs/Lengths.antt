-- How long the responses are: a row has 27 bytes at the most, and the rows of a card as many as its places times that. Assumes nothing.
use mathlib.Core.Path.{◌≡◌, refl}
use Prim.Native.Nat.{ℕ, zero, suc, ◌*◌, ◌≤◌}
use native.Mathlib.Omega.{arith}
use mathlib.Core.List.{List, [], ◌∷◌}
use mathlib.Core.Bool.{Bool, true, false, cond}
use lib.ListN.{length, length-append, length-take}
use lib.Dec.{leb, eqb}
use borrow.Author.Tests.{leb-true, le-leb, eqb-true}
use Rattle.std.proofs.lemmas.Bool.{and_from}
use Rattle.card_isdp.specs.Sizes.{most_places, most_aid}
use Rattle.card_isdp.specs.Aids.{bytes_of}
use Rattle.card_isdp.specs.Place.{vacant, held, place_ok}
use Rattle.card_isdp.specs.declared.Isdp.{Isdp}
use Rattle.card_isdp.specs.declared.Aid.{Aid}
use Rattle.card_places.specs.Places.{at, all_of}
use Rattle.card_record.specs.Sound.{sound}
use Rattle.card_record.specs.declared.Card.{Card}
use Rattle.card_isdp.proofs.Bools.{and_l, and_r}
use Rattle.card_record.proofs.Sounds.{parts}
use Rattle.rule_responses.specs.Responses.{most_row, aid_element, attribute_of, status_row, row_of, rows_from, listing_from, listing, one_status, data_response, deleted_response}
use Rattle.rule_responses.proofs.Rows.{body-length, listed_small}

-- the AID's bytes are sixteen at the most, as they are in every record of the code
abbrev pub aid_fits : Isdp → Bool
aid_fits p = leb (length p.aid.bytes) most_aid

row-case : (p : Isdp) (attribute : ℕ) (life fallback there : Bool) → length p.aid.bytes ≤ 16 → length (cond there (status_row p attribute life fallback) []) ≤ most_row
unfolding status_row
row-case p attribute life fallback true h =
    omega (arith, body-length p attribute life fallback, listed_small life fallback, length-take p.aid.len p.aid.bytes)
row-case p attribute life fallback false h = omega arith

pub row-length : (p : Isdp) (attribute : ℕ) (life fallback : Bool) → aid_fits p ≡ true → length (row_of p attribute life fallback) ≤ most_row
unfolding row_of
row-length p attribute life fallback e = row-case p attribute life fallback (held p) (leb-true (length p.aid.bytes) most_aid e)

pub rows-length : (holder place : ℕ) (life fallback : Bool) (l : List Isdp) → all_of aid_fits l ≡ true → length (rows_from holder place life fallback l) ≤ most_row * length l
unfolding rows_from all_of
rows-length holder place life fallback [] e = omega arith
rows-length holder place life fallback (p ∷ ps) e =
    let h = row-length p (attribute_of holder place) life fallback (and_l (aid_fits p) (all_of aid_fits ps) e) in
    let k = rows-length holder (suc place) life fallback ps (and_r (aid_fits p) (all_of aid_fits ps) e) in
    omega (arith, length-append (row_of p (attribute_of holder place) life fallback) (rows_from holder (suc place) life fallback ps))

-- the one long listing, over any number of places
pub listing-length : (c : Card) (life fallback : Bool) → all_of aid_fits c.places ≡ true → length (listing c life fallback) ≤ most_row * length c.places
unfolding listing_from
listing-length c life fallback e = rows-length c.fallback 0 life fallback c.places e

-- a test that every place passes is passed by the place at any number, where a place that is not held passes it too
pub all-at : (t : Isdp → Bool) (l : List Isdp) (i : ℕ) → all_of t l ≡ true → t vacant ≡ true → t (at l i) ≡ true
unfolding all_of
all-at t [] i e n = n
all-at t (p ∷ ps) zero e n = and_l (t p) (all_of t ps) e
all-at t (p ∷ ps) (suc i) e n = all-at t ps i (and_r (t p) (all_of t ps) e) n

-- GET STATUS of one
pub one-length : (c : Card) (place : ℕ) (life fallback : Bool) → all_of aid_fits c.places ≡ true → length (one_status c place life fallback) ≤ most_row
unfolding one_status
one-length c place life fallback e = row-length (at c.places place) (attribute_of c.fallback place) life fallback (all-at aid_fits c.places place e refl)

all_more : (t u : Isdp → Bool) (l : List Isdp) → ((p : Isdp) → t p ≡ true → u p ≡ true) → all_of t l ≡ true → all_of u l ≡ true
unfolding all_of
all_more t u [] f e = refl
all_more t u (p ∷ ps) f e = and_from (u p) (all_of u ps) (f p (and_l (t p) (all_of t ps) e)) (all_more t u ps f (and_r (t p) (all_of t ps) e))

ok-fits : (capacity : ℕ) (p : Isdp) → place_ok capacity p ≡ true → aid_fits p ≡ true
unfolding place_ok
ok-fits capacity p e =
    let h : length p.aid.bytes ≡ 16 = eqb-true (length p.aid.bytes) most_aid (and_l (eqb (length p.aid.bytes) most_aid) _ e) in
    le-leb (length p.aid.bytes) most_aid (omega arith)

-- a sound card has such places, and no more than a card can
module _ (c : Card) (e : sound c ≡ true) where
  pub sound-fits : all_of aid_fits c.places ≡ true
  sound-fits = all_more (place_ok c.capacity) aid_fits c.places (ok-fits c.capacity) (parts c e).placed.each

  pub sound-listing-length : (life fallback : Bool) → length (listing c life fallback) ≤ most_row * most_places
  sound-listing-length life fallback =
      let h = listing-length c life fallback sound-fits in
      let k = (parts c e).sizes.full in
      omega arith

pub data-length : (c : Card) → length (data_response c) ≡ 18
unfolding data_response
data-length c = refl

deleted-case : (a : Aid) (gone : Bool) → length a.bytes ≤ 16 → length (cond gone [] (0x80 ∷ length (aid_element (bytes_of a)) ∷ aid_element (bytes_of a))) ≤ 20
deleted-case a true h = omega arith
deleted-case a false h = omega (arith, length-take a.len a.bytes)

pub deleted-length : (a : Aid) → length a.bytes ≤ 16 → length (deleted_response a) ≤ 20
unfolding deleted_response
deleted-length a h = deleted-case a (eqb a.len 0) h
