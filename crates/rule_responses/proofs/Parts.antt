-- A part of a listing: one turn of the loop that writes it, its two ends, and over a list of places of any length that a part and what is left
-- make up the listing, that what is left begins with a held place, and that a row more would not have fit. By induction over the places.
-- Assumes nothing.
use mathlib.Core.Path.{◌≡◌, refl, ap, sym, ◌∙◌}
use Prim.Native.Nat.{ℕ, suc, ◌+◌, ◌-◌, ◌≤◌, ◌<◌}
use native.Mathlib.Numerals.{add-one}
use native.Mathlib.Omega.{arith}
use mathlib.Core.List.{List, [], ◌∷◌, ◌++◌, append_assoc}
use mathlib.Core.Bool.{Bool, true, false, cond}
use lib.ListN.{length, drop, get_or, length-append, length-drop, drop_of_length-le}
use lib.Seq.{drop-cons, drop-drop, get_or-drop}
use lib.Dec.{leb}
use borrow.Author.Tests.{le-leb, lt-leb, leb-true, leb-false}
use Rattle.card_isdp.specs.Aids.{aid_of}
use Rattle.card_isdp.specs.Place.{held}
use Rattle.card_isdp.specs.declared.Isdp.{Isdp}
use Rattle.card_places.specs.Places.{at}
use Rattle.card_places.proofs.Records.{unread}
use Rattle.card_record.specs.Cards.{no_place}
use Rattle.card_record.specs.declared.Card.{Card}
use Rattle.rule_responses.specs.Responses.{attribute_of, row_of, row_size, rows_from, listing_from, most_response, part_from, next_row_from, part_given, next_row_after}
use Rattle.rule_responses.proofs.Rows.{row_sized}

module _ (holder : ℕ) (life fallback : Bool) where
  -- one turn of the loop, and its two ends
  module _ (l : List Isdp) (i room : ℕ) where
    abbrev here : Isdp
    here = get_or l i unread

    pub part_step : (attribute : ℕ) → i < length l → attribute ≡ attribute_of holder i → row_size here life fallback ≤ room
        → part_from room holder i life fallback (drop i l) ≡ row_of here attribute life fallback ++ part_from (room - row_size here life fallback) holder (i + 1) life fallback (drop (i + 1) l)
    unfolding part_from
    part_step attribute h e f = rw (drop-cons l i unread, add-one, e, le-leb (row_size here life fallback) room f)

    pub left_step : i < length l → row_size here life fallback ≤ room
        → next_row_from room holder i life fallback (drop i l) ≡ next_row_from (room - row_size here life fallback) holder (i + 1) life fallback (drop (i + 1) l)
    unfolding next_row_from
    left_step h f = rw (drop-cons l i unread, add-one, le-leb (row_size here life fallback) room f)

    pub part-stops : i < length l → room < row_size here life fallback → part_from room holder i life fallback (drop i l) ≡ []
    unfolding part_from
    part-stops h f = rw (drop-cons l i unread, lt-leb (row_size here life fallback) room f)

    pub left-stops : i < length l → room < row_size here life fallback → next_row_from room holder i life fallback (drop i l) ≡ i
    unfolding next_row_from
    left-stops h f = rw (drop-cons l i unread, lt-leb (row_size here life fallback) room f)

    pub part-ends : length l ≤ i → part_from room holder i life fallback (drop i l) ≡ []
    unfolding part_from
    part-ends h = rw (drop_of_length-le l h)

    pub left-ends : length l ≤ i → next_row_from room holder i life fallback (drop i l) ≡ no_place
    unfolding next_row_from
    left-ends h = rw (drop_of_length-le l h)

  -- a part is within its room
  length-case : (p : Isdp) (ps : List Isdp) (room place : ℕ) (b : Bool) → leb (row_size p life fallback) room ≡ b → length (part_from (room - row_size p life fallback) holder (suc place) life fallback ps) ≤ room - row_size p life fallback
      → length (cond b (row_of p (attribute_of holder place) life fallback ++ part_from (room - row_size p life fallback) holder (suc place) life fallback ps) []) ≤ room
  length-case p ps room place true e h =
      let k = leb-true (row_size p life fallback) room e in
      let r = row_sized p (attribute_of holder place) life fallback in
      omega (arith, k, r, h, length-append (row_of p (attribute_of holder place) life fallback) (part_from (room - row_size p life fallback) holder (suc place) life fallback ps))
  length-case p ps room place false e h = omega arith

  pub part_length : (ps : List Isdp) (room place : ℕ) → length (part_from room holder place life fallback ps) ≤ room
  unfolding part_from
  part_length [] room place = omega arith
  part_length (p ∷ ps) room place =
      length-case p ps room place (leb (row_size p life fallback) room) refl (part_length ps (room - row_size p life fallback) (suc place))

  -- where places are left, from the one numbered `left` on: a held one, whose row would not have fit
  pub record Left (ps : List Isdp) (room place left : ℕ) (part : List ℕ) : Type 0 where
    pub low : place ≤ left
    pub high : left < place + length ps
    pub there : held (at ps (left - place)) ≡ true
    pub full : room < length part + row_size (at ps (left - place)) life fallback

  -- a part, and what is left: nothing, or the rows from that place on
  pub data Split (ps : List Isdp) (room place : ℕ) (part : List ℕ) : ℕ → Type 0 where
    all-given : rows_from holder place life fallback ps ≡ part → Split ps room place part no_place
    some_left : {left : ℕ} → Left ps room place left part → rows_from holder place life fallback ps ≡ part ++ rows_from holder left life fallback (drop (left - place) ps) → Split ps room place part left

  -- one place more: it fits, and the split of the rest is one of the whole; or it does not, and all is left from here
  over-case : (p : Isdp) (ps : List Isdp) (room place : ℕ) (left : ℕ) (part : List ℕ) → row_size p life fallback ≤ room → Split ps (room - row_size p life fallback) (suc place) part left
      → Split (p ∷ ps) room place (row_of p (attribute_of holder place) life fallback ++ part) left
  unfolding rows_from
  over-case p ps room place left part k (all-given e) = all-given (rw e)
  over-case p ps room place left part k (some_left w e) =
      let r = row_of p (attribute_of holder place) life fallback in
      let d : left - place ≡ suc (left - suc place) = let low = w.low in omega arith in
      let s = row_sized p (attribute_of holder place) life fallback in
      let a = length-append r part in
      some_left {left = left}
      (record {
        low = let low = w.low in omega arith;
        high = let high = w.high in omega arith;
        there = rw d w.there;
        full = rw d (omega (arith, w.full, s, a, k));
      })
      (rw (d, e) (sym (append_assoc r part (rows_from holder left life fallback (drop (left - suc place) ps)))))

  -- a place that is not held has no row
  held-case : (there : Bool) (n : ℕ) → 0 < cond there n 0 → there ≡ true
  held-case true n h = refl
  held-case false n h = absurd (omega arith)

  pub size-held : (p : Isdp) → 0 < row_size p life fallback → held p ≡ true
  size-held p h = held-case (held p) (length (aid_of p) + 4 + (cond life 4 0 + cond fallback 3 0)) h

  here-case : (p : Isdp) (ps : List Isdp) (room place : ℕ) → room < row_size p life fallback → Split (p ∷ ps) room place [] place
  here-case p ps room place k =
      let d : place - place ≡ 0 = omega arith in
      some_left {left = place}
      (record {
        low = omega arith;
        high = omega arith;
        there = rw d (size-held p (omega (arith, k)));
        full = rw d (omega (arith, k));
      })
      (rw d)

  split-case : (p : Isdp) (ps : List Isdp) (room place : ℕ) (b : Bool) → leb (row_size p life fallback) room ≡ b → Split ps (room - row_size p life fallback) (suc place) (part_from (room - row_size p life fallback) holder (suc place) life fallback ps) (next_row_from (room - row_size p life fallback) holder (suc place) life fallback ps)
      → Split (p ∷ ps) room place (cond b (row_of p (attribute_of holder place) life fallback ++ part_from (room - row_size p life fallback) holder (suc place) life fallback ps) []) (cond b (next_row_from (room - row_size p life fallback) holder (suc place) life fallback ps) place)
  split-case p ps room place true e s = over-case p ps room place _ _ (leb-true (row_size p life fallback) room e) s
  split-case p ps room place false e s = here-case p ps room place (leb-false (row_size p life fallback) room e)

  pub splits : (ps : List Isdp) (room place : ℕ) → Split ps room place (part_from room holder place life fallback ps) (next_row_from room holder place life fallback ps)
  unfolding part_from next_row_from rows_from
  splits [] room place = all-given refl
  splits (p ∷ ps) room place =
      split-case p ps room place (leb (row_size p life fallback) room) refl (splits ps (room - row_size p life fallback) (suc place))

-- the same of a card's places, from one on
module _ (c : Card) (life fallback : Bool) (from : ℕ) where
  abbrev rest : List Isdp
  rest = drop from c.places

  pub part-short : length (part_given c from life fallback) ≤ most_response
  unfolding part_given
  part-short = part_length c.fallback life fallback rest most_response from

  -- where a place is left: a held one, from this one on, whose row would not have fit
  pub record LeftAt (left : ℕ) (part : List ℕ) : Type 0 where
    pub low : from ≤ left
    pub high : left < length c.places
    pub there : held (at c.places left) ≡ true
    pub full : most_response < length part + row_size (at c.places left) life fallback

  -- a part is all that was to come, or a place is left from which the listing goes on
  pub data Given (part : List ℕ) : ℕ → Type 0 where
    all : listing_from c from life fallback ≡ part → Given part no_place
    some : {left : ℕ} → LeftAt left part → listing_from c from life fallback ≡ part ++ listing_from c left life fallback → Given part left

  given-case : (part : List ℕ) (left : ℕ) → Split c.fallback life fallback rest most_response from part left → Given part left
  unfolding listing_from
  given-case part left (all-given e) = all e
  given-case part left (some_left w e) =
      let d : from + (left - from) ≡ left = let low = w.low in omega arith in
      let p : at rest (left - from) ≡ at c.places left = get_or-drop from c.places (left - from) _ ∙ ap (at c.places) d in
      some {left = left}
      (record {
        low = w.low;
        high = let high = w.high in omega (arith, high, length-drop from c.places);
        there = rw (← p) w.there;
        full = rw (← p) w.full;
      })
      (rw (← d) (rw (← (drop-drop (left - from) from c.places)) (rw d e)))

  pub given : Given (part_given c from life fallback) (next_row_after c from life fallback)
  unfolding part_given next_row_after
  given = given-case _ _ (splits c.fallback life fallback rest most_response from)
