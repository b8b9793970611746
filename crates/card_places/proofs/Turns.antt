-- One turn and the end of each loop over the places: a turn takes `drop i` apart once. Assumes nothing.
use mathlib.Core.Path.{◌≡◌}
use Prim.Native.Nat.{ℕ, suc, ◌+◌, ◌≤◌, ◌<◌}
use native.Mathlib.Numerals.{add-one}
use mathlib.Core.List.{List}
use mathlib.Core.Bool.{Bool, true, false, not, cond, ◌&&◌}
use lib.ListN.{length, get_or, drop, drop_of_length-le}
use lib.Seq.{drop-cons}
use borrow.Author.Tests.{lt-ltb}
use Rattle.card_isdp.specs.Sizes.{most_places}
use Rattle.card_isdp.specs.Place.{clash}
use Rattle.card_isdp.specs.declared.Isdp.{Isdp}
use Rattle.std.specs.Prelude.{Some, None}
use Rattle.card_places.specs.Places.{seek, found_of, quotas, all_of, any_of, count_of, distinct}

-- one turn of a search, as the loop's invariant has it, and its ends
module _ (t : Isdp → Bool) (l : List Isdp) (d : Isdp) (i : ℕ) (h : i < length l) where
  pub seek_hit : t (get_or l i d) ≡ true → seek t (drop i l) ≡ 0
  unfolding seek
  seek_hit e = rw (drop-cons l i d, e)

  pub seek-miss : t (get_or l i d) ≡ false → seek t (drop i l) ≡ suc (seek t (drop (i + 1) l))
  unfolding seek
  seek-miss e = rw (drop-cons l i d, e, add-one)

pub seek-end : (t : Isdp → Bool) (l : List Isdp) (i : ℕ) → length l ≤ i → seek t (drop i l) ≡ 0
unfolding seek
seek-end t l i h = rw (drop_of_length-le l h)

-- the answer of a search that has come to i
pub found_at : (n i : ℕ) → n ≡ i → i < most_places → Some i ≡ found_of n
found_at n i e h = rw (e, lt-ltb i most_places h)

pub found_none : (n : ℕ) → n ≡ most_places → None ≡ found_of n
found_none n e = rw e

-- one turn of the sum of quotas, and its end
pub quotas-step : (l : List Isdp) (d : Isdp) (i : ℕ) → i < length l → quotas (drop i l) ≡ (get_or l i d).quota + quotas (drop (i + 1) l)
unfolding quotas
quotas-step l d i h = rw (drop-cons l i d, add-one)

pub quotas-end : (l : List Isdp) (i : ℕ) → length l ≤ i → quotas (drop i l) ≡ 0
unfolding quotas
quotas-end l i h = rw (drop_of_length-le l h)

-- one turn of a test of every place, of a count, and their ends
module _ (t : Isdp → Bool) (l : List Isdp) (d : Isdp) (i : ℕ) (h : i < length l) where
  pub all-step : all_of t (drop i l) ≡ (t (get_or l i d) && all_of t (drop (i + 1) l))
  unfolding all_of
  all-step = rw (drop-cons l i d, add-one)

  pub count-step : count_of t (drop i l) ≡ cond (t (get_or l i d)) 1 0 + count_of t (drop (i + 1) l)
  unfolding count_of
  count-step = rw (drop-cons l i d, add-one)

module _ (t : Isdp → Bool) (l : List Isdp) (i : ℕ) (h : length l ≤ i) where
  pub all_end : all_of t (drop i l) ≡ true
  unfolding all_of
  all_end = rw (drop_of_length-le l h)

  pub count-end : count_of t (drop i l) ≡ 0
  unfolding count_of
  count-end = rw (drop_of_length-le l h)

pub distinct-step : (l : List Isdp) (d : Isdp) (i : ℕ) → i < length l → distinct (drop i l) ≡ (not (any_of (clash (get_or l i d)) (drop (i + 1) l)) && distinct (drop (i + 1) l))
unfolding distinct
distinct-step l d i h = rw (drop-cons l i d, add-one)

pub distinct-end : (l : List Isdp) (i : ℕ) → length l ≤ i → distinct (drop i l) ≡ true
unfolding distinct
distinct-end l i h = rw (drop_of_length-le l h)
