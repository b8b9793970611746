-- The searches, tests and counts over places are the words of the library's iterators. Assumes nothing.
use mathlib.Core.Path.{◌≡◌, refl, sym}
use Prim.Native.Nat.{ℕ, suc, ◌+◌}
use native.Mathlib.Omega.{arith}
use mathlib.Core.List.{List}
use mathlib.Core.Bool.{Bool, true, false, cond}
use lib.ListN.{length}
use Rattle.std.specs.Prelude.{position, count_by}
use Rattle.std.specs.List.{position_or_len}
use Rattle.std.proofs.lemmas.List.Recursion.{is_position_or_len, is_count_by}
use Rattle.card_isdp.specs.Sizes.{most_places}
use Rattle.card_isdp.specs.declared.Isdp.{Isdp}
use Rattle.card_places.specs.Places.{seek, found_of, count_of}

one_more : (n : ℕ) → 1 + n ≡ suc n
one_more n = omega arith

pub seek_len : (t : Isdp → Bool) (l : List Isdp) → seek t l ≡ position_or_len t l
unfolding seek
seek_len t = is_position_or_len (seek t) t refl (λ p ps. rw (one_more (seek t ps)) refl)

pub found_position : (t : Isdp → Bool) (l : List Isdp) → length l ≡ most_places → position t l ≡ found_of (seek t l)
found_position t l e = rw (e, seek_len t l) refl

either : (b : Bool) (n : ℕ) → cond b 1 0 + n ≡ cond b (1 + n) n
either true n = refl
either false n = omega arith

pub count_list : (t : Isdp → Bool) (l : List Isdp) → count_by t l ≡ count_of t l
unfolding count_of
count_list t l = sym (is_count_by (count_of t) t refl (λ p ps. either (t p) (count_of t ps)) l)
