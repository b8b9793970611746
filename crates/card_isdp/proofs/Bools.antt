-- Tests taken apart and put together. The first four are the library's `and_parts` and `or_parts` by halves: most laws above want one half.
use mathlib.Core.Path.{◌≡◌}
use Rattle.std.proofs.lemmas.Bool.{and_parts, or_parts}
use mathlib.Core.Bool.{Bool, true, false, ◌&&◌, ◌||◌}

pub and_l : (a b : Bool) → (a && b) ≡ true → a ≡ true
and_l a b e = (and_parts a b e).0

pub and_r : (a b : Bool) → (a && b) ≡ true → b ≡ true
and_r a b e = (and_parts a b e).1

pub or_l : (a b : Bool) → (a || b) ≡ false → a ≡ false
or_l a b e = (or_parts a b e).0

pub or_r : (a b : Bool) → (a || b) ≡ false → b ≡ false
or_r a b e = (or_parts a b e).1
