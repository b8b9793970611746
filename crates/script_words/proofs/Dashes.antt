-- Words for the worked lines of the crates above: `-`, so many times. Assumes nothing.
use Prim.Native.Nat.{ℕ, zero, suc}
use mathlib.Core.List.{List, [], ◌∷◌}

abbrev pub dashes : ℕ → List ℕ
dashes zero = []
dashes (suc n) = 32 ∷ 45 ∷ dashes n
