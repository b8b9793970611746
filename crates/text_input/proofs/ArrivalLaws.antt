-- What an answer says of the bytes that a read brought: as many as it counts, and those that the reader gave.
use Prim.Native.Nat.{ℕ, zero, suc, ◌<◌, ◌≤◌}
use mathlib.Core.Path.{◌≡◌, refl}
use mathlib.Core.List.{List}
use native.Mathlib.Omega.{arith}
use lib.ListN.{length, take}
use Rattle.std.specs.Prelude.{Option, Result, Ok}
use Rattle.std.specs.Io.KnownBytes.{ReadConsumes}
use Rattle.std.proofs.lemmas.List.{length-take-le}
use Rattle.text_input.specs.Filled.{arrival_of, Brings, Leaves}

pub brings-of : {E : Type 0} (r : Result ℕ E) (n : ℕ) (ys : List ℕ) → r ≡ Ok n → n ≤ length ys → Brings (arrival_of r) (take n ys)
brings-of r zero ys e h = rw e refl
brings-of r (suc n) ys e h = let l = length-take-le (suc n) ys h in rw e (omega arith)

pub leaves-of : {E : Type 0} (old new : Option (List ℕ)) (r : Result ℕ E) (n : ℕ) (ys : List ℕ) → r ≡ Ok n → 0 < length ys → ReadConsumes old new r ys
    → Leaves (arrival_of r) old new (take n ys)
leaves-of old new r zero ys e h b = let k = rw e at b in rw e (k.0, k.1 refl h)
leaves-of old new r (suc n) ys e h b = let k = rw e at b in rw e k.0
