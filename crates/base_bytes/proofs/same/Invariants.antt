-- `same` meets its contract. The loop goes from the end and keeps: what is left is the same exactly where the whole is.
use mathlib.Core.Path.{◌≡◌}
use Prim.Native.Nat.{◌≤◌}
use lib.ListN.{length, take}
use Rattle.base_bytes.specs.Bytes.{same_bytes}
use Rattle.base_bytes.proofs.same.Given as goal

abbrev pub invariant-loop-i : goal.invariant-loop-i
invariant-loop-i l = (length l.a ≡ length l.b) × ((l.i ≤ length l.a) × (same_bytes (take l.i l.a) (take l.i l.b) ≡ same_bytes l.a l.b))
