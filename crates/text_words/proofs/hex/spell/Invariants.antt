-- `hex::spell` meets its contract. The loop keeps: writing what is left, from here on, leaves what writing all leaves.
use mathlib.Core.Path.{◌≡◌}
use Prim.Native.Nat.{◌*◌}
use Rattle.base_bytes.specs.Put.{put}
use Rattle.text_words.specs.Hex.{spelled}
use Rattle.base_bytes.proofs.Rest.{rest}
use Rattle.text_words.proofs.hex.spell.Given as goal

abbrev pub invariant-loop-k : goal.invariant-loop-k
invariant-loop-k l = put l.out l.k (spelled (rest l.s (l.k * 2))) ≡ put l.initial.out 0 (spelled l.s)
