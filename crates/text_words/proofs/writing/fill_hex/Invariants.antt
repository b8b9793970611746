-- `writing::fill_hex` meets its contract: the part begins with the digits of the bytes so far.
use mathlib.Core.Path.{◌≡◌}
use Prim.Native.Nat.{◌*◌}
use lib.ListN.{length, take}
use Rattle.text_words.specs.Hex.{hex_text}
use Rattle.text_words.proofs.writing.fill_hex.Given as goal

abbrev pub invariant-loop-i : goal.invariant-loop-i
invariant-loop-i l = (length l.room ≡ length l.s * 2) × (take (l.i * 2) l.room ≡ hex_text (take l.i l.s))
