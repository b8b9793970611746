-- `writing::put_hex` meets its contract. Where there is no room for all, the loop has written the digits of the bytes so far.
use lib.ListN.{take}
use Rattle.base_bytes.specs.Put.{Written}
use Rattle.text_words.specs.Hex.{hex_text}
use Rattle.text_words.proofs.writing.put_hex.Given as goal

abbrev pub invariant-loop-n : goal.invariant-loop-n
invariant-loop-n l = Written l.initial.out (hex_text (take l.n-index l.s)) l.out
