-- `writing::put_hex_16` meets its contract: two bytes written one after the other are one text.
use native.Mathlib.Omega.{arith}
use mathlib.Core.Path.{◌≡◌}
use Prim.Native.Nat.{◌/◌, ◌%◌}
use Rattle.text_words.specs.Hex.{hex_text}
use Rattle.base_bytes.proofs.PutLaws.{written_then}
use Rattle.text_words.proofs.writing.put_hex_16.Goals as goal

pub returns : goal.returns
unfolding hex_text
returns c =
    let e : c.args.n / 256 % 256 ≡ c.args.n / 256 = omega arith in
    rw (← e) (rw c.to_be_bytes.ensures at (written_then c.put_hex_8.ensures c.put_hex_8-2.ensures))
