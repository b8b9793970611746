-- `writing::put_hex_word` meets its contract: `-` for no bytes, else what `put_hex` writes.
use native.Mathlib.Omega.{arith}
use Rattle.std.proofs.lemmas.Bool.Decides.{nat_tests}
use Rattle.base_bytes.proofs.PutLaws.{written_as}
use Rattle.text_words.proofs.HexLaws.{word_none, word_some}
use Rattle.text_words.proofs.writing.put_hex_word.Goals as goal

pub returns-then-is_empty : goal.returns-then-is_empty
returns-then-is_empty c = written_as _ (word_none _ (grind (arith, nat_tests))) c.byte.ensures

pub returns-else-is_empty : goal.returns-else-is_empty
returns-else-is_empty c = written_as _ (word_some _ (grind (arith, nat_tests))) c.put_hex.ensures
