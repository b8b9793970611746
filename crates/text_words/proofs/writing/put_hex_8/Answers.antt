-- `writing::put_hex_8` meets its contract: two digits written one after the other are one text.
use Rattle.text_words.specs.Hex.{hex_text}
use Rattle.base_bytes.proofs.PutLaws.{written_then}
use Rattle.text_words.proofs.writing.put_hex_8.Goals as goal

pub returns : goal.returns
unfolding hex_text
returns c = rw (← c.glyph-2.ensures, ← c.glyph.ensures) (written_then c.byte.ensures c.byte-2.ensures)
