-- `hex::byte_of` meets its contract, by what `nibble` ensures.
use mathlib.Core.Path.{refl}
use Rattle.text_words.specs.Hex.{byte_of}
use Rattle.text_words.proofs.hex.byte_of.Goals as goal

pub returns : goal.returns
unfolding byte_of
returns c = rw (← c.nibble.ensures.value, ← c.nibble-2.ensures.value, c.unwrap_or.ensures, c.unwrap_or-2.ensures) refl
