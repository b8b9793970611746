-- `hex::hex_byte` meets its contract. A text of two bytes is its two elements; then each exit names its tests.
use native.Mathlib.Omega.{arith}
use mathlib.Core.Path.{sym, ◌∙◌}
use Rattle.text_words.proofs.HexLaws.{byte-not, byte_high, byte_low, byte_both}
use Rattle.text_words.proofs.hex.hex_byte.Goals as goal

pub returns-in_default : goal.returns-in_default
returns-in_default c = byte-not _ (omega arith)

pub returns-in_default-2 : goal.returns-in_default-2
returns-in_default-2 c = byte-not _ (omega arith)

pub returns-in_err-nibble : goal.returns-in_err-nibble
returns-in_err-nibble c = c.from_residual.ensures ∙ byte_high _ (omega arith) (sym c.in_err-nibble.was ∙ c.nibble.ensures.value)

pub returns-in_err-nibble-2 : goal.returns-in_err-nibble-2
returns-in_err-nibble-2 c = c.from_residual-in_err-nibble-2.ensures ∙ byte_low _ (omega arith) (sym c.in_err-nibble-2.was ∙ c.nibble-2.ensures.value)

pub returns : goal.returns
returns c = byte_both _ _ _ (omega arith) (sym c.in_ok-nibble.was ∙ c.nibble.ensures.value) (sym c.in_ok-nibble-2.was ∙ c.nibble-2.ensures.value)
