-- What is written is read back: a byte string in hex, a number in decimal.
use Rattle.std.specs.Prelude.{ℕ, ◌^◌, ◌≤◌, ◌<◌, ◌≡◌, List, [], ◌∷◌, length, Some, Ok}
use Rattle.text_words.specs.Hex.{hex_read_of, hex_left, hex_word}
use Rattle.text_words.specs.Numbers.{decimal_of, decimal_text}

-- every element is a byte
pub data Octets : List ℕ → Type 0 where
  none : Octets []
  one : {b : ℕ} {bs : List ℕ} → b < 256 → Octets bs → Octets (b ∷ bs)

-- a byte string that fits is read back as it was written
abbrev pub HexAgain : Type 0
HexAgain = (bs : List ℕ) (room : ℕ) → Octets bs → length bs ≤ room → (hex_read_of (hex_word bs) room ≡ Ok (length bs)) × (hex_left (hex_word bs) room ≡ bs)

-- a number of at most 20 digits is read back as it was written
abbrev pub DecimalAgain : Type 0
DecimalAgain = (most n : ℕ) → n ≤ most → n < 10 ^ 20 → decimal_of most (decimal_text n) ≡ Some n
