-- Byte strings in hex, in ASCII. A text is read in either case and written in upper case; `-` (45) is the byte string of no bytes.
use Rattle.std.specs.Prelude.{is_none, unwrap_or, ℕ, ◌+◌, ◌-◌, ◌*◌, ◌/◌, ◌%◌, List, [], ◌∷◌, Bool, true, false, length, Option, Some, None, Result, Ok, Err}
use Rattle.base_choice.specs.Choice.{pick, at_most, is_below}
use Rattle.base_bytes.specs.Bytes.{same_bytes}
use Rattle.text_words.specs.declared.hex.HexError.{HexError}
use Rattle.text_words.specs.declared.hex.HexError.TheVariants.{NoRoom, Wrong}

-- the value of a digit
unfoldable pub nibble_of : ℕ → Option ℕ
nibble_of c =
    pick (is_below c 48) None
    (pick (at_most c 57) (Some (c - 48))
    (pick (is_below c 65) None
    (pick (at_most c 70) (Some (c - 55))
    (pick (is_below c 97) None
    (pick (at_most c 102) (Some (c - 87)) None)))))

-- the text is pairs of digits
unfoldable pub pairs_of : List ℕ → Bool
pairs_of [] = true
pairs_of (a ∷ []) = false
pairs_of (a ∷ b ∷ r) = pick (is_none (nibble_of a)) false (pick (is_none (nibble_of b)) false (pairs_of r))

-- it is a byte string; the empty text is none: `-` stands for no bytes
unfoldable pub is_hex : List ℕ → Bool
is_hex [] = false
is_hex (c ∷ cs) = pick (same_bytes (c ∷ cs) (45 ∷ [])) true (pairs_of (c ∷ cs))

-- the byte that two digits spell; what is no digit counts as 0
unfoldable pub byte_of : ℕ → ℕ → ℕ
byte_of a b = unwrap_or (nibble_of a) 0 * 16 + unwrap_or (nibble_of b) 0

-- the bytes that pairs of digits spell, and `-` none
unfoldable pub spelled : List ℕ → List ℕ
spelled [] = []
spelled (a ∷ []) = []
spelled (a ∷ b ∷ r) = byte_of a b ∷ spelled r

-- two digits are a byte
unfoldable pub hex_byte_of : List ℕ → Option ℕ
hex_byte_of [] = None
hex_byte_of (a ∷ []) = None
hex_byte_of (a ∷ b ∷ []) = pick (is_none (nibble_of a)) None (pick (is_none (nibble_of b)) None (Some (byte_of a b)))
hex_byte_of (a ∷ b ∷ c ∷ r) = None

-- how many bytes a text gives, where `room` of them fit
unfoldable pub hex_read_of : List ℕ → ℕ → Result ℕ HexError
hex_read_of s room = pick (is_hex s) (pick (is_below room (length (spelled s))) (Err NoRoom) (Ok (length (spelled s)))) (Err Wrong)

-- the bytes, where `room` of them fit; else none
abbrev pub spelled_in : List ℕ → ℕ → List ℕ
spelled_in s room = pick (is_below room (length (spelled s))) [] (spelled s)

-- which bytes it leaves; none where it is refused
unfoldable pub hex_left : List ℕ → ℕ → List ℕ
hex_left s room = pick (is_hex s) (spelled_in s room) []

-- the hex digit of the low four bits
unfoldable pub glyph_of : ℕ → ℕ
glyph_of n = pick (is_below (n % 16) 10) (48 + n % 16) (55 + n % 16)

-- two digits a byte
unfoldable pub hex_text : List ℕ → List ℕ
hex_text [] = []
hex_text (b ∷ bs) = glyph_of (b / 16) ∷ glyph_of b ∷ hex_text bs

unfoldable pub hex_word : List ℕ → List ℕ
hex_word [] = 45 ∷ []
hex_word (b ∷ bs) = hex_text (b ∷ bs)

-- one byte as two hex digits
abbrev pub hex8 : ℕ → List ℕ
hex8 n = hex_text (n ∷ [])
