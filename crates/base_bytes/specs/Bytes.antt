-- Byte strings as lists of numbers: one byte, numbers of two and four bytes, a part, and when two are the same.
use Rattle.std.specs.Prelude.{ℕ, ◌+◌, ◌-◌, ◌*◌, ◌/◌, ◌%◌, List, [], ◌∷◌, Bool, true, false, ◌&&◌, get_or, take, drop, eqb}
use Rattle.base_bytes.specs.declared.Part.{Part}

-- the byte at a place; 00 where there is none
abbrev pub byte : List ℕ → ℕ → ℕ
byte s i = get_or s i 0

-- two bytes, high byte first
abbrev pub pair_at : List ℕ → ℕ → ℕ
pair_at s at = byte s at * 256 + byte s (at + 1)

-- four bytes, high byte first
abbrev pub four_at : List ℕ → ℕ → ℕ
four_at s at = pair_at s at * 65536 + pair_at s (at + 2)

-- a number as four bytes, high byte first
abbrev pub four_bytes : ℕ → List ℕ
four_bytes n = n / 16777216 % 256 ∷ n / 65536 % 256 ∷ n / 256 % 256 ∷ n % 256 ∷ []

-- the part from `start` up to `stop`
abbrev pub between : ℕ → ℕ → Part
between start stop = record { start = start; len = stop - start }

-- the bytes that a part names, as far as they are there (decision B16)
abbrev pub part_of : List ℕ → Part → List ℕ
part_of s part = take part.len (drop part.start s)

-- two byte strings are the same
unfoldable pub same_bytes : List ℕ → List ℕ → Bool
same_bytes [] [] = true
same_bytes [] (y ∷ ys) = false
same_bytes (x ∷ xs) [] = false
same_bytes (x ∷ xs) (y ∷ ys) = eqb x y && same_bytes xs ys
