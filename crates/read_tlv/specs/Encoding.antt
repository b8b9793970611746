-- Document 01, 'Reading a command', TLV, from the writer's side: the bytes of a tag, of a length and of an element. The form of a length
-- is forced by the length: 00-7F, or 81 with 80-FF.
use Rattle.std.specs.Prelude.{ℕ, ◌/◌, ◌%◌, ◌<◌, List, [], ◌∷◌, ◌++◌, length}
use Rattle.std.proofs.Math.Seq.{slice}
use Rattle.base_choice.specs.Choice.{pick, is_below}
use Rattle.base_bytes.specs.Bytes.{byte}

-- the bytes from `from` up to `to`
unfoldable pub window : List ℕ → ℕ → ℕ → List ℕ
window s from to = slice from to s

-- each number of the list is a byte, as in a slice of bytes it is
abbrev pub Bytes : List ℕ → Type 0
Bytes s = (i : ℕ) → byte s i < 256

-- two bytes, high byte first
abbrev pub encode_number : ℕ → List ℕ
encode_number n = n / 256 ∷ n % 256 ∷ []

unfoldable pub encode_tag : ℕ → List ℕ
encode_tag t = pick (is_below t 256) (t ∷ []) (encode_number t)

unfoldable pub encode_length : ℕ → List ℕ
encode_length n = pick (is_below n 0x80) (n ∷ []) (0x81 ∷ n ∷ [])

unfoldable pub encode_element : ℕ → List ℕ → List ℕ
encode_element t value = encode_tag t ++ (encode_length (length value) ++ value)
