-- Document 01, 'Reading a command', first paragraph, written the other way: the string of a command with a data field.
use Rattle.std.specs.Prelude.{ℕ, ◌≤◌, ◌≡◌, List, [], ◌∷◌, ◌++◌, Bool, true, false, not, length, take, drop, eqb}
use Rattle.base_bytes.specs.Bytes.{byte}
use Rattle.read_frame.specs.Framing.{class_right, parameters_right, data_end}

-- nothing, or Le 00
abbrev pub le_of : Bool → List ℕ
le_of false = []
le_of true = 0x00 ∷ []

-- header, Lc, Lc bytes, then nothing or Le 00
abbrev pub framed : ℕ → ℕ → ℕ → ℕ → List ℕ → Bool → List ℕ
framed class instruction p1 p2 field with_le = class ∷ instruction ∷ p1 ∷ p2 ∷ length field ∷ (field ++ le_of with_le)

-- the Lc bytes after Lc, and whether a byte stands after them
abbrev pub data_field : List ℕ → List ℕ
data_field s = take (byte s 4) (drop 5 s)

abbrev pub has_le : List ℕ → Bool
has_le s = not (eqb (length s) (data_end s))

-- a command with a data field that is so encoded
pub record Framed (instruction : ℕ) (Encoded : List ℕ → Type 0) (s : List ℕ) : Type 0 where
  pub class : ℕ
  pub p1 : ℕ
  pub p2 : ℕ
  pub field : List ℕ
  pub with_le : Bool
  pub right_class : class_right class ≡ true
  pub right_parameters : parameters_right instruction p1 p2 ≡ true
  pub least : 1 ≤ length field
  pub most : length field ≤ 255
  pub encoded : Encoded field
  pub written : s ≡ framed class instruction p1 p2 field with_le
