-- A policy update from the writer's side: its string for every policy, class, P1 that is right, and Le or not. Reading such a string
-- gives the policy back, and whatever is accepted is such a string.
use Rattle.std.specs.Prelude.{ℕ, ◌+◌, ◌≡◌, List, [], ◌∷◌, Ok}
use Rattle.read_tlv.specs.Filled.{Filled}
use Rattle.read_tlv.specs.Encoding.{Bytes, encode_element}
use Rattle.read_fields.specs.Grammar.{encode_dgi}
use Rattle.read_frame.specs.Framing.{data_end}
use Rattle.read_frame.specs.Frame.{Framed}
use Rattle.read_operator.specs.Reading.{update_of}

-- Table 69
abbrev pub encode_policy : ℕ → List ℕ
encode_policy policy = encode_dgi 0x3A06 (encode_element 0x81 (policy ∷ []))

abbrev pub EncodesUpdate : ℕ → List ℕ → Type 0
EncodesUpdate policy s = Framed 0xE2 (λ field. field ≡ encode_policy policy) s

-- reading an encoded update gives it back
abbrev pub UpdateBack : Type 0
UpdateBack = (s : List ℕ) (policy : ℕ) → EncodesUpdate policy s → Ok policy ≡ update_of s

-- whatever is accepted is the encoding of what was read
abbrev pub UpdateWritten : Type 0
UpdateWritten = (s : List ℕ) (policy : ℕ) → Bytes s → Ok policy ≡ update_of s → EncodesUpdate policy s

-- what is accepted is, after its DGI, a list of elements
abbrev pub UpdateFilled : Type 0
UpdateFilled = (s : List ℕ) (policy : ℕ) → Ok policy ≡ update_of s → Filled s 1 (5 + 3) (data_end s)
