-- Document 01, 'Reading a command', 'Create', from the writer's side: the bytes of the INSTALL data field as Tables 9 and 10 of 000 have
-- them. Reading a window that holds such bytes gives AID and quota back, and whatever is accepted is so encoded.
use Rattle.std.specs.Prelude.{Some, ℕ, ◌+◌, ◌*◌, ◌≤◌, ◌≡◌, List, [], ◌∷◌, ◌++◌, length}
use Rattle.std.proofs.Math.Option.{some}
use Rattle.read_tlv.specs.Encoding.{window, Bytes, encode_length, encode_element}
use Rattle.read_tlv.specs.Filled.{Filled}
use Rattle.read_fields.specs.Grammar.{Created, Wanted, create, found_as, ReadFrom}
use Rattle.read_install.specs.Parameters.{parameters_at}
use Rattle.read_install.specs.Install.{install_of}

-- a field after its length
unfoldable pub encode_prefixed : List ℕ → List ℕ
encode_prefixed value = encode_length (length value) ++ value

-- 81, n occurrences
unfoldable pub encode_protocols : List (List ℕ) → List ℕ
encode_protocols [] = []
encode_protocols (value ∷ values) = encode_element 0x81 value ++ encode_protocols values

-- what a create has beside AID and quota; the quota's bytes are 2 or 4; only lengths are tested (decision 12)
pub record Free : Type 0 where
  pub load_file : List ℕ
  pub module_aid : List ℕ
  pub privileges : List ℕ
  pub protocols : List (List ℕ)
  pub memory : List ℕ

-- C9, then EF with 83
unfoldable pub encode_parameters : Free → List ℕ
encode_parameters free =
    encode_element 0xC9 (encode_protocols free.protocols) ++ encode_element 0xEF (encode_element 0x83 free.memory)

-- load file AID, module AID, ISD-P AID
unfoldable pub encode_names : List ℕ → Free → List ℕ
encode_names aid free = encode_prefixed free.load_file ++ (encode_prefixed free.module_aid ++ encode_prefixed aid)

-- privileges, install parameters, token
unfoldable pub encode_rights : Free → List ℕ
encode_rights free = encode_prefixed free.privileges ++ (encode_prefixed (encode_parameters free) ++ encode_prefixed [])

unfoldable pub encode_install : List ℕ → Free → List ℕ
encode_install aid free = encode_names aid free ++ encode_rights free

-- "high byte first": the number of some bytes after those that gave `number`
unfoldable pub high_first : ℕ → List ℕ → ℕ
high_first number [] = number
high_first number (first ∷ rest) = high_first (number * 256 + first) rest

-- `low` to `high` bytes
pub record Sized (low high : ℕ) (value : List ℕ) : Type 0 where
  pub least : low ≤ length value
  pub most : length value ≤ high

-- `low` bytes, or two more: "1 or 3 bytes", "2 or 4 bytes"
pub record OrTwoMore (low : ℕ) (value : List ℕ) : Type 0 where
  pub least : low ≤ length value
  pub most : length value ≤ low + 2
  pub not_between : length value ≡ low + 1 → ⊥

abbrev pub AllPairs : List (List ℕ) → Type 0
AllPairs [] = Unit
AllPairs (value ∷ values) = (length value ≡ 2) × AllPairs values

pub record LegalParameters (capacity quota : ℕ) (free : Free) : Type 0 where
  pub pairs : AllPairs free.protocols
  pub listed : Sized 1 255 (encode_protocols free.protocols)
  pub counted : OrTwoMore 2 free.memory
  pub number : quota ≡ high_first 0 free.memory
  pub granted : 1 ≤ quota
  pub fits : quota ≤ capacity

pub record EncodesInstall (capacity : ℕ) (aid : List ℕ) (quota : ℕ) (bytes : List ℕ) : Type 0 where
  pub free : Free
  pub loaded : Sized 5 16 free.load_file
  pub moduled : Sized 5 16 free.module_aid
  pub named : Sized 5 16 aid
  pub privileged : OrTwoMore 1 free.privileges
  pub parameters : LegalParameters capacity quota free
  pub short : length (encode_parameters free) ≤ 255
  pub written : bytes ≡ encode_install aid free

abbrev pub EncodesCreated : ℕ → Created → List ℕ → Type 0
EncodesCreated capacity v bytes = EncodesInstall capacity v.aid v.quota bytes

-- reading an encoded field gives it back
abbrev pub InstallBack : Type 0
InstallBack = (s : List ℕ) (at end capacity : ℕ) (v : Created) → at ≤ end → end ≤ length s → EncodesCreated capacity v (window s at end)
    → found_as s (install_of s at end capacity) ≡ some (create v)

-- whatever is accepted is the encoding of what was read
abbrev pub InstallWritten : Type 0
InstallWritten = (s : List ℕ) (at end capacity : ℕ) (w : Wanted) → Bytes s → found_as s (install_of s at end capacity) ≡ some w
    → ReadFrom create (EncodesCreated capacity) s at end w

-- accepted install parameters are a list of elements
abbrev pub ParametersFilled : Type 0
ParametersFilled = (s : List ℕ) (at end capacity number : ℕ) → Some number ≡ parameters_at s at end capacity → Filled s 1 at end
