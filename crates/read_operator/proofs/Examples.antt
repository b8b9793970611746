-- Worked strings, by computing: policy updates that are read, and one or more that each row refuses.
use Prim.Native.Nat.{ℕ}
use mathlib.Core.Path.{◌≡◌, refl}
use mathlib.Core.List.{List, [], ◌∷◌, ◌++◌, map}
use lib.ListN.{length, replicate}
use Rattle.std.specs.Prelude.{Ok, Err}
use Rattle.base_status.specs.Rows.{word_of}
use Rattle.base_status.specs.declared.Status.{Status}
use Rattle.base_status.specs.declared.Status.TheVariants as status
use Rattle.base_choice.specs.Choice.{pick, at_most, is_below, is_same}
use Rattle.read_tlv.specs.Tlv.{tag_at, length_at, after_length, after_tag, head_at, expect_of, expect_at}
use Rattle.read_tlv.specs.Lists.{list_wrong, list_at, list_within, list_of, element_of, rest_after, element_closed}
use Rattle.read_elements.specs.Reader.{alone_at}
use Rattle.read_fields.specs.StoreData.{dgi_at}
use Rattle.read_frame.specs.Framing.{length_wrong, class_right, class_wrong, parameters_right, parameters_wrong, shape_right, shape_wrong}
use Rattle.read_operator.specs.Field.{policy_at, policy_of}
use Rattle.read_operator.specs.Reading.{not_store_data, policy_wrong, update_of, Update}

record Example : Type 0 where
  bytes : List ℕ
  answer : Update

abbrev reads : ℕ → List ℕ → Example
reads policy bytes = record { bytes = bytes; answer = Ok policy }

abbrev refuses : Status → List ℕ → Example
refuses word bytes = record { bytes = bytes; answer = Err word }

-- DGI 3A06, and in it 81 with the policy 02
abbrev field : List ℕ
field = 0x3A ∷ 0x06 ∷ 0x03 ∷ 0x81 ∷ 0x01 ∷ 0x02 ∷ []

-- a STORE DATA of this data field, its Lc right
abbrev storing : List ℕ → List ℕ
storing bytes = 0x80 ∷ 0xE2 ∷ 0x88 ∷ 0x00 ∷ length bytes ∷ bytes

abbrev taken : List Example
taken =
    reads 0x02 (0x80 ∷ 0xE2 ∷ 0x88 ∷ 0x00 ∷ 0x06 ∷ 0x3A ∷ 0x06 ∷ 0x03 ∷ 0x81 ∷ 0x01 ∷ 0x02 ∷ [])
    -- with Le 00; the last P1; each range of classes
    ∷ reads 0x02 (0x80 ∷ 0xE2 ∷ 0x88 ∷ 0x00 ∷ 0x06 ∷ (field ++ 0x00 ∷ []))
    ∷ reads 0x02 (0x80 ∷ 0xE2 ∷ 0x8F ∷ 0x00 ∷ 0x06 ∷ field)
    ∷ reads 0x02 (0x84 ∷ 0xE2 ∷ 0x88 ∷ 0x00 ∷ 0x06 ∷ field)
    ∷ reads 0x02 (0xC0 ∷ 0xE2 ∷ 0x88 ∷ 0x00 ∷ 0x06 ∷ field)
    ∷ reads 0x02 (0xEF ∷ 0xE2 ∷ 0x88 ∷ 0x00 ∷ 0x06 ∷ field)
    -- every byte is a policy here: whether it is legal is asked later
    ∷ reads 0x00 (storing (0x3A ∷ 0x06 ∷ 0x03 ∷ 0x81 ∷ 0x01 ∷ 0x00 ∷ []))
    ∷ reads 0x05 (storing (0x3A ∷ 0x06 ∷ 0x03 ∷ 0x81 ∷ 0x01 ∷ 0x05 ∷ []))
    ∷ reads 0x06 (storing (0x3A ∷ 0x06 ∷ 0x03 ∷ 0x81 ∷ 0x01 ∷ 0x06 ∷ []))
    ∷ reads 0xFF (storing (0x3A ∷ 0x06 ∷ 0x03 ∷ 0x81 ∷ 0x01 ∷ 0xFF ∷ []))
    ∷ []

abbrev misframed : List Example
misframed =
    refuses status.LengthWrong []
    ∷ refuses status.LengthWrong (0x80 ∷ 0xE2 ∷ 0x88 ∷ [])
    ∷ refuses status.LengthWrong (replicate 262 0x90)
    ∷ refuses status.ClassWrong (replicate 261 0x90)
    ∷ refuses status.ClassWrong (0x90 ∷ 0xE2 ∷ 0x88 ∷ 0x00 ∷ 0x06 ∷ field)
    -- the root domain's other instructions, with their own parameters
    ∷ refuses status.InstructionWrong (0x80 ∷ 0xE4 ∷ 0x00 ∷ 0x40 ∷ 0x06 ∷ field)
    ∷ refuses status.InstructionWrong (0x80 ∷ 0xE6 ∷ 0x0C ∷ 0x00 ∷ 0x06 ∷ field)
    ∷ refuses status.InstructionWrong (0x80 ∷ 0xF2 ∷ 0x40 ∷ 0x02 ∷ 0x02 ∷ 0x4F ∷ 0x00 ∷ 0x00 ∷ [])
    ∷ refuses status.InstructionWrong (0x80 ∷ 0xCA ∷ 0xFF ∷ 0x21 ∷ 0x00 ∷ [])
    ∷ refuses status.ParametersWrong (0x80 ∷ 0xE2 ∷ 0x87 ∷ 0x00 ∷ 0x06 ∷ field)
    ∷ refuses status.ParametersWrong (0x80 ∷ 0xE2 ∷ 0x90 ∷ 0x00 ∷ 0x06 ∷ field)
    ∷ refuses status.ParametersWrong (0x80 ∷ 0xE2 ∷ 0x88 ∷ 0x01 ∷ 0x06 ∷ field)
    -- Lc one short, one long, none; Le 01
    ∷ refuses status.LengthWrong (0x80 ∷ 0xE2 ∷ 0x88 ∷ 0x00 ∷ 0x05 ∷ field)
    ∷ refuses status.LengthWrong (0x80 ∷ 0xE2 ∷ 0x88 ∷ 0x00 ∷ 0x07 ∷ field)
    ∷ refuses status.LengthWrong (0x80 ∷ 0xE2 ∷ 0x88 ∷ 0x00 ∷ 0x00 ∷ [])
    ∷ refuses status.LengthWrong (0x80 ∷ 0xE2 ∷ 0x88 ∷ 0x00 ∷ [])
    ∷ refuses status.LengthWrong (0x80 ∷ 0xE2 ∷ 0x88 ∷ 0x00 ∷ 0x06 ∷ (field ++ 0x01 ∷ []))
    ∷ []

-- each of these data fields is 6A 80
abbrev wrong_fields : List (List ℕ)
wrong_fields =
    -- the root domain's DGIs, with its element or with this one
    (0x3A ∷ 0x05 ∷ 0x07 ∷ 0x4F ∷ 0x05 ∷ 0xA0 ∷ 0 ∷ 0 ∷ 0 ∷ 2 ∷ [])
    ∷ (0x3A ∷ 0x05 ∷ 0x03 ∷ 0x81 ∷ 0x01 ∷ 0x02 ∷ [])
    ∷ (0x3A ∷ 0x03 ∷ 0x03 ∷ 0x81 ∷ 0x01 ∷ 0x02 ∷ [])
    ∷ (0x3A ∷ 0x08 ∷ 0x03 ∷ 0x81 ∷ 0x01 ∷ 0x02 ∷ [])
    -- 81 empty, of two bytes, twice, another tag, none
    ∷ (0x3A ∷ 0x06 ∷ 0x02 ∷ 0x81 ∷ 0x00 ∷ [])
    ∷ (0x3A ∷ 0x06 ∷ 0x04 ∷ 0x81 ∷ 0x02 ∷ 0x00 ∷ 0x02 ∷ [])
    ∷ (0x3A ∷ 0x06 ∷ 0x06 ∷ 0x81 ∷ 0x01 ∷ 0x02 ∷ 0x81 ∷ 0x01 ∷ 0x02 ∷ [])
    ∷ (0x3A ∷ 0x06 ∷ 0x03 ∷ 0x80 ∷ 0x01 ∷ 0x02 ∷ [])
    ∷ (0x3A ∷ 0x06 ∷ 0x00 ∷ [])
    -- a stray byte after the element, and after the DGI; the DGI's length one short and one long
    ∷ (0x3A ∷ 0x06 ∷ 0x04 ∷ 0x81 ∷ 0x01 ∷ 0x02 ∷ 0x00 ∷ [])
    ∷ (0x3A ∷ 0x06 ∷ 0x03 ∷ 0x81 ∷ 0x01 ∷ 0x02 ∷ 0x00 ∷ [])
    ∷ (0x3A ∷ 0x06 ∷ 0x02 ∷ 0x81 ∷ 0x01 ∷ 0x02 ∷ [])
    ∷ (0x3A ∷ 0x06 ∷ 0x04 ∷ 0x81 ∷ 0x01 ∷ 0x02 ∷ [])
    ∷ (0x3A ∷ 0x06 ∷ [])
    ∷ []

abbrev examples : List Example
examples =
    taken
    ++ (misframed
    -- Lc one short where the policy is 00: it is taken for Le, and the DGI does not fill what is left
    ++ refuses status.DataWrong (0x80 ∷ 0xE2 ∷ 0x88 ∷ 0x00 ∷ 0x05 ∷ 0x3A ∷ 0x06 ∷ 0x03 ∷ 0x81 ∷ 0x01 ∷ 0x00 ∷ [])
    ∷ map (λ (bytes : List ℕ). refuses status.DataWrong (storing bytes)) wrong_fields)

worked : map (λ (e : Example). update_of e.bytes) examples ≡ map (λ (e : Example). e.answer) examples
unfolding update_of word_of length_wrong class_right class_wrong not_store_data parameters_right parameters_wrong shape_right shape_wrong policy_of policy_at policy_wrong pick at_most is_below is_same list_wrong list_at list_within list_of element_of rest_after element_closed tag_at length_at after_length after_tag head_at expect_of expect_at alone_at dgi_at
worked = refl
