-- Worked strings, by computing: the commands of document 01's marked examples 1 to 4, and one of each other kind (worked by hand from the tables of 000).
use Prim.Native.Nat.{ℕ}
use mathlib.Core.Path.{◌≡◌, refl}
use mathlib.Core.List.{List, [], ◌∷◌, ◌++◌, map}
use mathlib.Core.Bool.{true, false}
use Rattle.std.specs.Prelude.{Ok, Err}
use Rattle.base_status.specs.Rows.{word_of}
use Rattle.base_status.specs.declared.Status.TheVariants as status
use Rattle.base_choice.specs.Choice.{pick, at_most, is_below, is_same}
use Rattle.read_tlv.specs.Tlv.{tag_at, length_at, after_length, after_tag, head_at, expect_of, expect_at}
use Rattle.read_tlv.specs.Lists.{list_wrong, list_at, list_within, list_of, element_of, rest_after, element_closed}
use Rattle.read_elements.specs.Reader.{alone_at}
use Rattle.read_fields.specs.StoreData.{dgi_at, confirmation_at, request_named, store_data_at}
use Rattle.read_fields.specs.Delete.{verification_at, deletion_at}
use Rattle.read_fields.specs.GetStatus.{tags_shown, tag_noted, listed_within, listed_at, tags_at, listing_at}
use Rattle.read_install.specs.Parameters.{protocols_within, protocols_at, number_at, grant_of, memory_at, parameters_at}
use Rattle.read_install.specs.Install.{prefixed_of, prefixed_at, names_at, rights_at, install_of}
use Rattle.read_fields.specs.declared.request.Request.TheVariants as request
use Rattle.read_frame.specs.Framing.{length_wrong, class_right, class_wrong, instruction_wrong, parameters_right, parameters_wrong, shape_right, shape_wrong}
use Rattle.read_command.specs.Requests.{field_of, data_wrong}
use Rattle.read_command.specs.Reading.{read_of, Reading}

record Example : Type 0 where
  bytes : List ℕ
  answer : Reading

abbrev aid : List ℕ
aid = 0xA0 ∷ 0 ∷ 0 ∷ 0 ∷ 2 ∷ []

abbrev examples : List Example
examples =
    record { bytes = 0x80 ∷ 0xF2 ∷ 0x40 ∷ 0x02 ∷ 0x02 ∷ 0x4F ∷ 0x00 ∷ 0x00 ∷ []; answer = Ok (request.GetStatusOfAll false (tags_shown true true)) }
    -- P2 03 goes on, and with an AID named it is 6A 80; 01 and 04 are 6A 86
    ∷ record { bytes = 0x80 ∷ 0xF2 ∷ 0x40 ∷ 0x03 ∷ 0x02 ∷ 0x4F ∷ 0x00 ∷ 0x00 ∷ []; answer = Ok (request.GetStatusOfAll true (tags_shown true true)) }
    ∷ record { bytes = 0x80 ∷ 0xF2 ∷ 0x40 ∷ 0x03 ∷ 0x05 ∷ 0x4F ∷ 0x00 ∷ 0x5C ∷ 0x01 ∷ 0x53 ∷ []; answer = Ok (request.GetStatusOfAll true (tags_shown false true)) }
    ∷ record { bytes = 0x80 ∷ 0xF2 ∷ 0x40 ∷ 0x03 ∷ 0x07 ∷ 0x4F ∷ 0x05 ∷ aid; answer = Err status.DataWrong }
    ∷ record { bytes = 0x80 ∷ 0xF2 ∷ 0x40 ∷ 0x02 ∷ 0x07 ∷ 0x4F ∷ 0x05 ∷ aid; answer = Ok (request.GetStatusOfOne (record { start = 7; len = 5 }) (tags_shown true true)) }
    ∷ record { bytes = 0x80 ∷ 0xF2 ∷ 0x40 ∷ 0x01 ∷ 0x02 ∷ 0x4F ∷ 0x00 ∷ 0x00 ∷ []; answer = Err status.ParametersWrong }
    ∷ record { bytes = 0x80 ∷ 0xF2 ∷ 0x40 ∷ 0x04 ∷ 0x02 ∷ 0x4F ∷ 0x00 ∷ 0x00 ∷ []; answer = Err status.ParametersWrong }
    ∷ record { bytes = 0x80 ∷ 0xE2 ∷ 0x88 ∷ 0x00 ∷ 0x0A ∷ 0x3A ∷ 0x05 ∷ 0x07 ∷ 0x4F ∷ 0x05 ∷ aid; answer = Ok (request.SetFallBack (record { start = 10; len = 5 })) }
    ∷ record { bytes = 0x80 ∷ 0xE2 ∷ 0x87 ∷ 0x00 ∷ 0x0A ∷ 0x3A ∷ 0x05 ∷ 0x07 ∷ 0x4F ∷ 0x05 ∷ aid; answer = Err status.ParametersWrong }
    ∷ record { bytes = 0x80 ∷ 0xE2 ∷ 0x88 ∷ 0x00 ∷ 0x09 ∷ 0x3A ∷ 0x05 ∷ 0x07 ∷ 0x4F ∷ 0x05 ∷ aid; answer = Err status.LengthWrong }
    ∷ record { bytes = 0x80 ∷ 0xE2 ∷ 0x88 ∷ 0x00 ∷ 0x09 ∷ 0x3A ∷ 0x05 ∷ 0x06 ∷ 0x4F ∷ 0x04 ∷ 0xA0 ∷ 0 ∷ 0 ∷ 0 ∷ []; answer = Err status.DataWrong }
    ∷ record { bytes = 0x80 ∷ 0xE2 ∷ 0x87 ∷ 0x00 ∷ []; answer = Err status.ParametersWrong }
    ∷ record { bytes = 0x90 ∷ 0xE2 ∷ 0x87 ∷ 0x00 ∷ []; answer = Err status.ClassWrong }
    ∷ record { bytes = 0xEF ∷ 0xE3 ∷ 0x87 ∷ 0x00 ∷ []; answer = Err status.InstructionWrong }
    ∷ record { bytes = 0x80 ∷ 0xE2 ∷ 0x88 ∷ []; answer = Err status.LengthWrong }
    ∷ record { bytes = 0x80 ∷ 0xE2 ∷ 0x8F ∷ 0x00 ∷ 0x07 ∷ 0x3A ∷ 0x08 ∷ 0x04 ∷ 0x4E ∷ 0x02 ∷ 0x01 ∷ 0x02 ∷ 0x00 ∷ []; answer = Ok (request.Confirm 258) }
    ∷ record { bytes = 0xC0 ∷ 0xE4 ∷ 0x00 ∷ 0x40 ∷ 0x07 ∷ 0x4F ∷ 0x05 ∷ (aid ++ 0x00 ∷ []); answer = Ok (request.Delete (record { start = 7; len = 5 })) }
    ∷ record { bytes = 0x80 ∷ 0xE4 ∷ 0x00 ∷ 0x40 ∷ 0x19 ∷ 0x4F ∷ 0x05 ∷ (aid ++ 0xB6 ∷ 0x0D ∷ 0x42 ∷ 1 ∷ 1 ∷ 0x45 ∷ 1 ∷ 2 ∷ 0x5F ∷ 0x20 ∷ 1 ∷ 3 ∷ 0x93 ∷ 1 ∷ 4 ∷ 0x9E ∷ 1 ∷ 5 ∷ []); answer = Ok (request.MasterDelete (record { start = 7; len = 5 })) }
    ∷ record { bytes = 0x80 ∷ 0xCA ∷ 0xFF ∷ 0x21 ∷ 0x00 ∷ []; answer = Ok request.GetData }
    ∷ record { bytes = 0x80 ∷ 0xE6 ∷ 0x0C ∷ 0x00 ∷ 0x22 ∷ 5 ∷ (aid ++ 5 ∷ (aid ++ 5 ∷ (aid ++ 1 ∷ 0x80 ∷ 0x0C ∷ 0xC9 ∷ 4 ∷ 0x81 ∷ 2 ∷ 3 ∷ 0x70 ∷ 0xEF ∷ 4 ∷ 0x83 ∷ 2 ∷ 0 ∷ 50 ∷ 0 ∷ []))); answer = Ok (request.Create (record { start = 18; len = 5 }) 50) }
    -- the same with Lc one short: the token's length byte is taken for Le
    ∷ record { bytes = 0x80 ∷ 0xE6 ∷ 0x0C ∷ 0x00 ∷ 0x21 ∷ 5 ∷ (aid ++ 5 ∷ (aid ++ 5 ∷ (aid ++ 1 ∷ 0x80 ∷ 0x0C ∷ 0xC9 ∷ 4 ∷ 0x81 ∷ 2 ∷ 3 ∷ 0x70 ∷ 0xEF ∷ 4 ∷ 0x83 ∷ 2 ∷ 0 ∷ 50 ∷ 0 ∷ []))); answer = Err status.DataWrong }
    ∷ []

worked : map (λ (e : Example). read_of e.bytes 1000) examples ≡ map (λ (e : Example). e.answer) examples
unfolding read_of word_of length_wrong class_right class_wrong instruction_wrong parameters_right parameters_wrong shape_right shape_wrong field_of data_wrong pick at_most is_below is_same list_wrong list_at list_within list_of element_of rest_after element_closed tag_at length_at after_length after_tag head_at expect_of expect_at alone_at dgi_at confirmation_at request_named store_data_at verification_at deletion_at tag_noted listed_within listed_at tags_at listing_at protocols_within protocols_at number_at grant_of memory_at parameters_at prefixed_of prefixed_at names_at rights_at install_of
worked = refl
