-- Bytes of each command, read back by computing: what is read was so written.
use mathlib.Core.Path.{◌≡◌, refl}
use Prim.Native.Nat.{ℕ}
use mathlib.Core.List.{List, [], ◌∷◌, ◌++◌}
use mathlib.Core.Bool.{true}
use mathlib.Core.Option.{some}
use Rattle.base_status.specs.Rows.{word_of}
use Rattle.base_choice.specs.Choice.{pick, at_most, is_below, is_same}
use Rattle.read_tlv.specs.Lists.{list_wrong, list_at, list_within, list_of, element_of, rest_after, element_closed}
use Rattle.read_tlv.specs.Tlv.{tag_at, length_at, after_length, after_tag, head_at, expect_of, expect_at}
use Rattle.read_tlv.specs.Encoding.{window}
use Rattle.read_elements.specs.Reader.{alone_at}
use Rattle.read_fields.specs.Delete.{verification_at, deletion_at}
use Rattle.read_fields.specs.GetStatus.{tags_at, listing_at}
use Rattle.read_fields.specs.StoreData.{dgi_at, request_named, confirmation_at, store_data_at}
use Rattle.read_fields.specs.Grammar.{Wanted}
use Rattle.read_install.specs.Parameters.{protocols_within, protocols_at, number_at, grant_of, memory_at, parameters_at}
use Rattle.read_install.specs.Install.{prefixed_of, prefixed_at, names_at, rights_at, install_of}
use Rattle.read_frame.specs.Framing.{length_wrong, class_right, class_wrong, instruction_wrong, parameters_right, parameters_wrong, shape_right, shape_wrong}
use Rattle.read_command.specs.Requests.{field_of, data_wrong}
use Rattle.read_command.specs.Reading.{read_of}
use Rattle.read_command.specs.Grammar.{read_as}
use Rattle.read_operator.specs.Field.{policy_at, policy_of}
use Rattle.read_operator.specs.Reading.{not_store_data, policy_wrong, update_of}
use Rattle.read_operator.proofs.UpdateGrammar.{update-written}
use Rattle.rule_responses.specs.Worked.{aid_ending}
use Rattle.proof_demands.specs.CallLaws.{IsWritten, EveryCallMet}
use Rattle.proof_demands.proofs.HypothesesMet.{small_bytes, bytes_of, encodes}

is-written : (s : List ℕ) (w : Wanted) → small_bytes s ≡ true → read_as s (read_of s 1000) ≡ some w → IsWritten w
is-written s w b e = (s, encodes s 1000 w b e)

-- a DGI with an AID, a deletion
abbrev storing : ℕ → List ℕ
storing dgi = 0x80 ∷ 0xE2 ∷ 0x88 ∷ 0x00 ∷ 0x0A ∷ 0x3A ∷ dgi ∷ 0x07 ∷ 0x4F ∷ 0x05 ∷ aid_ending 2

abbrev updating : List ℕ
updating = 0x80 ∷ 0xE2 ∷ 0x88 ∷ 0x00 ∷ 0x06 ∷ 0x3A ∷ 0x06 ∷ 0x03 ∷ 0x81 ∷ 0x01 ∷ 0x02 ∷ []

pub every-call-met : EveryCallMet
unfolding update_of policy_of policy_at policy_wrong not_store_data read_of word_of window length_wrong class_right class_wrong instruction_wrong parameters_right parameters_wrong shape_right shape_wrong field_of data_wrong pick at_most is_below is_same tag_at length_at after_length after_tag head_at expect_of expect_at alone_at verification_at deletion_at tags_at listing_at dgi_at request_named confirmation_at store_data_at protocols_within protocols_at number_at grant_of memory_at parameters_at prefixed_of prefixed_at names_at rights_at install_of list_wrong list_at list_within list_of element_of rest_after element_closed
every-call-met =
    record {
      create = is-written (0x80 ∷ 0xE6 ∷ 0x0C ∷ 0x00 ∷ 0x22 ∷ 5 ∷ (aid_ending 2 ++ 5 ∷ (aid_ending 2 ++ 5 ∷ (aid_ending 5 ++ 1 ∷ 0x80 ∷ 0x0C ∷ 0xC9 ∷ 4 ∷ 0x81 ∷ 2 ∷ 3 ∷ 0x70 ∷ 0xEF ∷ 4 ∷ 0x83 ∷ 2 ∷ 0x02 ∷ 0x58 ∷ 0 ∷ [])))) _ refl refl;
      enable = is-written (storing 0x03) _ refl refl;
      disable = is-written (storing 0x04) _ refl refl;
      delete = is-written (0x80 ∷ 0xE4 ∷ 0x00 ∷ 0x40 ∷ 0x07 ∷ 0x4F ∷ 0x05 ∷ aid_ending 2) _ refl refl;
      master-delete = is-written (0x80 ∷ 0xE4 ∷ 0x00 ∷ 0x40 ∷ 0x19 ∷ 0x4F ∷ 0x05 ∷ (aid_ending 2 ++ 0xB6 ∷ 0x0D ∷ 0x42 ∷ 1 ∷ 1 ∷ 0x45 ∷ 1 ∷ 2 ∷ 0x5F ∷ 0x20 ∷ 1 ∷ 3 ∷ 0x93 ∷ 1 ∷ 4 ∷ 0x9E ∷ 1 ∷ 0x55 ∷ [])) _ refl refl;
      set-fall-back = is-written (storing 0x05) _ refl refl;
      confirmation = is-written (0x80 ∷ 0xE2 ∷ 0x89 ∷ 0x00 ∷ 0x07 ∷ 0x3A ∷ 0x08 ∷ 0x04 ∷ 0x4E ∷ 0x02 ∷ 0 ∷ 1 ∷ 0x00 ∷ []) _ refl refl;
      status-of-all = is-written (0x80 ∷ 0xF2 ∷ 0x40 ∷ 0x02 ∷ 0x02 ∷ 0x4F ∷ 0x00 ∷ 0x00 ∷ []) _ refl refl;
      status-of-next = is-written (0x80 ∷ 0xF2 ∷ 0x40 ∷ 0x03 ∷ 0x02 ∷ 0x4F ∷ 0x00 ∷ 0x00 ∷ []) _ refl refl;
      status-of-one = is-written (0x80 ∷ 0xF2 ∷ 0x40 ∷ 0x02 ∷ 0x07 ∷ 0x4F ∷ 0x05 ∷ aid_ending 2) _ refl refl;
      get-data = is-written (0x80 ∷ 0xCA ∷ 0xFF ∷ 0x21 ∷ 0x00 ∷ []) _ refl refl;
      set-policy = (updating, update-written updating 2 (bytes_of updating refl) refl);
    }
