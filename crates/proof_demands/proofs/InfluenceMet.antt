-- The hypotheses of the statements are met by a run from fresh, and their figures are not all zero. By computing. Assumes nothing.
use mathlib.Core.Path.{refl}
use Rattle.base_bytes.specs.Bytes.{same_bytes}
use Rattle.base_status.specs.Rows.{word_of}
use Rattle.card_isdp.specs.Aids.{padded}
use Rattle.card_isdp.specs.Place.{is_for, clash, zeros, place_ok}
use Rattle.card_places.specs.Places.{seek, quotas, all_of, any_of, count_of, distinct, all_off, enable_at}
use Rattle.card_record.specs.Clock.{tick_of, without_network, confirm_of}
use Rattle.card_record.specs.Sound.{phase_ok, sound}
use Rattle.card_record.specs.Steps.{tick_step, lost_step, confirm_step}
use Rattle.card_record.specs.Answers.{accepted, refused}
use Rattle.card_record.specs.Fresh.{fresh_outcome}
use Rattle.base_choice.specs.Choice.{pick, at_most, is_below, is_same}
use Rattle.read_tlv.specs.Lists.{list_wrong, list_at, list_within, list_of, element_of, rest_after, element_closed}
use Rattle.read_tlv.specs.Tlv.{tag_at, length_at, after_length, after_tag, head_at, expect_of, expect_at}
use Rattle.read_elements.specs.Reader.{alone_at}
use Rattle.read_fields.specs.StoreData.{dgi_at, confirmation_at, request_named, store_data_at}
use Rattle.read_install.specs.Parameters.{protocols_within, protocols_at, number_at, grant_of, memory_at, parameters_at}
use Rattle.read_install.specs.Install.{prefixed_of, prefixed_at, names_at, rights_at, install_of}
use Rattle.read_frame.specs.Framing.{length_wrong, class_right, class_wrong, instruction_wrong, parameters_right, parameters_wrong, shape_right, shape_wrong}
use Rattle.read_command.specs.Requests.{field_of, data_wrong}
use Rattle.rule_responses.specs.Responses.{deleted_response}
use Rattle.rule_run.specs.Step.{step, step_by, run}
use Rattle.proof_demands.specs.Said.{exchanges}
use Rattle.rule_run.specs.Samples.{fresh}
use Rattle.proof_demands.specs.Influence.{none_fills, UsedBytesMet}
use Rattle.proof_demands.specs.Others.{OthersMet}
use Rattle.proof_demands.specs.Free.{without, history, room, FreeMet}

pub met : UsedBytesMet × OthersMet × FreeMet
unfolding word_of same_bytes padded is_for clash zeros place_ok seek quotas all_of any_of count_of distinct all_off enable_at tick_of without_network confirm_of phase_ok sound tick_step lost_step confirm_step accepted refused fresh_outcome pick at_most is_below is_same tag_at length_at after_length after_tag head_at expect_of expect_at alone_at dgi_at confirmation_at request_named store_data_at protocols_within protocols_at number_at grant_of memory_at parameters_at prefixed_of prefixed_at names_at rights_at install_of length_wrong class_right class_wrong instruction_wrong parameters_right parameters_wrong shape_right shape_wrong field_of data_wrong deleted_response step_by run exchanges none_fills without history fresh room list_wrong list_at list_within list_of element_of rest_after element_closed
met = (
  record { five = refl; one-sound = refl; other-sound = refl; spared = refl },
  record { there = refl; target = refl; other = refl; stays = refl; goes = refl },
  record { accepted = refl; three = refl; two-left = refl },
)
