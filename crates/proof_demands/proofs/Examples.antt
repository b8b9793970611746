-- Document 01, 'Marked examples', by computing. Assumes nothing.
use mathlib.Core.Path.{refl}
use Rattle.base_bytes.specs.Bytes.{same_bytes}
use Rattle.base_status.specs.Rows.{word_of}
use Rattle.card_isdp.specs.Aids.{padded}
use Rattle.card_isdp.specs.Place.{is_for, clash, zeros, place_ok}
use Rattle.card_places.specs.Places.{seek, quotas, all_of, any_of, count_of, distinct, all_off, enable_at}
use Rattle.card_record.specs.Sound.{phase_ok, sound}
use Rattle.card_record.specs.Clock.{tick_of, without_network, confirm_of}
use Rattle.card_record.specs.Steps.{tick_step, lost_step, confirm_step}
use Rattle.card_record.specs.Notifications.{notice_since}
use Rattle.card_record.specs.Ticks.{steps_in, ticks_to_come}
use Rattle.card_record.specs.Answers.{refused, accepted}
use Rattle.card_record.specs.Fresh.{fresh_outcome}
use Rattle.base_choice.specs.Choice.{pick, at_most, is_below, is_same}
use Rattle.read_tlv.specs.Lists.{list_wrong, list_at, list_within, list_of, element_of, rest_after, element_closed}
use Rattle.read_tlv.specs.Tlv.{tag_at, length_at, after_length, after_tag, head_at, expect_of, expect_at}
use Rattle.read_elements.specs.Reader.{alone_at}
use Rattle.read_fields.specs.StoreData.{dgi_at, confirmation_at, request_named, store_data_at}
use Rattle.read_fields.specs.Delete.{verification_at, deletion_at}
use Rattle.read_fields.specs.GetStatus.{tag_noted, listed_within, listed_at, tags_at, listing_at}
use Rattle.read_install.specs.Parameters.{protocols_within, protocols_at, number_at, grant_of, memory_at, parameters_at}
use Rattle.read_install.specs.Install.{prefixed_of, prefixed_at, names_at, rights_at, install_of}
use Rattle.read_frame.specs.Framing.{length_wrong, class_right, class_wrong, instruction_wrong, parameters_right, parameters_wrong, shape_right, shape_wrong}
use Rattle.read_command.specs.Requests.{field_of, data_wrong}
use Rattle.rule_responses.specs.Responses.{status_body, status_row, row_of, part_from, next_row_from, part_given, next_row_after, one_status, data_response, deleted_response}
use Rattle.rule_run.specs.Step.{step, step_by, run}
use Rattle.rule_run.specs.Samples.{creates, created, fresh}
use Rattle.proof_demands.specs.Examples.{all_seen, all_expected, MarkedExamples}

pub marked-examples : MarkedExamples
unfolding all_seen all_expected creates created fresh step_by run word_of same_bytes padded is_for clash zeros place_ok seek quotas all_of any_of count_of distinct all_off enable_at phase_ok sound tick_of without_network confirm_of tick_step lost_step confirm_step notice_since steps_in ticks_to_come refused accepted fresh_outcome pick at_most is_below is_same tag_at length_at after_length after_tag head_at expect_of expect_at alone_at dgi_at confirmation_at request_named store_data_at verification_at deletion_at tag_noted listed_within listed_at tags_at listing_at protocols_within protocols_at number_at grant_of memory_at parameters_at prefixed_of prefixed_at names_at rights_at install_of length_wrong class_right class_wrong instruction_wrong parameters_right parameters_wrong shape_right shape_wrong field_of data_wrong status_body status_row row_of part_from next_row_from part_given next_row_after one_status data_response deleted_response list_wrong list_at list_within list_of element_of rest_after element_closed
marked-examples = refl
