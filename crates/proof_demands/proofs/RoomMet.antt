-- Downloads that break off, and the two engines that lose their room: on the fresh card of the examples, by computing. Assumes nothing.
use mathlib.Core.Path.{◌≡◌, refl, ap}
use Prim.Native.Nat.{ℕ}
use native.Mathlib.Omega.{arith}
use mathlib.Core.List.{List, []}
use mathlib.Core.Option.{some}
use mathlib.Core.Bool.{true, false≢true}
use Rattle.base_bytes.specs.Bytes.{same_bytes}
use Rattle.base_status.specs.Rows.{word_of}
use Rattle.base_status.specs.StatusWords.{is_done}
use Rattle.card_isdp.specs.Aids.{padded}
use Rattle.card_isdp.specs.Place.{is_for, clash, zeros, place_ok}
use Rattle.card_places.specs.Places.{seek, quotas, all_of, any_of, count_of, distinct, all_off, enable_at}
use Rattle.card_record.specs.Sound.{phase_ok, sound}
use Rattle.card_record.specs.Clock.{tick_of, without_network, confirm_of}
use Rattle.card_record.specs.Steps.{tick_step, lost_step, confirm_step}
use Rattle.card_record.specs.Notifications.{notice_since}
use Rattle.card_record.specs.Ticks.{steps_in, ticks_to_come}
use Rattle.card_record.specs.Answers.{refused, accepted}
use Rattle.card_record.specs.Fresh.{fresh_outcome}
use Rattle.card_record.specs.declared.Card.{Card}
use Rattle.base_choice.specs.Choice.{pick, at_most, is_below, is_same}
use Rattle.read_tlv.specs.Lists.{list_wrong, list_at, list_within, list_of, element_of, rest_after, element_closed}
use Rattle.read_tlv.specs.Tlv.{tag_at, length_at, after_length, after_tag, head_at, expect_of, expect_at}
use Rattle.read_tlv.specs.Encoding.{window}
use Rattle.read_elements.specs.Reader.{alone_at}
use Rattle.read_fields.specs.StoreData.{dgi_at, confirmation_at, request_named, store_data_at}
use Rattle.read_fields.specs.Delete.{verification_at, deletion_at}
use Rattle.read_fields.specs.GetStatus.{tag_noted, listed_within, listed_at, tags_at, listing_at}
use Rattle.read_fields.specs.Grammar.{Wanted}
use Rattle.read_install.specs.Parameters.{protocols_within, protocols_at, number_at, grant_of, memory_at, parameters_at}
use Rattle.read_install.specs.Install.{prefixed_of, prefixed_at, names_at, rights_at, install_of}
use Rattle.read_frame.specs.Framing.{length_wrong, class_right, class_wrong, instruction_wrong, parameters_right, parameters_wrong, shape_right, shape_wrong}
use Rattle.read_command.specs.Requests.{field_of, data_wrong}
use Rattle.read_command.specs.Grammar.{read_as}
use Rattle.read_command.specs.Reading.{read_of}
use Rattle.rule_responses.specs.Responses.{status_body, status_row, row_of, part_from, next_row_from, part_given, next_row_after, one_status, data_response, deleted_response}
use Rattle.rule_run.specs.Step.{step, step_by}
use Rattle.rule_run.specs.Samples.{command, fresh}
use Rattle.proof_demands.specs.Engines.{reached}
use Rattle.proof_demands.specs.Room.{inner_calls, Writes, Writes.commands, RoomMet, RoomLost}
use Rattle.proof_demands.proofs.HypothesesMet.{small_bytes, encodes}

writes : (s : List ℕ) (w : Wanted) → small_bytes s ≡ true → read_as s (read_of s 1000) ≡ some w → Writes 1000 w (command s)
writes s w b e = commands 0 s 256 (omega arith) (encodes s 1000 w b e)

pub room-met : RoomMet
unfolding fresh step_by word_of same_bytes padded is_for clash zeros place_ok seek quotas all_of any_of count_of distinct all_off enable_at phase_ok sound tick_of without_network confirm_of tick_step lost_step confirm_step notice_since steps_in ticks_to_come refused accepted fresh_outcome pick at_most is_below is_same tag_at length_at after_length after_tag head_at expect_of expect_at alone_at dgi_at confirmation_at request_named store_data_at verification_at deletion_at tag_noted listed_within listed_at tags_at listing_at protocols_within protocols_at number_at grant_of memory_at parameters_at prefixed_of prefixed_at names_at rights_at install_of length_wrong class_right class_wrong instruction_wrong parameters_right parameters_wrong shape_right shape_wrong field_of data_wrong status_body status_row row_of part_from next_row_from part_given next_row_after one_status data_response deleted_response list_wrong list_at list_within list_of element_of rest_after element_closed reached inner_calls read_of window
room-met =
    record {
      creates = writes _ _ refl refl;
      deletes = writes _ _ refl refl;
      accepted = refl;
      at_once = refl;
      after-keyed = refl;
      after-stored = refl;
    }

-- the fresh card's 100 bytes and the 50 that stay
pub room-lost : RoomLost
unfolding fresh step_by word_of same_bytes padded is_for clash zeros place_ok seek quotas all_of any_of count_of distinct all_off enable_at phase_ok sound tick_of without_network confirm_of tick_step lost_step confirm_step notice_since steps_in ticks_to_come refused accepted fresh_outcome pick at_most is_below is_same tag_at length_at after_length after_tag head_at expect_of expect_at alone_at dgi_at confirmation_at request_named store_data_at verification_at deletion_at tag_noted listed_within listed_at tags_at listing_at protocols_within protocols_at number_at grant_of memory_at parameters_at prefixed_of prefixed_at names_at rights_at install_of length_wrong class_right class_wrong instruction_wrong parameters_right parameters_wrong shape_right shape_wrong field_of data_wrong status_body status_row row_of part_from next_row_from part_given next_row_after one_status data_response deleted_response list_wrong list_at list_within list_of element_of rest_after element_closed reached inner_calls read_of window
room-lost =
    record {
      created-left = λ g. false≢true (ap is_done (g fresh _ _ _ [] room-met.creates room-met.deletes refl refl).status);
      quota-kept =
          λ g.
          let z : ◌≡◌ {A = ℕ} 150 100 = ap (λ (c : Card). quotas c.places) (g fresh _ _ _ [] room-met.creates room-met.deletes refl refl).card in
          absurd (omega arith);
    }
