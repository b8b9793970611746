-- A listing in two parts with a refused call between them, and the two engines that give other rows: on a card of 17 profiles, by computing.
-- Assumes nothing.
use mathlib.Core.Path.{◌≡◌, refl, sym, ap, ◌∙◌}
use Prim.Native.Nat.{ℕ, suc, ◌-◌}
use native.Mathlib.Omega.{arith}
use mathlib.Core.List.{[], ◌∷◌}
use lib.ListN.{length}
use mathlib.Core.Option.{none}
use mathlib.Core.Bool.{true, false}
use Rattle.base_bytes.specs.Bytes.{same_bytes}
use Rattle.base_status.specs.Rows.{word_of}
use Rattle.card_isdp.specs.Aids.{padded}
use Rattle.card_isdp.specs.Place.{is_for, clash, zeros, place_ok}
use Rattle.card_places.specs.Places.{seek, quotas, all_of, any_of, count_of, distinct, all_off, enable_at}
use Rattle.card_record.specs.declared.Card.{Card}
use Rattle.card_record.specs.Sound.{phase_ok, sound}
use Rattle.card_record.specs.Clock.{tick_of, without_network, confirm_of}
use Rattle.card_record.specs.Steps.{tick_step, lost_step, confirm_step}
use Rattle.card_record.specs.Notifications.{notice_since}
use Rattle.card_record.specs.Ticks.{steps_in, ticks_to_come}
use Rattle.card_record.specs.Answers.{refused, accepted}
use Rattle.card_record.specs.Fresh.{fresh_outcome}
use Rattle.base_choice.specs.Choice.{pick, at_most, is_below, is_same}
use Rattle.read_tlv.specs.Lists.{list_wrong, list_at, list_within, list_of, element_of, rest_after, element_closed}
use Rattle.read_tlv.specs.Tlv.{tag_at, length_at, after_length, after_tag, head_at, expect_of, expect_at}
use Rattle.read_tlv.specs.Encoding.{encode_tag, encode_length, encode_element}
use Rattle.read_elements.specs.Reader.{alone_at}
use Rattle.read_fields.specs.StoreData.{dgi_at, confirmation_at, request_named, store_data_at}
use Rattle.read_fields.specs.Delete.{verification_at, deletion_at}
use Rattle.read_fields.specs.GetStatus.{tag_noted, listed_within, listed_at, tags_at, listing_at}
use Rattle.read_fields.specs.Grammar.{all}
use Rattle.read_install.specs.Parameters.{protocols_within, protocols_at, number_at, grant_of, memory_at, parameters_at}
use Rattle.read_install.specs.Install.{prefixed_of, prefixed_at, names_at, rights_at, install_of}
use Rattle.read_frame.specs.Framing.{length_wrong, class_right, class_wrong, instruction_wrong, parameters_right, parameters_wrong, shape_right, shape_wrong}
use Rattle.read_command.specs.Requests.{field_of, data_wrong}
use Rattle.rule_responses.specs.Responses.{rows_from, listing_from, listing, status_body, status_row, row_of, part_from, next_row_from, part_given, next_row_after, one_status, data_response, deleted_response}
use Rattle.rule_run.specs.Step.{step, step_by}
use Rattle.proof_demands.specs.Listing.{Whole, Whole.ends, Whole.goes_on, Whole.between, joined, PartsJoin, WithField, WithField.with-field, AsksForAll, profiles_from, crowded, get_first, get_next, ListingMet, going_on_at, ListingsRefuted}
use Rattle.proof_demands.proofs.Listing.{whole-lists}

-- 4F of length 0 and no 5C
asks : AsksForAll true true (0x4F ∷ 0x00 ∷ [])
unfolding encode_element encode_tag encode_length pick is_below
asks = record { encoded = record { tags = none; sought = all; short = tt; life_asked = refl; fall_back_asked = refl; written = refl }; most = omega arith }

first : WithField (0x4F ∷ 0x00 ∷ []) false crowded get_first
unfolding class_right
first = with-field false 0 0x80 256 true refl (omega arith)

next : (c : Card) → WithField (0x4F ∷ 0x00 ∷ []) true c get_next
unfolding class_right
next c = with-field true 0 0x80 256 true refl (omega arith)

pub listing-met : ListingMet
unfolding joined profiles_from step_by word_of same_bytes padded is_for clash zeros place_ok seek quotas all_of any_of count_of distinct all_off enable_at phase_ok sound tick_of without_network confirm_of tick_step lost_step confirm_step notice_since steps_in ticks_to_come refused accepted fresh_outcome pick at_most is_below is_same tag_at length_at after_length after_tag head_at expect_of expect_at alone_at dgi_at confirmation_at request_named store_data_at verification_at deletion_at tag_noted listed_within listed_at tags_at listing_at protocols_within protocols_at number_at grant_of memory_at parameters_at prefixed_of prefixed_at names_at rights_at install_of length_wrong class_right class_wrong instruction_wrong parameters_right parameters_wrong shape_right shape_wrong field_of data_wrong status_body status_row row_of part_from next_row_from part_given next_row_after one_status data_response deleted_response list_wrong list_at list_within list_of element_of rest_after element_closed
listing-met =
    record {
      is-sound = refl;
      asks-for-all = asks;
      whole = goes_on first refl (between refl (ends (next _) refl));
      bytes = refl;
    }

whole_length : length (listing crowded true true) ≡ 272
unfolding profiles_from listing_from rows_from step_by word_of same_bytes padded is_for clash zeros place_ok seek quotas all_of any_of count_of distinct all_off enable_at phase_ok sound tick_of without_network confirm_of tick_step lost_step confirm_step notice_since steps_in ticks_to_come refused accepted fresh_outcome pick at_most is_below is_same tag_at length_at after_length after_tag head_at expect_of expect_at alone_at dgi_at confirmation_at request_named store_data_at verification_at deletion_at tag_noted listed_within listed_at tags_at listing_at protocols_within protocols_at number_at grant_of memory_at parameters_at prefixed_of prefixed_at names_at rights_at install_of length_wrong class_right class_wrong instruction_wrong parameters_right parameters_wrong shape_right shape_wrong field_of data_wrong status_body status_row row_of part_from next_row_from part_given next_row_after one_status data_response deleted_response list_wrong list_at list_within list_of element_of rest_after element_closed
whole_length = refl

-- fifteen rows and one, or fifteen and three
other : (place : ℕ → ℕ) (n : ℕ) → Whole (going_on_at place) (WithField (0x4F ∷ 0x00 ∷ [])) false crowded (get_first ∷ get_next ∷ []) → length (joined (going_on_at place) crowded (get_first ∷ get_next ∷ [])) ≡ n → (n ≡ 272 → ⊥) → PartsJoin (going_on_at place) → ⊥
other place n w e f p =
    let j = p crowded true true (get_first ∷ get_next ∷ []) listing-met.is-sound (whole-lists (going_on_at place) true true false _ crowded _ asks w) in
    f (sym e ∙ ap length j.the-listing ∙ whole_length)

pub listings-refuted : ListingsRefuted
unfolding joined profiles_from step_by word_of same_bytes padded is_for clash zeros place_ok seek quotas all_of any_of count_of distinct all_off enable_at phase_ok sound tick_of without_network confirm_of tick_step lost_step confirm_step notice_since steps_in ticks_to_come refused accepted fresh_outcome pick at_most is_below is_same tag_at length_at after_length after_tag head_at expect_of expect_at alone_at dgi_at confirmation_at request_named store_data_at verification_at deletion_at tag_noted listed_within listed_at tags_at listing_at protocols_within protocols_at number_at grant_of memory_at parameters_at prefixed_of prefixed_at names_at rights_at install_of length_wrong class_right class_wrong instruction_wrong parameters_right parameters_wrong shape_right shape_wrong field_of data_wrong status_body status_row row_of part_from next_row_from part_given next_row_after one_status data_response deleted_response list_wrong list_at list_within list_of element_of rest_after element_closed
listings-refuted =
    record {
      skips-a-row = other suc 256 (goes_on first refl (ends (next _) refl)) refl (λ e. omega arith);
      repeats-a-row = other (λ place. place - 1) 288 (goes_on first refl (ends (next _) refl)) refl (λ e. omega arith);
    }
