-- On a sound card the number kept is the sum, so the manager that reads it answers as the one that sums; by induction over the calls, since
-- every call keeps a sound card sound. The engines that do not keep it true give other figures, by computing. Assumes nothing.
use mathlib.Core.Path.{◌≡◌, refl, ap, sym, ◌∙◌}
use Prim.Native.Nat.{ℕ, ◌+◌, ◌-◌}
use native.Mathlib.Omega.{arith}
use mathlib.Core.List.{List, [], ◌∷◌}
use mathlib.Core.Bool.{Bool, true, false}
use lib.Dec.{eqb, leb}
use borrow.Author.Tests.{eq-eqb, ne_eqb, leb-true, leb-false}
use Rattle.base_bytes.specs.Bytes.{same_bytes, four_at}
use Rattle.base_status.specs.Rows.{word_of}
use Rattle.card_isdp.specs.Aids.{padded}
use Rattle.card_isdp.specs.Place.{is_for, clash, zeros, place_ok}
use Rattle.card_places.specs.Places.{seek, quotas, all_of, any_of, count_of, distinct, all_off, enable_at}
use Rattle.card_record.specs.Sound.{phase_ok, sound}
use Rattle.card_record.specs.Clock.{tick_of, without_network, confirm_of}
use Rattle.card_record.specs.Steps.{tick_step, lost_step, confirm_step}
use Rattle.card_record.specs.Notifications.{notice_since}
use Rattle.card_record.specs.Ticks.{steps_in, ticks_to_come, ticks_by_phase}
use Rattle.card_record.specs.Answers.{refused, accepted}
use Rattle.card_record.specs.Fresh.{fresh_outcome}
use Rattle.base_choice.specs.Choice.{pick, at_most, is_below, is_same}
use Rattle.read_tlv.specs.Lists.{list_wrong, list_at, list_within, list_of, element_of, rest_after, element_closed}
use Rattle.read_tlv.specs.Tlv.{tag_at, length_at, after_length, after_tag, head_at, expect_of, expect_at}
use Rattle.read_elements.specs.Reader.{alone_at}
use Rattle.read_fields.specs.StoreData.{dgi_at, confirmation_at, request_named, store_data_at}
use Rattle.read_fields.specs.Delete.{verification_at, deletion_at}
use Rattle.read_fields.specs.GetStatus.{tag_noted, listed_within, listed_at, tags_at, listing_at}
use Rattle.read_install.specs.Parameters.{protocols_within, protocols_at, number_at, grant_of, memory_at, parameters_at}
use Rattle.read_install.specs.Install.{prefixed_of, prefixed_at, names_at, rights_at, install_of}
use Rattle.read_frame.specs.Framing.{length_wrong, class_right, class_wrong, instruction_wrong, parameters_right, parameters_wrong, shape_right, shape_wrong}
use Rattle.read_command.specs.Requests.{field_of, data_wrong}
use Rattle.rule_responses.specs.Responses.{status_body, status_row, row_of, part_from, next_row_from, part_given, next_row_after, one_status, data_response, deleted_response}
use Rattle.rule_run.specs.Step.{step, step_by, on_sound}
use Rattle.card_record.specs.Free.{with_free, summed}
use Rattle.card_record.specs.Answers.{Outcome, outcome}
use Rattle.card_record.specs.declared.Card.{Card}
use Rattle.card_record.proofs.Free.{sound-card}
use Rattle.rule_steps.specs.Asked.{Asked.create}
use Rattle.rule_steps.specs.Steps.{asked_work}
use Rattle.rule_run.specs.Calls.{Call}
use Rattle.rule_run.proofs.Kept.{step-sound}
use Rattle.rule_run.specs.Samples as sample
use Rattle.rule_run.specs.Samples.{fresh}
use Rattle.proof_demands.specs.Engines.{reached}
use Rattle.proof_demands.specs.Summed.{SumsAnew, summing, answers_by, AnswersStay, get_data, NotKept}

summed-is : (c : Card) → sound c ≡ true → summed c ≡ c
summed-is c s = ap (with_free c) (sym (sound-card c s).as-summed)

-- what the quotas leave makes up the capacity where they are within it
within-case : (q k : ℕ) (b : Bool) → leb q k ≡ b → eqb ((k - q) + q) k ≡ b
within-case q k true e = eq-eqb ((k - q) + q) k (let h = leb-true q k e in omega arith)
within-case q k false e = ne_eqb ((k - q) + q) k (λ w. let h = leb-false q k e in omega arith)

pub sums-anew : SumsAnew
unfolding data_response
sums-anew =
    record {
      looks-at-none = λ c free call. refl;
      gives = λ c. refl;
      asks = λ c aid quota. refl;
      within = λ c. within-case (quotas c.places) c.capacity _ refl;
    }

every : (calls : List Call) (c : Card) → sound c ≡ true → answers_by step c calls ≡ answers_by summing c calls
unfolding answers_by
every [] c s = refl
every (call ∷ calls) c s = rw (summed-is c s) (ap (λ (l : List Outcome). step c call ∷ l) (every calls (step c call).card (step-sound c call s)))

pub answers_stay : AnswersStay
answers_stay =
    record {
      get-data = λ c s. ap data_response (sym (summed-is c s));
      create = λ c aid quota s. ap (λ (d : Card). outcome d (asked_work d (create aid quota))) (sym (summed-is c s));
      every = λ c calls s. every calls c s;
    }

-- the figure of the last answer
unfoldable last_figure : List Outcome → ℕ
last_figure [] = 0
last_figure (o ∷ []) = four_at o.response 8
last_figure (o ∷ p ∷ rest) = last_figure (p ∷ rest)

apart : (l m : List Outcome) (a b : ℕ) → last_figure l ≡ a → last_figure m ≡ b → (a ≡ b → ⊥) → l ≡ m → ⊥
apart l m a b e f n q = n (sym e ∙ ap last_figure q ∙ f)

pub not-kept : NotKept
unfolding fresh step_by word_of same_bytes padded is_for clash zeros place_ok seek quotas all_of any_of count_of distinct all_off enable_at phase_ok sound tick_of without_network confirm_of tick_step lost_step confirm_step notice_since steps_in ticks_to_come refused accepted fresh_outcome pick at_most is_below is_same tag_at length_at after_length after_tag head_at expect_of expect_at alone_at dgi_at confirmation_at request_named store_data_at verification_at deletion_at tag_noted listed_within listed_at tags_at listing_at protocols_within protocols_at number_at grant_of memory_at parameters_at prefixed_of prefixed_at names_at rights_at install_of length_wrong class_right class_wrong instruction_wrong parameters_right parameters_wrong shape_right shape_wrong field_of data_wrong status_body status_row row_of part_from next_row_from part_given next_row_after one_status data_response deleted_response list_wrong list_at list_within list_of element_of rest_after element_closed on_sound ticks_by_phase reached answers_by last_figure
not-kept =
    record {
      create = (refl, refl);
      delete = (refl, refl);
      master-delete = (refl, refl);
      confirmation = (refl, refl);
      taking-nothing = λ f. apart _ _ 900 850 refl refl (λ e. omega arith) (f fresh (sample.create 2 50 ∷ get_data ∷ []) refl);
      giving-nothing-back = λ f. apart _ _ 850 900 refl refl (λ e. omega arith) (f fresh (sample.create 2 50 ∷ sample.delete 2 ∷ get_data ∷ []) refl);
    }
