-- The wrong reports on the file of an enable that rolls back, by computing: the month's lines say what they should, so a report whose lines do
-- too would tell its minutes, and neither does. Assumes nothing.
use Prim.Native.Nat.{ℕ}
use mathlib.Core.Path.{◌≡◌, refl, ap, sym, ◌∙◌}
use native.Mathlib.Omega.{arith}
use lib.ListN.{length, get_or}
use Rattle.base_bytes.specs.Bytes.{same_bytes}
use Rattle.base_status.specs.Rows.{word_of}
use Rattle.card_isdp.specs.Aids.{padded}
use Rattle.card_isdp.specs.Place.{is_for, clash, zeros, place_ok}
use Rattle.card_places.specs.Places.{seek, quotas, all_of, any_of, count_of, distinct, all_off, enable_at}
use Rattle.card_record.specs.Sound.{phase_ok, sound}
use Rattle.card_record.specs.Clock.{tick_of, without_network, confirm_of}
use Rattle.card_record.specs.Steps.{tick_step, lost_step, confirm_step}
use Rattle.card_record.specs.Notifications.{notice_since}
use Rattle.card_record.specs.Ticks.{steps_in, ticks_to_come}
use Rattle.card_record.specs.Answers.{refused, accepted}
use Rattle.card_record.specs.Fresh.{fresh_outcome}
use Rattle.card_record.specs.declared.Card.{Card}
use Rattle.base_choice.specs.Choice.{pick, at_most, is_below, is_same}
use Rattle.read_tlv.specs.Lists.{list_wrong, list_at, list_within, list_of, element_of, rest_after, element_closed}
use Rattle.read_tlv.specs.Tlv.{tag_at, length_at, after_length, after_tag, head_at, expect_of, expect_at}
use Rattle.read_elements.specs.Reader.{alone_at}
use Rattle.read_fields.specs.StoreData.{dgi_at, confirmation_at, request_named, store_data_at}
use Rattle.read_fields.specs.Delete.{verification_at, deletion_at}
use Rattle.read_fields.specs.GetStatus.{tag_noted, listed_within, listed_at, tags_at, listing_at}
use Rattle.read_install.specs.Parameters.{protocols_within, protocols_at, number_at, grant_of, memory_at, parameters_at}
use Rattle.read_install.specs.Install.{prefixed_of, prefixed_at, names_at, rights_at, install_of}
use Rattle.read_frame.specs.Framing.{length_wrong, class_right, class_wrong, instruction_wrong, parameters_right, parameters_wrong, shape_right, shape_wrong}
use Rattle.read_command.specs.Requests.{field_of, data_wrong}
use Rattle.rule_responses.specs.Responses.{status_body, status_row, row_of, part_from, next_row_from, part_given, next_row_after, one_status, data_response, deleted_response}
use Rattle.rule_run.specs.Step.{step_by}
use Rattle.month_tally.specs.Lines.{seek_aid}
use Rattle.month_count.specs.Month.{Counted, counting}
use Rattle.month_count.specs.Statements.{month_from, lines_in}
use Rattle.month_file.specs.File.{file_calls}
use Rattle.month_totals.specs.Reports.{Report, on_file, MeetsLines}
use Rattle.month_totals.specs.Examples.{told, start, SmallMonths}
use Rattle.month_totals.specs.RollBack.{file, calls}
use Rattle.month_totals.specs.WrongReports.{counting_named, named_report, counting_after, after_report, Beside, WrongReports}
use Rattle.month_totals.proofs.Reports.{month-meets, one-report}
use Rattle.month_totals.proofs.RollBack.{read}

record Computed : Type 0 where
  enabled : month_from start calls ≡ told 5 10 15 20
  last-named : named_report start calls ≡ told 0 15 15 20
  enabled-after : after_report start calls ≡ told 6 9 15 20
  small-months : SmallMonths

computed : Computed
unfolding counting counting_named counting_after seek_aid step_by word_of same_bytes padded is_for clash zeros place_ok seek quotas all_of any_of count_of distinct all_off enable_at phase_ok sound tick_of without_network confirm_of tick_step lost_step confirm_step notice_since steps_in ticks_to_come refused accepted fresh_outcome pick at_most is_below is_same tag_at length_at after_length after_tag head_at expect_of expect_at alone_at dgi_at confirmation_at request_named store_data_at verification_at deletion_at tag_noted listed_within listed_at tags_at listing_at protocols_within protocols_at number_at grant_of memory_at parameters_at prefixed_of prefixed_at names_at rights_at install_of length_wrong class_right class_wrong instruction_wrong parameters_right parameters_wrong shape_right shape_wrong field_of data_wrong status_body status_row row_of part_from next_row_from part_given next_row_after one_status data_response deleted_response list_wrong list_at list_within list_of element_of rest_after element_closed
computed =
    record {
      enabled = refl;
      last-named = refl;
      enabled-after = refl;
      small-months = record { created-again = refl; network-lost = refl; no-tick = refl };
    }

pub small-months : SmallMonths
small-months = computed.small-months

-- a report on the file is the report on its card and calls
on-file : (report : Report) → on_file report file ≡ report start calls
on-file report = ap (λ (c : Card). report c (file_calls file)) read.card ∙ ap (report start) read.calls

pub beside : Beside
beside =
    record {
      accepted = read.accepted;
      enabled = rw read.accepted (on-file month_from ∙ computed.enabled);
      last-named = on-file named_report ∙ computed.last-named;
      enabled-after = on-file after_report ∙ computed.enabled-after;
    }

-- a report whose lines say what they should tells five minutes of F
refuted : (report : Report) (first second : ℕ) → on_file report file ≡ told first second 15 20 → (5 ≡ first → ⊥) → MeetsLines report → ⊥
refuted report first second e n meets =
    let same = one-report month_from report month-meets meets file read.accepted in
    let month = on-file month_from ∙ computed.enabled in
    let two = ap (λ (k : Counted). length (lines_in k)) month in
    n (sym (ap (λ (k : Counted). get_or k.minutes 0 0) month) ∙ same.line 0 (omega arith) ∙ ap (λ (k : Counted). get_or k.minutes 0 0) e)

pub wrong-reports : WrongReports
wrong-reports =
    record {
      named = refuted named_report 0 15 beside.last-named (λ e. absurd (omega arith));
      after = refuted after_report 6 9 beside.enabled-after (λ e. absurd (omega arith));
    }
