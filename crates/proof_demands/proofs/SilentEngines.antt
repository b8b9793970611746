-- The runs are computed: at the silent call the enabled profile changes, and an answer without a notification says that it does not.
-- That the manager notifies is the law of every call, at the cards that it reaches. Assumes nothing.
use mathlib.Core.Path.{◌≡◌, refl, ap, sym, ◌∙◌}
use Prim.Native.Nat.{ℕ}
use native.Mathlib.Omega.{arith}
use mathlib.Core.List.{List, [], ◌∷◌, ◌++◌}
use mathlib.Core.Bool.{true}
use Rattle.base_bytes.specs.Bytes.{same_bytes}
use Rattle.base_status.specs.StatusWords.{is_done}
use Rattle.base_status.specs.Rows.{word_of}
use Rattle.card_isdp.specs.Aids.{bytes_of, padded}
use Rattle.card_isdp.specs.Place.{is_for, clash, zeros, place_ok}
use Rattle.card_places.specs.Places.{seek, quotas, all_of, any_of, count_of, distinct, all_off, enable_at}
use Rattle.card_record.specs.Sound.{phase_ok, sound}
use Rattle.card_record.specs.Clock.{tick_of, without_network, confirm_of}
use Rattle.card_record.specs.Steps.{tick_step, lost_step, confirm_step}
use Rattle.card_record.specs.Notifications.{notice_since, silent, code_of}
use Rattle.card_record.specs.Answers.{accepted}
use Rattle.card_record.specs.Fresh.{fresh_outcome}
use Rattle.card_record.specs.declared.Notification.{Notification}
use Rattle.card_record.specs.declared.Kind.TheVariants.{Silent}
use Rattle.card_record.specs.Noticed.{JustOpened, silently, announced}
use Rattle.card_record.specs.declared.Phase.{Phase}
use Rattle.card_record.specs.declared.Phase.TheVariants.{Quiet, Trial, Back, Fallen}
use Rattle.base_choice.specs.Choice.{pick, at_most, is_below, is_same}
use Rattle.read_tlv.specs.Lists.{list_wrong, list_at, list_within, list_of, element_of, rest_after, element_closed}
use Rattle.read_tlv.specs.Tlv.{tag_at, length_at, after_length, after_tag, head_at, expect_of, expect_at}
use Rattle.read_elements.specs.Reader.{alone_at}
use Rattle.read_fields.specs.StoreData.{dgi_at, confirmation_at, request_named, store_data_at}
use Rattle.read_install.specs.Parameters.{protocols_within, protocols_at, number_at, grant_of, memory_at, parameters_at}
use Rattle.read_install.specs.Install.{prefixed_of, prefixed_at, names_at, rights_at, install_of}
use Rattle.read_frame.specs.Framing.{length_wrong, class_right, class_wrong, instruction_wrong, parameters_right, parameters_wrong, shape_right, shape_wrong}
use Rattle.read_command.specs.Requests.{field_of, data_wrong}
use Rattle.rule_run.specs.Calls.{Call, Call.Tick, Call.Lost}
use Rattle.rule_run.specs.Step.{step, step_by}
use Rattle.rule_run.specs.Runs.{enabled_bytes, is_tick}
use Rattle.rule_run.specs.Inputs.{fresh_of}
use Rattle.rule_run.specs.Samples.{aid, inputs, enable, confirm, load, ticks}
use Rattle.proof_demands.specs.Engines.{Engine, reached, remembered, card_after, answer_after}
use Rattle.rule_run.specs.Notified.{Notified}
use Rattle.proof_demands.specs.Notified.{MeetsNotified}
use Rattle.proof_demands.specs.SilentEngines.{is_lost, silent_on, SilenceCaught}
use Rattle.proof_demands.proofs.Engines.{reached-sound}
use Rattle.rule_run.proofs.Notified.{calls-notify}

-- an engine that is silent at a call where the enabled profile changes from 02 to F
record Silence (e : Engine) (past : List Call) (call : Call) : Type 0 where
  before : enabled_bytes (card_after e inputs past) ≡ aid 2
  after : enabled_bytes (answer_after e inputs past call).card ≡ aid 1
  silence : (answer_after e inputs past call).notification ≡ silent

record Runs : Type 0 where
  made : is_done (fresh_of inputs).status ≡ true
  lost : Silence (silent_on is_lost) (load 2 0 ++ enable 2 ∷ confirm 1 ∷ []) Lost
  tick : Silence (silent_on is_tick) (load 2 0 ++ enable 2 ∷ ticks 9) Tick

runs : Runs
unfolding reached remembered step_by word_of same_bytes padded is_for clash zeros place_ok seek quotas all_of any_of count_of distinct all_off enable_at phase_ok sound tick_of without_network confirm_of tick_step lost_step confirm_step notice_since accepted fresh_outcome pick at_most is_below is_same tag_at length_at after_length after_tag head_at expect_of expect_at alone_at dgi_at confirmation_at request_named store_data_at protocols_within protocols_at number_at grant_of memory_at parameters_at prefixed_of prefixed_at names_at rights_at install_of length_wrong class_right class_wrong instruction_wrong parameters_right parameters_wrong shape_right shape_wrong field_of data_wrong list_wrong list_at list_within list_of element_of rest_after element_closed
runs =
    record {
      made = refl;
      lost = record { before = refl; after = refl; silence = refl };
      tick = record { before = refl; after = refl; silence = refl };
    }

-- a notification of a phase just opened has a kind
opened-loud : (p : Phase) (n : Notification) → JustOpened p n → code_of n.kind ≡ code_of Silent → ⊥
opened-loud Quiet n o e = absurd o
opened-loud (Trial previous left number) n o e = let k = ap code_of o.its-kind in absurd (omega arith)
opened-loud (Back left number) n o e = let k = ap code_of o.its-kind in absurd (omega arith)
opened-loud (Fallen left number) n o e = let k = ap code_of o.its-kind in absurd (omega arith)

hears : (e : Engine) (past : List Call) (call : Call) → Silence e past call → Notified (card_after e inputs past) (answer_after e inputs past call) → ⊥
hears e past call s (silently x) =
    let q : aid 1 ≡ aid 2 = sym s.after ∙ ap bytes_of x.same-profile ∙ s.before in
    let z : ◌≡◌ {A = ℕ} 1 2 = cc in absurd (omega arith)
hears e past call s (announced x) =
    opened-loud (answer_after e inputs past call).card.phase (answer_after e inputs past call).notification x.phase (ap (λ (n : Notification). code_of n.kind) s.silence)

caught : (e : Engine) (past : List Call) (call : Call) → Silence e past call → MeetsNotified e → ⊥
caught e past call s m = hears e past call s (m inputs runs.made past call)

pub silence-caught : SilenceCaught
silence-caught =
    record {
      manager-notifies = λ x a past call. calls-notify _ call (reached-sound x a past);
      silent-lost = caught _ _ _ runs.lost;
      silent-tick = caught _ _ _ runs.tick;
    }
