-- The file of an enable that rolls back, read by computing: the card that it begins with and its calls, each as a literal. Assumes nothing.
use mathlib.Core.Path.{refl}
use Rattle.base_bytes.specs.Bytes.{same_bytes}
use Rattle.base_status.specs.Rows.{word_of}
use Rattle.card_isdp.specs.Aids.{padded}
use Rattle.card_isdp.specs.Place.{is_for, clash, zeros, place_ok}
use Rattle.card_places.specs.Places.{seek, quotas, all_of, any_of, count_of, distinct}
use Rattle.card_record.specs.Sound.{phase_ok, sound}
use Rattle.card_record.specs.Ticks.{steps_in, ticks_to_come}
use Rattle.card_record.specs.Answers.{refused, accepted}
use Rattle.card_record.specs.Fresh.{fresh_outcome}
use Rattle.base_choice.specs.Choice.{pick, is_same}
use Rattle.month_contents.specs.Below.{some_below, first_below, sum_below}
use Rattle.month_contents.specs.Contents.{contents_wrong, section_of}
use Rattle.month_events.specs.Kinds.{kind_of}
use Rattle.month_events.specs.Events.{events_within, events_of, cut_within, cut_short, some_event, kind_unknown, wrong_length, calls_of}
use Rattle.month_file.specs.Inputs.{fresh_answer, fresh_bad}
use Rattle.month_file.specs.File.{first_of}
use Rattle.month_totals.specs.RollBack.{Read}

pub read : Read
unfolding word_of padded seek same_bytes is_for clash zeros place_ok quotas all_of any_of count_of distinct phase_ok sound refused accepted fresh_outcome pick is_same some_below first_below sum_below contents_wrong section_of kind_of events_within events_of cut_within cut_short some_event kind_unknown wrong_length calls_of fresh_answer fresh_bad first_of steps_in ticks_to_come
read = record { accepted = refl; card = refl; calls = refl }
