-- The examples, by computing. Assumes nothing.
use mathlib.Core.Path.{refl}
use Rattle.base_choice.specs.Choice.{pick, is_same}
use Rattle.month_events.specs.Kinds.{kind_of}
use Rattle.month_events.specs.Events.{events_within, events_of, cut_within, cut_short, some_event, kind_unknown, wrong_length, checked_of, calls_of}
use Rattle.month_events.specs.Examples.{checks_found, checks_meant, EventsExamples}

pub events-examples : EventsExamples
unfolding checks_found checks_meant checked_of cut_short cut_within kind_unknown wrong_length some_event events_of events_within kind_of pick is_same calls_of
events-examples = record { checks = refl; calls = refl }
