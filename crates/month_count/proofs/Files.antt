-- A file counted: of an accepted one what holds of any card and calls, of a refused one nothing. By its verdict. Assumes nothing.
use mathlib.Core.Path.{◌≡◌, refl, ap, ◌∙◌}
use Prim.Native.Nat.{ℕ, suc}
use mathlib.Core.List.{List, [], ◌∷◌}
use lib.ListN.{length}
use Rattle.rule_run.specs.Runs.{ticks_among}
use Rattle.month_events.specs.Events.{Event, calls_of}
use Rattle.month_events.proofs.Numbers.{kind-of-tick}
use Rattle.month_file.specs.File.{file_events, file_calls}
use Rattle.month_file.proofs.Grammar.{written_back}
use Rattle.month_count.specs.Month.{file_card, month_of}
use Rattle.month_count.specs.Statements.{how_many, is_of_kind_five, FileTold, FileCounted, TicksInFile, RefusedUncounted}
use Rattle.month_count.proofs.Events.{events-reported}
use Rattle.month_count.proofs.Figures.{what-a-line-says}
use Rattle.month_count.proofs.Sums.{ticks-add-up}

one-call-each : (events : List Event) → length (calls_of events) ≡ length events
unfolding calls_of
one-call-each [] = refl
one-call-each (event ∷ events) = ap suc (one-call-each events)

file-told : (s : List ℕ) → FileTold s (month_of s)
file-told s =
    record {
      ticks = ticks-add-up (file_card s) (file_calls s);
      calls = one-call-each (file_events s);
      events = events-reported (file_card s) (file_calls s);
      lines = what-a-line-says (file_card s) (file_calls s);
    }

pub file-counted : FileCounted
file-counted s accepted = rw accepted (file-told s)

-- a call is a tick exactly where its event is of kind 5
ticks-of : (events : List Event) → ticks_among (calls_of events) ≡ how_many is_of_kind_five events
unfolding calls_of ticks_among how_many
ticks-of [] = refl
ticks-of (event ∷ events) = rw (kind-of-tick event, ticks-of events)

pub ticks-in-file : TicksInFile
ticks-in-file s w accepted =
    let ticks = ticks-of (file_events s) in
    record { bytes = written_back s w accepted; ticks = ticks; told = (file-counted s accepted).ticks.ticks ∙ ticks }

pub refused-uncounted : RefusedUncounted
refused-uncounted s r refused = rw refused
