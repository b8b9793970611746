-- `script_record::read_places` meets its contract. The loop keeps: the places read and those that the rest of the line gives are all.
use mathlib.Core.Path.{◌≡◌}
use mathlib.Core.List.{[]}
use Prim.Native.Nat.{◌-◌}
use lib.ListN.{length, take}
use Rattle.card_isdp.specs.Sizes.{most_places}
use Rattle.script_record.specs.Records.{places_on}
use Rattle.script_record.proofs.read_places.Given as goal

abbrev pub invariant-loop-place : goal.invariant-loop-place
invariant-loop-place l = (length l.place-items ≡ most_places) × (places_on (most_places - l.place-index) l.words.line.now l.words.at (take l.place-index l.place-items) ≡ places_on most_places l.initial.words.line.now l.initial.words.at [])
