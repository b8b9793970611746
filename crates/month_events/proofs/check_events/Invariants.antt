-- `check_events` meets its contract. The loop keeps: what was met before the place, and what comes from there on, is the verdict of the whole body.
use Prim.Native.Nat.{◌-◌, ◌≤◌}
use mathlib.Core.Path.{◌≡◌}
use lib.ListN.{length}
use Rattle.month_events.specs.Events.{checked_of}
use Rattle.month_events.proofs.Turns.{checked_from}
use Rattle.month_events.proofs.check_events.Given as goal

abbrev pub invariant-loop-at : goal.invariant-loop-at
invariant-loop-at l = (l.at ≤ length l.b) × (checked_from l.b l.at l.unknown l.wrong ≡ checked_of l.b)

abbrev pub decreases-loop-at : goal.decreases-loop-at
decreases-loop-at l = length l.b - l.at
