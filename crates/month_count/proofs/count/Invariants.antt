-- `month_count::count`: the loop's invariant is `Stands`. `buf` keeps the length that the door asks of it.
use Prim.Native.Nat.{◌-◌}
use mathlib.Core.Path.{◌≡◌}
use lib.ListN.{length}
use Rattle.rule_run.specs.Table.{least_buffer}
use Rattle.month_count.proofs.Turns.{Stands}
use Rattle.month_count.proofs.count.Given as goal

abbrev pub invariant-loop-event : goal.invariant-loop-event
invariant-loop-event l = (least_buffer ≡ length l.buf) × Stands l.initial.card l.body l.minutes l.names l.own l.card l.ticks l.events l.refused l.at

abbrev pub decreases-loop-event : goal.decreases-loop-event
decreases-loop-event l = length l.body - l.at
