-- `read_listed` meets its contract. The loop keeps: the tags left, with those seen so far, give what the whole list gives.
use Rattle.read_fields.proofs.Left.{Left}
use Rattle.read_fields.specs.GetStatus.{listed_at}
use Prim.Native.Nat.{◌-◌}
use Rattle.read_fields.proofs.read_listed.Given as goal

abbrev pub invariant-loop-list : goal.invariant-loop-list
invariant-loop-list l =
    Left (listed_at l.fn.list.bytes.now l.fn.list.at l.fn.list.end) l.list.bytes.now l.list.at l.list.end l.tags.life l.tags.fall_back

abbrev pub decreases-loop-list : goal.decreases-loop-list
decreases-loop-list l = l.list.end - l.list.at
