-- `read_protocols` meets its contract. The loop keeps: what is left gives what the whole window gives.
use Rattle.read_install.proofs.Listing.{Left}
use Rattle.read_install.specs.Parameters.{protocols_at}
use Prim.Native.Nat.{◌-◌}
use Rattle.read_install.proofs.read_protocols.Given as goal

abbrev pub invariant-loop-value : goal.invariant-loop-value
invariant-loop-value l = Left (protocols_at l.fn.value.bytes.now l.fn.value.at l.fn.value.end) l.value.bytes.now l.value.at l.value.end

abbrev pub decreases-loop-value : goal.decreases-loop-value
decreases-loop-value l = l.value.end - l.value.at
