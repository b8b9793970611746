-- `read_protocols` meets its contract. The loop keeps: what is left gives what the whole window gives.
use Rattle.read_install.proofs.Listing.{left-start, left_end, left-wrong, left-next}
use Rattle.read_tlv.proofs.Inside.{expect-inside}
use native.Mathlib.Omega.{arith}
use Rattle.read_install.proofs.read_protocols.Goals as goal

pub loop-value-init : goal.loop-value-init
loop-value-init c = left-start _ _ _

pub loop-value-smaller : goal.loop-value-smaller
loop-value-smaller c =
    let e = c.in_ok-next.ensures in let i = expect-inside _ _ _ _ _ _ _ _ e.found in rw e.moved (omega arith)

pub loop-value-preserved : goal.loop-value-preserved
loop-value-preserved c =
    let e = c.in_ok-next.ensures in let i = expect-inside _ _ _ _ _ _ _ _ e.found in
    rw e.moved (left-next _ _ _ _ _ _ (omega arith) e.found (omega arith) c.loop-value.invariant)

pub returns-in_err-next : goal.returns-in_err-next
returns-in_err-next c = rw c.from_residual.ensures (left-wrong _ _ _ _ (omega arith) c.in_err-next.ensures.found c.loop-value.invariant)

pub returns : goal.returns
returns c = left_end _ _ _ _ (omega arith) c.loop-value.invariant
