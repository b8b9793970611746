-- `card_isdp::zeros_from`: what was found of the bytes before i and the bytes left decide together.
use mathlib.Core.Path.{◌≡◌, sym, ◌∙◌}
use mathlib.Core.Bool.{and-true, and_assoc}
use native.Mathlib.Omega.{arith}
use lib.ListN.{length, get_or}
use lib.Dec.{eqb}
use borrow.Author.Rules.{rules}
use Rattle.card_isdp.proofs.Bytes.{zeros-step, zeros-end}
use Rattle.card_isdp.proofs.zeros_from.Goals as goal

pub loop-i-preserved : goal.loop-i-preserved
loop-i-preserved c = let o = c.loop-i in
    let n : length c.args.bytes ≡ 16 = search rules in
    let e = zeros-step c.args.bytes o.i (omega arith) in
    and_assoc o.all (eqb (get_or c.args.bytes o.i 0) 0) _ ∙ (rw e at o.invariant)

pub returns : goal.returns
returns c = let o = c.loop-i in
    let n : length c.args.bytes ≡ 16 = search rules in
    sym (and-true o.all) ∙ (rw (zeros-end c.args.bytes o.i (omega arith)) at o.invariant)
