-- `same` meets its contract. The loop goes from the end and keeps: what is left is the same exactly where the whole is.
use mathlib.Core.Path.{◌≡◌, refl, sym, ◌∙◌}
use lib.ListN.{length}
use native.Mathlib.Omega.{arith}
use Rattle.base_bytes.proofs.Alike.{same_length, same_first, same-hit, same-miss, same_end}
use borrow.Author.Rules.{rules}
use Rattle.base_bytes.proofs.same.Goals as goal

pub returns-then-a-b : goal.returns-then-a-b
returns-then-a-b c = sym (same_length c.args.a.now c.args.b.now c.if-a-b.true)

pub loop-i-init : goal.loop-i-init
loop-i-init c = let s = c.args in
    let n : length s.a.now ≡ length s.b.now = search rules in
    (n, (search rules, same_first s.a.now s.b.now n _ refl))

pub returns-then-a-i : goal.returns-then-a-i
returns-then-a-i c = let s = c.args in
    let v = c.loop-i.invariant in
    sym (same-miss s.a.now s.b.now v.0 c.loop-i.i _ (omega arith) v.1.0 c.if-a-i.true) ∙ v.1.1

pub loop-i-preserved : goal.loop-i-preserved
loop-i-preserved c = let s = c.args in
    let v = c.loop-i.invariant in
    (v.0, (search rules, same-hit s.a.now s.b.now v.0 c.loop-i.i _ (omega arith) v.1.0 c.if-a-i.false ∙ v.1.1))

pub returns : goal.returns
returns c = let s = c.args in
    let v = c.loop-i.invariant in
    sym (same_end s.a.now s.b.now v.0 c.loop-i.i (omega arith)) ∙ v.1.1
