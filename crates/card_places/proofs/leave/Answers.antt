-- `card_places::leave`: free and the quotas left are held against what is left of the capacity.
use mathlib.Core.Path.{◌≡◌, sym, ◌∙◌}
use Prim.Native.Nat.{◌+◌, ◌-◌}
use native.Mathlib.Omega.{arith}
use lib.ListN.{length, get_or, drop}
use borrow.Author.Rules.{rules}
use borrow.Author.Tests.{ne_eqb}
use Rattle.card_isdp.specs.Sizes.{most_places}
use Rattle.card_isdp.proofs.Bytes.{eqb_same}
use Rattle.card_places.specs.Places.{quotas}
use Rattle.card_places.proofs.Turns.{quotas-step, quotas-end}
use Rattle.card_places.proofs.Records.{unread}
use Rattle.card_places.proofs.leave.Goals as goal

pub returns-then-left-p : goal.returns-then-left-p
returns-then-left-p c = let o = c.loop-p in
    let l = c.args.places.now in
    let n : length l ≡ most_places = search rules in
    let e = quotas-step l unread o.p-index (omega arith) in
    sym (ne_eqb (c.args.free + quotas (drop o.p-index l)) o.left (λ h. omega arith)) ∙ o.invariant

pub loop-p-preserved : goal.loop-p-preserved
loop-p-preserved c = let o = c.loop-p in
    let l = c.args.places.now in
    let n : length l ≡ most_places = search rules in
    let e = quotas-step l unread o.p-index (omega arith) in
    eqb_same (c.args.free + quotas (drop (o.p-index + 1) l)) (o.left - (get_or l o.p-index unread).quota) (c.args.free + quotas (drop o.p-index l)) o.left (λ h. omega arith) (λ h. omega arith) ∙ o.invariant

pub returns : goal.returns
returns c = let o = c.loop-p in
    let l = c.args.places.now in
    let n : length l ≡ most_places = search rules in
    let e = quotas-end l o.p-index (omega arith) in
    eqb_same c.args.free o.left (c.args.free + quotas (drop o.p-index l)) o.left (λ h. omega arith) (λ h. omega arith) ∙ o.invariant
