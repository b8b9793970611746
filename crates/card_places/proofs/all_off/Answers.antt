-- `card_places::all_off`: the places that the loop has passed are switched off (`off_to`).
use mathlib.Core.Path.{◌≡◌, refl, ap, ◌∙◌}
use native.Mathlib.Omega.{arith}
use native.Mathlib.Numerals.{add-one}
use lib.ListN.{length}
use borrow.Author.Rules.{rules}
use Rattle.card_isdp.specs.Sizes.{most_places}
use Rattle.card_places.proofs.Switching.{off_to, off-step, off-end, off-length}
use Rattle.card_places.proofs.Records.{read}
use Rattle.card_places.proofs.all_off.Goals as goal

pub loop-p-init : goal.loop-p-init
unfolding off_to
loop-p-init c = refl

pub loop-p-preserved : goal.loop-p-preserved
loop-p-preserved c = let o = c.loop-p in
    let m : length c.args.places ≡ most_places = search rules in
    let n = ap length o.invariant ∙ off-length o.p-index c.args.places ∙ m in
    rw (c.off.ensures, read o.p-items o.p-index (omega arith), o.invariant, add-one) (off-step o.p-index c.args.places)

pub returns : goal.returns
returns c = let o = c.loop-p in
    let n : length c.args.places ≡ most_places = search rules in
    o.invariant ∙ off-end o.p-index c.args.places (omega arith)
