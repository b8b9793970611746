-- `card_places::all_distinct`: the places from i on are distinct and their hashes noted, so the hash of the next one down tells whether to compare.
use mathlib.Core.Path.{◌≡◌, refl, ap, ◌∙◌}
use Prim.Native.Nat.{◌-◌}
use native.Mathlib.Omega.{arith}
use lib.ListN.{length}
use borrow.Author.Rules.{rules}
use Rattle.card_isdp.specs.Sizes.{most_places}
use Rattle.card_places.specs.Hashes.{hash_of}
use Rattle.card_places.proofs.Hashes.{walk_first, walk_none, walk-twice, walk-on}
use Rattle.card_places.proofs.Records.{unread}
use Rattle.card_places.proofs.all_distinct.Goals as goal
use Rattle.card_places.proofs.all_distinct.Goals.{else-seen-h-via-then-seen-h+else-again, else-seen-h-via-else-seen-h}

pub loop-i-init : goal.loop-i-init
loop-i-init c = let n : length c.args.places.now ≡ most_places = search rules in
    walk_first c.args.places.now 32 (omega arith) _ refl

pub returns-then-again : goal.returns-then-again
returns-then-again c = let n : length c.args.places.now ≡ most_places = search rules in
    let o = c.loop-i in
    let h = c.hash_of-h in
    let e = h.ensures.0 ∙ ap hash_of c.as_slice.ensures in
    walk-twice c.args.places.now unread (o.i - 1) o.i (omega arith) (omega arith) o.seen o.invariant h.result e h.ensures.1 _ (rw c.if-seen-h.true c.again.ensures) c.if-again.true

pub loop-i-preserved-then-p-ne0 : goal.loop-i-preserved-then-p-ne0
loop-i-preserved-then-p-ne0 c = let n : length c.args.places.now ≡ most_places = search rules in
    let o = c.loop-i in
    let h = c.hash_of-h in
    let e = h.ensures.0 ∙ ap hash_of c.as_slice.ensures in
    elim c.else-seen-h.branch [
      | else-seen-h-via-then-seen-h+else-again w ↦ walk-on c.args.places.now unread (o.i - 1) o.i (omega arith) (omega arith) o.seen o.invariant h.result e h.ensures.1 _ (rw w.if-seen-h.true w.again.ensures) w.if-again.false
      | else-seen-h-via-else-seen-h w ↦ walk-on c.args.places.now unread (o.i - 1) o.i (omega arith) (omega arith) o.seen o.invariant h.result e h.ensures.1 _ (rw w.if-seen-h.false refl) refl
    ]

pub loop-i-preserved : goal.loop-i-preserved
loop-i-preserved c = let n : length c.args.places.now ≡ most_places = search rules in
    let o = c.loop-i in
    walk_none c.args.places.now unread (o.i - 1) o.i (omega arith) (omega arith) o.seen o.invariant c.if-p-ne0.false
