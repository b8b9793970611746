-- `record_responses::write_rows`: what is still to write, the part from place i on in the room left, leaves what writing all of it leaves; and the
-- place that is left from there on is the one that is left in all.
use mathlib.Core.Path.{◌≡◌, sym, ◌∙◌}
use native.Mathlib.Omega.{arith}
use lib.ListN.{length}
use borrow.Author.Rules.{rules}
use Rattle.card_isdp.specs.Sizes.{most_places}
use Rattle.base_bytes.proofs.PutLaws.{written_none, written_then, written_as}
use Rattle.rule_responses.proofs.Parts.{part_step, left_step, part-stops, left-stops, part-ends, left-ends}
use Rattle.record_responses.proofs.write_rows.Goals as goal

pub returns-then-room-size : goal.returns-then-room-size
returns-then-room-size c = let o = c.loop-i in
    let ps = c.args.places.now in
    let s = c.args.tags in
    let n : length ps ≡ most_places = search rules in
    let z = c.row_size-size.ensures in
    let e = part-stops c.args.holder s.life s.fall_back ps o.i o.room (omega arith) (omega (arith, z, c.if-room-size.true)) in
    let f = left-stops c.args.holder s.life s.fall_back ps o.i o.room (omega arith) (omega (arith, z, c.if-room-size.true)) in
    (o.invariant.0 _ (written_as _ (sym e) (written_none _)), sym f ∙ o.invariant.1)

pub loop-i-preserved : goal.loop-i-preserved
loop-i-preserved c = let o = c.loop-i in
    let ps = c.args.places.now in
    let s = c.args.tags in
    let n : length ps ≡ most_places = search rules in
    let z = c.row_size-size.ensures in
    let p = part_step c.args.holder s.life s.fall_back ps o.i o.room _ (omega arith) c.attribute_of.ensures (omega (arith, z, c.if-room-size.false)) in
    let q = left_step c.args.holder s.life s.fall_back ps o.i o.room (omega arith) (omega (arith, z, c.if-room-size.false)) in
    (λ v w. o.invariant.0 v (written_as _ (sym p) (written_then c.write_place.ensures.0 (rw z at w))), rw z (sym q ∙ o.invariant.1))

pub returns : goal.returns
returns c = let o = c.loop-i in
    let ps = c.args.places.now in
    let s = c.args.tags in
    let n : length ps ≡ most_places = search rules in
    let e = part-ends c.args.holder s.life s.fall_back ps o.i o.room (omega arith) in
    let f = left-ends c.args.holder s.life s.fall_back ps o.i o.room (omega arith) in
    (o.invariant.0 _ (written_as _ (sym e) (written_none _)), sym f ∙ o.invariant.1)
