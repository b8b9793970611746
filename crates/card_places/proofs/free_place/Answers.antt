-- `card_places::free_place`: no place before i is free; the search is i and what is found in the places left.
use mathlib.Core.Path.{◌≡◌}
use native.Mathlib.Omega.{arith}
use lib.ListN.{length, get_or}
use borrow.Author.Rules.{rules}
use borrow.Author.Tests.{eq-eqb, ne_eqb}
use Rattle.card_isdp.specs.Sizes.{most_places}
use Rattle.card_places.specs.Places.{seek, is_free}
use Rattle.card_places.proofs.Turns.{seek_hit, seek-miss, seek-end, found_at, found_none}
use Rattle.card_places.proofs.Records.{unread}
use Rattle.card_places.proofs.free_place.Goals as goal

pub loop-i-preserved : goal.loop-i-preserved
loop-i-preserved c = let o = c.loop-i in
    let n : length c.args.places.now ≡ most_places = search rules in
    let m = seek-miss is_free c.args.places.now unread o.i (omega arith) (rw (ne_eqb (get_or c.args.places.now o.i unread).aid.len 0 c.if-places-i-eq0.false)) in
    (search rules, omega (arith, o.invariant))

pub returns-then-i-eq-PLACES : goal.returns-then-i-eq-PLACES
returns-then-i-eq-PLACES c = let o = c.loop-i in
    let n : length c.args.places.now ≡ most_places = search rules in
    let m = seek-end is_free c.args.places.now o.i (omega arith) in
    found_none (seek is_free c.args.places.now) (omega (arith, o.invariant))

pub returns-then-places-i-eq0 : goal.returns-then-places-i-eq0
returns-then-places-i-eq0 c = let o = c.loop-i in
    let n : length c.args.places.now ≡ most_places = search rules in
    let m = seek_hit is_free c.args.places.now unread o.i (omega arith) (rw (eq-eqb (get_or c.args.places.now o.i unread).aid.len 0 c.if-places-i-eq0.true)) in
    found_at (seek is_free c.args.places.now) o.i (omega (arith, o.invariant)) (omega arith)
