-- `creation::create`: the rows of the change, of an AID already held, of a free place and of the room left, each passed or stopped at.
use mathlib.Core.Path.{◌≡◌, refl, sym, ◌∙◌}
use Prim.Native.Nat.{◌<◌}
use mathlib.Core.Bool.{false, not}
use native.Mathlib.Omega.{arith}
use borrow.Author.Tests.{lt-ltb, le-ltb, le-leb, lt-leb}
use borrow.Author.Rules.{rules}
use Rattle.base_bytes.proofs.PutLaws.{wrote_by}
use Rattle.base_status.specs.Rows.{word_of}
use Rattle.card_isdp.specs.Sizes.{most_places}
use Rattle.card_isdp.specs.Place.{held}
use Rattle.card_places.proofs.Seeks.{found-hit, found-miss}
use Rattle.card_record.specs.Cards.{is_quiet, profile_of, free_place}
use Rattle.rule_steps.specs.Asked.{Asked.create}
use Rattle.rule_steps.specs.Steps.{asked_work}
use Rattle.record_calls.proofs.Targets.{absent, found}
use Rattle.record_calls.proofs.Asking.{asks}
use Rattle.record_calls.proofs.Accepted.{kept, silent-into}
use Rattle.record_calls.proofs.creation.create.Goals as goal

pub returns-then-not-is_quiet : goal.returns-then-not-is_quiet
unfolding word_of
returns-then-not-is_quiet c = rw (asks c.is_quiet.ensures c.if-not-is_quiet.true) (kept c.refused.ensures)

pub returns-in_default : goal.returns-in_default
unfolding word_of
returns-in_default c =
    let quiet : not (is_quiet c.args.card.phase) ≡ false = asks c.is_quiet.ensures c.if-not-is_quiet.false in
    rw (quiet, (found c.args.card c.args.aid.now c.well_formed.0 c.place_of.ensures c.in_default.is).there) (kept c.refused-in_default.ensures)

pub returns-in_default-free_place : goal.returns-in_default-free_place
unfolding word_of
returns-in_default-free_place c =
    let quiet : not (is_quiet c.args.card.phase) ≡ false = asks c.is_quiet.ensures c.if-not-is_quiet.false in
    let new : let s = c.args in held (profile_of s.card s.aid.now) ≡ false = absent c.args.card c.args.aid.now c.well_formed.0 c.place_of.ensures c.in-None.is in
    rw (quiet, new, le-ltb _ most_places (found-miss _ (sym c.free_place.ensures ∙ c.in_default-free_place.is))) (kept c.refused-in_default-free_place.ensures)

pub returns-then-quota-card : goal.returns-then-quota-card
unfolding word_of
returns-then-quota-card c =
    let quiet : not (is_quiet c.args.card.phase) ≡ false = asks c.is_quiet.ensures c.if-not-is_quiet.false in
    let new : let s = c.args in held (profile_of s.card s.aid.now) ≡ false = absent c.args.card c.args.aid.now c.well_formed.0 c.place_of.ensures c.in-None.is in
    let vacancy : let n = free_place c.args.card in (n ≡ c.in-Some.t) × (n < most_places) = found-hit _ _ (sym c.free_place.ensures ∙ c.in-Some.is) in
    rw (quiet, new, lt-ltb _ most_places vacancy.1, lt-leb _ _ c.if-quota-card.true) (kept c.refused-then-quota-card.ensures)

pub returns : goal.returns
unfolding word_of
returns c =
    let quiet : not (is_quiet c.args.card.phase) ≡ false = asks c.is_quiet.ensures c.if-not-is_quiet.false in
    let new : let s = c.args in held (profile_of s.card s.aid.now) ≡ false = absent c.args.card c.args.aid.now c.well_formed.0 c.place_of.ensures c.in-None.is in
    let vacancy : let n = free_place c.args.card in (n ≡ c.in-Some.t) × (n < most_places) = found-hit _ _ (sym c.free_place.ensures ∙ c.in-Some.is) in
    let s = c.args in
    silent-into s.card (asked_work s.card (create s.aid.now s.quota))
    (rw (quiet, new, lt-ltb _ most_places vacancy.1, le-leb _ _ c.if-quota-card.false))
    c.filled.ensures (rw (c.made.ensures, vacancy.0)) refl c.silently.ensures (wrote_by c.new-out.ensures.as_lent (search rules) c.byte.ensures) (omega arith)
