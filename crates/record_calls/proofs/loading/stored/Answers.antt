-- `loading::stored`: the rows of the AID, the target, its state and its room, each passed or stopped at; the sum fits because the quota does.
use mir.Val.{Fits}
use mir.Syntax.{w32}
use mathlib.Core.Path.{refl, ap}
use mathlib.Core.Bool.{not}
use Prim.Native.Nat.{◌+◌, ◌≤◌}
use native.Mathlib.Omega.{arith}
use borrow.Author.Tests.{eq-eqb, ne_eqb, leb-true, not-false}
use Rattle.base_status.specs.Rows.{word_of}
use Rattle.card_isdp.specs.LifeCycle.{personalized}
use Rattle.rule_steps.specs.Asked.{Act.stored}
use Rattle.record_calls.proofs.Asking.{asks, Aimed, Sought, sought, profile, inner, at_target, at-state, at_room, steps-silently}
use borrow.Author.Rules.{rules}
use Rattle.record_calls.proofs.loading.stored.Goals as goal

pub returns-then-not-aid_ok : goal.returns-then-not-aid_ok
unfolding word_of
returns-then-not-aid_ok c = rw (asks c.aid_ok.ensures c.if-not-aid_ok.true) c.refused.ensures

pub returns-in_default : goal.returns-in_default
returns-in_default c =
    let asked : let s = c.args in Sought s.card s.aid.now (stored s.n) c.place_of.result = sought _ _ (stored c.args.n) (asks c.aid_ok.ensures c.if-not-aid_ok.false) refl c.well_formed.0 c.place_of.ensures in
    let s = asked in rw (inner s, at_target s c.in_default.is) c.refused-in_default.ensures

pub returns-then-p-ne-PERSONALIZED : goal.returns-then-p-ne-PERSONALIZED
returns-then-p-ne-PERSONALIZED c =
    let asked : let s = c.args in Sought s.card s.aid.now (stored s.n) c.place_of.result = sought _ _ (stored c.args.n) (asks c.aid_ok.ensures c.if-not-aid_ok.false) refl c.well_formed.0 c.place_of.ensures in
    let aimed : let s = c.args in Aimed s.card s.aid.now (stored s.n) c.in-Some.t = asked.target c.in-Some.is in
    let a = aimed in
    rw (inner asked, at-state a (rw (profile a c.profile-p.ensures) (ap not (ne_eqb _ personalized c.if-p-ne-PERSONALIZED.true)))) c.refused-then-p-ne-PERSONALIZED.ensures

pub returns-then-not-has_room : goal.returns-then-not-has_room
returns-then-not-has_room c =
    let asked : let s = c.args in Sought s.card s.aid.now (stored s.n) c.place_of.result = sought _ _ (stored c.args.n) (asks c.aid_ok.ensures c.if-not-aid_ok.false) refl c.well_formed.0 c.place_of.ensures in
    let aimed : let s = c.args in Aimed s.card s.aid.now (stored s.n) c.in-Some.t = asked.target c.in-Some.is in
    let t = profile aimed c.profile-p.ensures in
    rw (inner asked, at_room aimed (rw t (ap not (eq-eqb _ personalized c.if-p-ne-PERSONALIZED.false))) refl refl (rw t (asks c.has_room.ensures c.if-not-has_room.true))) c.refused-then-not-has_room.ensures

pub overflow_add-used : goal.overflow_add-used
overflow_add-used c = let p = c.profile-p.result in
    let n = c.args.n in
    let r : p.used + n ≤ p.quota = leb-true (p.used + n) p.quota (not-false _ (asks c.has_room.ensures c.if-not-has_room.false)) in
    let f : Fits w32 p.quota = search rules in
    omega (arith, r, f)

pub returns : goal.returns
returns c =
    let asked : let s = c.args in Sought s.card s.aid.now (stored s.n) c.place_of.result = sought _ _ (stored c.args.n) (asks c.aid_ok.ensures c.if-not-aid_ok.false) refl c.well_formed.0 c.place_of.ensures in
    let aimed : let s = c.args in Aimed s.card s.aid.now (stored s.n) c.in-Some.t = asked.target c.in-Some.is in
    let t = profile aimed c.profile-p.ensures in
    rw (inner asked)
    (steps-silently aimed (rw t (ap not (eq-eqb _ personalized c.if-p-ne-PERSONALIZED.false))) refl refl (rw t (asks c.has_room.ensures c.if-not-has_room.false))
    c.rewritten.ensures (rw (c.with_used.ensures, t, aimed.place)) refl c.silently.ensures)
