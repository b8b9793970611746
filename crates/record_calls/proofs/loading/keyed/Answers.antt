-- `loading::keyed`: the rows of the AID, the target and its state, each passed or stopped at.
use mathlib.Core.Path.{refl, ap}
use mathlib.Core.Bool.{not}
use borrow.Author.Tests.{eq-eqb, ne_eqb}
use Rattle.base_status.specs.Rows.{word_of}
use Rattle.card_isdp.specs.LifeCycle.{selectable}
use Rattle.rule_steps.specs.Asked.{Act.keyed}
use Rattle.record_calls.proofs.Asking.{asks, Aimed, Sought, sought, profile, inner, at_target, at-state, steps-silently}
use Rattle.record_calls.proofs.loading.keyed.Goals as goal

pub returns-then-not-aid_ok : goal.returns-then-not-aid_ok
unfolding word_of
returns-then-not-aid_ok c = rw (asks c.aid_ok.ensures c.if-not-aid_ok.true) c.refused.ensures

pub returns-in_default : goal.returns-in_default
returns-in_default c =
    let asked : let s = c.args in Sought s.card s.aid.now keyed c.place_of.result = sought _ _ keyed (asks c.aid_ok.ensures c.if-not-aid_ok.false) refl c.well_formed.0 c.place_of.ensures in
    let s = asked in rw (inner s, at_target s c.in_default.is) c.refused-in_default.ensures

pub returns-then-p-ne-SELECTABLE : goal.returns-then-p-ne-SELECTABLE
returns-then-p-ne-SELECTABLE c =
    let asked : let s = c.args in Sought s.card s.aid.now keyed c.place_of.result = sought _ _ keyed (asks c.aid_ok.ensures c.if-not-aid_ok.false) refl c.well_formed.0 c.place_of.ensures in
    let aimed : let s = c.args in Aimed s.card s.aid.now keyed c.in-Some.t = asked.target c.in-Some.is in
    let a = aimed in
    rw (inner asked, at-state a (rw (profile a c.profile-p.ensures) (ap not (ne_eqb _ selectable c.if-p-ne-SELECTABLE.true)))) c.refused-then-p-ne-SELECTABLE.ensures

pub returns : goal.returns
returns c =
    let asked : let s = c.args in Sought s.card s.aid.now keyed c.place_of.result = sought _ _ keyed (asks c.aid_ok.ensures c.if-not-aid_ok.false) refl c.well_formed.0 c.place_of.ensures in
    let aimed : let s = c.args in Aimed s.card s.aid.now keyed c.in-Some.t = asked.target c.in-Some.is in
    let a = aimed in
    let t = profile a c.profile-p.ensures in
    rw (inner asked)
    (steps-silently a (rw t (ap not (eq-eqb _ selectable c.if-p-ne-SELECTABLE.false))) refl refl refl
    c.rewritten.ensures (rw (c.with_life.ensures, t, a.place)) refl c.silently.ensures)
