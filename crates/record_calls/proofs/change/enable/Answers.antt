-- `change::enable`: the rows of the change, the target, its state and the enabled profile's policy, each passed or stopped at.
use mathlib.Core.Path.{◌≡◌, refl, sym, ap, ◌∙◌}
use mathlib.Core.Bool.{false, not}
use borrow.Author.Tests.{eq-eqb, ne_eqb}
use Rattle.base_status.specs.Rows.{word_of}
use Rattle.card_isdp.specs.LifeCycle.{disabled}
use Rattle.rule_steps.specs.Asked.{Act.enable}
use Rattle.rule_steps.specs.Conditions.{act_state_wrong, act_forbidden}
use Rattle.record_calls.proofs.Asking.{asks, Aimed, Sought, sought, profile, at_target, at-state, at-policy, steps}
use Rattle.record_calls.proofs.change.enable.Goals as goal

pub returns-then-not-is_quiet : goal.returns-then-not-is_quiet
unfolding word_of
returns-then-not-is_quiet c = rw (asks c.is_quiet.ensures c.if-not-is_quiet.true) c.refused.ensures

pub returns-in_default : goal.returns-in_default
returns-in_default c =
    let asked : let s = c.args in Sought s.card s.aid.now enable c.place_of.result = sought _ _ enable refl (asks c.is_quiet.ensures c.if-not-is_quiet.false) c.well_formed.0 c.place_of.ensures in
    rw (at_target asked c.in_default.is) c.refused-in_default.ensures

pub returns-then-p-ne-DISABLED : goal.returns-then-p-ne-DISABLED
returns-then-p-ne-DISABLED c =
    let asked : let s = c.args in Sought s.card s.aid.now enable c.place_of.result = sought _ _ enable refl (asks c.is_quiet.ensures c.if-not-is_quiet.false) c.well_formed.0 c.place_of.ensures in
    let aimed : let s = c.args in Aimed s.card s.aid.now enable c.in-Some.t = asked.target c.in-Some.is in
    let a = aimed in
    rw (at-state a (rw (profile a c.profile-p.ensures) (ap not (ne_eqb _ disabled c.if-p-ne-DISABLED.true)))) c.refused-then-p-ne-DISABLED.ensures

pub returns-then-forbids_disabling : goal.returns-then-forbids_disabling
returns-then-forbids_disabling c =
    let asked : let s = c.args in Sought s.card s.aid.now enable c.place_of.result = sought _ _ enable refl (asks c.is_quiet.ensures c.if-not-is_quiet.false) c.well_formed.0 c.place_of.ensures in
    let aimed : let s = c.args in Aimed s.card s.aid.now enable c.in-Some.t = asked.target c.in-Some.is in
    let state : let s = c.args in act_state_wrong s.card s.aid.now enable ≡ false = rw (profile aimed c.profile-p.ensures) (ap not (eq-eqb _ disabled c.if-p-ne-DISABLED.false)) in
    let policy : let s = c.args in act_forbidden s.card s.aid.now enable ≡ c.forbids_disabling.result = rw (← c.enabled_place.ensures, ← c.profile-e.ensures) (sym c.forbids_disabling.ensures) in
    rw (at-policy aimed state (policy ∙ c.if-forbids_disabling.true)) c.refused-then-forbids_disabling.ensures

pub returns : goal.returns
returns c =
    let asked : let s = c.args in Sought s.card s.aid.now enable c.place_of.result = sought _ _ enable refl (asks c.is_quiet.ensures c.if-not-is_quiet.false) c.well_formed.0 c.place_of.ensures in
    let aimed : let s = c.args in Aimed s.card s.aid.now enable c.in-Some.t = asked.target c.in-Some.is in
    let state : let s = c.args in act_state_wrong s.card s.aid.now enable ≡ false = rw (profile aimed c.profile-p.ensures) (ap not (eq-eqb _ disabled c.if-p-ne-DISABLED.false)) in
    let policy : let s = c.args in act_forbidden s.card s.aid.now enable ≡ c.forbids_disabling.result = rw (← c.enabled_place.ensures, ← c.profile-e.ensures) (sym c.forbids_disabling.ensures) in
    let a = aimed in
    steps a state (policy ∙ c.if-forbids_disabling.false) refl refl
    (rw (c.opened.ensures, a.place)) c.none.ensures c.step_since.ensures c.answer.ensures
