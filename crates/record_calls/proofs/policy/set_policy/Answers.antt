-- `policy::set_policy`: the rows of the values, the change, the target and its state, each passed or stopped at.
use mathlib.Core.Path.{refl, ap, ap₂}
use mathlib.Core.Bool.{not, ◌&&◌}
use borrow.Author.Tests.{eq-eqb, ne_eqb}
use Rattle.base_status.specs.Rows.{word_of}
use Rattle.card_isdp.specs.LifeCycle.{enabled}
use Rattle.rule_steps.specs.Asked.{Act.set_policy}
use Rattle.record_calls.proofs.Asking.{asks, Aimed, Sought, sought, profile, inner, at_target, at-state, steps-silently}
use Rattle.record_calls.proofs.policy.set_policy.Goals as goal

pub returns-then-not-aid_ok-policy_ok : goal.returns-then-not-aid_ok-policy_ok
unfolding word_of
returns-then-not-aid_ok-policy_ok c =
    let values = ap₂ ◌&&◌ c.aid_ok.ensures c.policy_ok.ensures in
    rw (asks values c.if-not-aid_ok-policy_ok.true) c.refused.ensures

pub returns-then-not-is_quiet : goal.returns-then-not-is_quiet
unfolding word_of
returns-then-not-is_quiet c =
    let values = ap₂ ◌&&◌ c.aid_ok.ensures c.policy_ok.ensures in
    rw (asks values c.if-not-aid_ok-policy_ok.false, asks c.is_quiet.ensures c.if-not-is_quiet.true) c.refused-then-not-is_quiet.ensures

pub returns-in_default : goal.returns-in_default
returns-in_default c =
    let values = ap₂ ◌&&◌ c.aid_ok.ensures c.policy_ok.ensures in
    let asked : let s = c.args in Sought s.card s.speaker.now (set_policy s.policy) c.place_of.result = sought _ _ (set_policy c.args.policy) (asks values c.if-not-aid_ok-policy_ok.false) (asks c.is_quiet.ensures c.if-not-is_quiet.false) c.well_formed.0 c.place_of.ensures in
    let s = asked in rw (inner s, at_target s c.in_default.is) c.refused-in_default.ensures

pub returns-then-p-ne-ENABLED : goal.returns-then-p-ne-ENABLED
returns-then-p-ne-ENABLED c =
    let values = ap₂ ◌&&◌ c.aid_ok.ensures c.policy_ok.ensures in
    let asked : let s = c.args in Sought s.card s.speaker.now (set_policy s.policy) c.place_of.result = sought _ _ (set_policy c.args.policy) (asks values c.if-not-aid_ok-policy_ok.false) (asks c.is_quiet.ensures c.if-not-is_quiet.false) c.well_formed.0 c.place_of.ensures in
    let aimed : let s = c.args in Aimed s.card s.speaker.now (set_policy s.policy) c.in-Some.t = asked.target c.in-Some.is in
    let a = aimed in
    rw (inner asked, at-state a (rw (profile a c.profile-p.ensures) (ap not (ne_eqb _ enabled c.if-p-ne-ENABLED.true)))) c.refused-then-p-ne-ENABLED.ensures

pub returns : goal.returns
returns c =
    let values = ap₂ ◌&&◌ c.aid_ok.ensures c.policy_ok.ensures in
    let asked : let s = c.args in Sought s.card s.speaker.now (set_policy s.policy) c.place_of.result = sought _ _ (set_policy c.args.policy) (asks values c.if-not-aid_ok-policy_ok.false) (asks c.is_quiet.ensures c.if-not-is_quiet.false) c.well_formed.0 c.place_of.ensures in
    let aimed : let s = c.args in Aimed s.card s.speaker.now (set_policy s.policy) c.in-Some.t = asked.target c.in-Some.is in
    let a = aimed in
    let t = profile a c.profile-p.ensures in
    rw (inner asked)
    (steps-silently a (rw t (ap not (eq-eqb _ enabled c.if-p-ne-ENABLED.false))) refl refl refl
    c.rewritten.ensures (rw (c.with_policy.ensures, t, a.place)) refl c.silently.ensures)
