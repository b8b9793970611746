-- `loading::finished`: the rows of the values, the target and its state, each passed or stopped at.
use mathlib.Core.Path.{ap, ap₂, ◌≡◌, refl}
use mathlib.Core.Bool.{Bool, true, false, not, ◌&&◌}
use lib.Dec.{ltb, eqb}
use Rattle.base_status.specs.Rows.{word_of}
use Rattle.card_isdp.specs.LifeCycle.{personalized}
use Rattle.card_isdp.specs.declared.Isdp.{Isdp}
use Rattle.rule_steps.specs.Asked.{Act.finished}
use Rattle.record_calls.proofs.Asking.{asks, Aimed, Sought, sought, profile, inner, at_target, at-state, steps-silently}
use Rattle.record_calls.proofs.loading.finished.Goals as goal

-- the state is asked as the negation of this
abbrev finishable : Isdp → Bool
finishable p = eqb p.life personalized && ltb 0 p.used

pub returns-then-not-aid_ok-policy_ok : goal.returns-then-not-aid_ok-policy_ok
unfolding word_of
returns-then-not-aid_ok-policy_ok c =
    let values = ap₂ ◌&&◌ c.aid_ok.ensures (ap₂ ◌&&◌ c.policy_ok.ensures c.mark_ok.ensures) in
    rw (asks values c.if-not-aid_ok-policy_ok.true) c.refused.ensures

pub returns-in_default : goal.returns-in_default
returns-in_default c =
    let values = ap₂ ◌&&◌ c.aid_ok.ensures (ap₂ ◌&&◌ c.policy_ok.ensures c.mark_ok.ensures) in
    let asked : let s = c.args in Sought s.card s.aid.now (finished s.policy s.mark) c.place_of.result = sought _ _ (finished c.args.policy c.args.mark) (asks values c.if-not-aid_ok-policy_ok.false) refl c.well_formed.0 c.place_of.ensures in
    let s = asked in rw (inner s, at_target s c.in_default.is) c.refused-in_default.ensures

pub returns-then-not-done : goal.returns-then-not-done
returns-then-not-done c =
    let values = ap₂ ◌&&◌ c.aid_ok.ensures (ap₂ ◌&&◌ c.policy_ok.ensures c.mark_ok.ensures) in
    let asked : let s = c.args in Sought s.card s.aid.now (finished s.policy s.mark) c.place_of.result = sought _ _ (finished c.args.policy c.args.mark) (asks values c.if-not-aid_ok-policy_ok.false) refl c.well_formed.0 c.place_of.ensures in
    let aimed : let s = c.args in Aimed s.card s.aid.now (finished s.policy s.mark) c.in-Some.t = asked.target c.in-Some.is in
    let a = aimed in
    let n : not (finishable c.profile-p.result) ≡ true = ap not c.if-not-done.true in
    rw (inner asked, at-state a (rw (profile a c.profile-p.ensures) n)) c.refused-then-not-done.ensures

pub returns : goal.returns
returns c =
    let values = ap₂ ◌&&◌ c.aid_ok.ensures (ap₂ ◌&&◌ c.policy_ok.ensures c.mark_ok.ensures) in
    let asked : let s = c.args in Sought s.card s.aid.now (finished s.policy s.mark) c.place_of.result = sought _ _ (finished c.args.policy c.args.mark) (asks values c.if-not-aid_ok-policy_ok.false) refl c.well_formed.0 c.place_of.ensures in
    let aimed : let s = c.args in Aimed s.card s.aid.now (finished s.policy s.mark) c.in-Some.t = asked.target c.in-Some.is in
    let a = aimed in
    let t = profile a c.profile-p.ensures in
    let y : not (finishable c.profile-p.result) ≡ false = ap not c.if-not-done.false in
    rw (inner asked)
    (steps-silently a (rw t y) refl refl refl c.rewritten.ensures (rw (c.finish.ensures, t, a.place)) refl c.silently.ensures)
