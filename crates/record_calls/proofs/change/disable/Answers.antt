-- `change::disable`: the rows of the change, the target, its state (it is not the fall-back) and its policy, each passed or stopped at.
use mathlib.Core.Path.{ap, ◌≡◌, refl, sym, ◌∙◌}
use mathlib.Core.Bool.{not, ◌&&◌}
use lib.Dec.{eqb}
use Rattle.base_status.specs.Rows.{word_of}
use Rattle.card_isdp.specs.LifeCycle.{is_enabled}
use Rattle.rule_steps.specs.Asked.{Act.disable}
use Rattle.rule_steps.specs.Conditions.{act_state_wrong, act_forbidden}
use Rattle.record_calls.proofs.Asking.{asks, Aimed, Sought, sought, profile, at_target, at-state, at-policy, steps}
use Rattle.record_calls.proofs.change.disable.Goals as goal

pub returns-then-not-is_quiet : goal.returns-then-not-is_quiet
unfolding word_of
returns-then-not-is_quiet c = rw (asks c.is_quiet.ensures c.if-not-is_quiet.true) c.refused.ensures

pub returns-in_default : goal.returns-in_default
returns-in_default c =
    let asked : let s = c.args in Sought s.card s.aid.now disable c.place_of.result = sought _ _ disable refl (asks c.is_quiet.ensures c.if-not-is_quiet.false) c.well_formed.0 c.place_of.ensures in
    rw (at_target asked c.in_default.is) c.refused-in_default.ensures

pub returns-then-not-may : goal.returns-then-not-may
returns-then-not-may c =
    let asked : let s = c.args in Sought s.card s.aid.now disable c.place_of.result = sought _ _ disable refl (asks c.is_quiet.ensures c.if-not-is_quiet.false) c.well_formed.0 c.place_of.ensures in
    let aimed : let s = c.args in Aimed s.card s.aid.now disable c.in-Some.t = asked.target c.in-Some.is in
    let state : let s = c.args in act_state_wrong s.card s.aid.now disable ≡ not ((is_enabled c.profile-p.result && not (eqb c.in-Some.t c.args.card.fallback))) = let a = aimed in rw (profile a c.profile-p.ensures, a.place) in
    rw (at-state aimed (state ∙ ap not c.if-not-may.true)) c.refused-then-not-may.ensures

pub returns-then-forbids_disabling : goal.returns-then-forbids_disabling
returns-then-forbids_disabling c =
    let asked : let s = c.args in Sought s.card s.aid.now disable c.place_of.result = sought _ _ disable refl (asks c.is_quiet.ensures c.if-not-is_quiet.false) c.well_formed.0 c.place_of.ensures in
    let aimed : let s = c.args in Aimed s.card s.aid.now disable c.in-Some.t = asked.target c.in-Some.is in
    let state : let s = c.args in act_state_wrong s.card s.aid.now disable ≡ not ((is_enabled c.profile-p.result && not (eqb c.in-Some.t c.args.card.fallback))) = let a = aimed in rw (profile a c.profile-p.ensures, a.place) in
    let policy : let s = c.args in act_forbidden s.card s.aid.now disable ≡ c.forbids_disabling.result = rw (profile aimed c.profile-p.ensures) (sym c.forbids_disabling.ensures) in
    rw (at-policy aimed (state ∙ ap not c.if-not-may.false) (policy ∙ c.if-forbids_disabling.true)) c.refused-then-forbids_disabling.ensures

pub returns : goal.returns
returns c =
    let asked : let s = c.args in Sought s.card s.aid.now disable c.place_of.result = sought _ _ disable refl (asks c.is_quiet.ensures c.if-not-is_quiet.false) c.well_formed.0 c.place_of.ensures in
    let aimed : let s = c.args in Aimed s.card s.aid.now disable c.in-Some.t = asked.target c.in-Some.is in
    let state : let s = c.args in act_state_wrong s.card s.aid.now disable ≡ not ((is_enabled c.profile-p.result && not (eqb c.in-Some.t c.args.card.fallback))) = let a = aimed in rw (profile a c.profile-p.ensures, a.place) in
    let policy : let s = c.args in act_forbidden s.card s.aid.now disable ≡ c.forbids_disabling.result = rw (profile aimed c.profile-p.ensures) (sym c.forbids_disabling.ensures) in
    steps aimed (state ∙ ap not c.if-not-may.false) (policy ∙ c.if-forbids_disabling.false) refl refl
    (rw c.opened.ensures) c.none.ensures c.step_since.ensures c.answer.ensures
