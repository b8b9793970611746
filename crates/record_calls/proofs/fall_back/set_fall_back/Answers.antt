-- `fall_back::set_fall_back`: the rows of the change, the target and its state, each passed or stopped at.
use mathlib.Core.Path.{refl}
use Rattle.base_status.specs.Rows.{word_of}
use Rattle.rule_steps.specs.Asked.{Act.set_fall_back}
use Rattle.record_calls.proofs.Asking.{asks, Aimed, Sought, sought, profile, at_target, at-state, steps-silently}
use Rattle.record_calls.proofs.fall_back.set_fall_back.Goals as goal

pub returns-then-not-is_quiet : goal.returns-then-not-is_quiet
unfolding word_of
returns-then-not-is_quiet c = rw (asks c.is_quiet.ensures c.if-not-is_quiet.true) c.refused.ensures

pub returns-in_default : goal.returns-in_default
returns-in_default c =
    let asked : let s = c.args in Sought s.card s.aid.now set_fall_back c.place_of.result = sought _ _ set_fall_back refl (asks c.is_quiet.ensures c.if-not-is_quiet.false) c.well_formed.0 c.place_of.ensures in
    rw (at_target asked c.in_default.is) c.refused-in_default.ensures

pub returns-then-not-may_be_fall_back : goal.returns-then-not-may_be_fall_back
returns-then-not-may_be_fall_back c =
    let asked : let s = c.args in Sought s.card s.aid.now set_fall_back c.place_of.result = sought _ _ set_fall_back refl (asks c.is_quiet.ensures c.if-not-is_quiet.false) c.well_formed.0 c.place_of.ensures in
    let aimed : let s = c.args in Aimed s.card s.aid.now set_fall_back c.in-Some.t = asked.target c.in-Some.is in
    let a = aimed in
    rw (at-state a (rw (profile a c.profile-p.ensures) (asks c.may_be_fall_back.ensures c.if-not-may_be_fall_back.true))) c.refused-then-not-may_be_fall_back.ensures

pub returns : goal.returns
returns c =
    let asked : let s = c.args in Sought s.card s.aid.now set_fall_back c.place_of.result = sought _ _ set_fall_back refl (asks c.is_quiet.ensures c.if-not-is_quiet.false) c.well_formed.0 c.place_of.ensures in
    let aimed : let s = c.args in Aimed s.card s.aid.now set_fall_back c.in-Some.t = asked.target c.in-Some.is in
    let a = aimed in
    steps-silently a (rw (profile a c.profile-p.ensures) (asks c.may_be_fall_back.ensures c.if-not-may_be_fall_back.false)) refl refl refl
    c.with_fallback.ensures (rw a.place) refl c.silently.ensures
