-- `deletion::delete`: the rows of the change, the target, whether it may be deleted and its policy, each passed or stopped at.
use mathlib.Core.Path.{◌≡◌, refl, sym, ◌∙◌}
use mathlib.Core.Bool.{false}
use native.Mathlib.Omega.{arith}
use borrow.Author.Rules.{rules}
use Rattle.base_bytes.proofs.PutLaws.{wrote_by}
use Rattle.base_status.specs.Rows.{word_of}
use Rattle.rule_steps.specs.Asked.{Act.delete}
use Rattle.rule_steps.specs.Conditions.{act_state_wrong}
use Rattle.record_calls.proofs.Asking.{asks, Aimed, Sought, sought, profile, at_target, at-state, at-policy, steps-into}
use Rattle.record_calls.proofs.Accepted.{kept}
use Rattle.record_calls.proofs.deletion.delete.Goals as goal

pub returns-then-not-is_quiet : goal.returns-then-not-is_quiet
unfolding word_of
returns-then-not-is_quiet c = rw (asks c.is_quiet.ensures c.if-not-is_quiet.true) (kept c.refused.ensures)

pub returns-in_default : goal.returns-in_default
returns-in_default c =
    let asked : let s = c.args in Sought s.card s.aid.now delete c.place_of.result = sought _ _ delete refl (asks c.is_quiet.ensures c.if-not-is_quiet.false) c.well_formed.0 c.place_of.ensures in
    rw (at_target asked c.in_default.is) (kept c.refused-in_default.ensures)

pub returns-then-not-may_be_deleted : goal.returns-then-not-may_be_deleted
returns-then-not-may_be_deleted c =
    let asked : let s = c.args in Sought s.card s.aid.now delete c.place_of.result = sought _ _ delete refl (asks c.is_quiet.ensures c.if-not-is_quiet.false) c.well_formed.0 c.place_of.ensures in
    let aimed : let s = c.args in Aimed s.card s.aid.now delete c.in-Some.t = asked.target c.in-Some.is in
    let a = aimed in
    rw (at-state a (rw a.place (asks c.may_be_deleted.ensures c.if-not-may_be_deleted.true))) (kept c.refused-then-not-may_be_deleted.ensures)

pub returns-then-forbids_deletion : goal.returns-then-forbids_deletion
returns-then-forbids_deletion c =
    let asked : let s = c.args in Sought s.card s.aid.now delete c.place_of.result = sought _ _ delete refl (asks c.is_quiet.ensures c.if-not-is_quiet.false) c.well_formed.0 c.place_of.ensures in
    let aimed : let s = c.args in Aimed s.card s.aid.now delete c.in-Some.t = asked.target c.in-Some.is in
    let state : let s = c.args in act_state_wrong s.card s.aid.now delete ≡ false = rw aimed.place (asks c.may_be_deleted.ensures c.if-not-may_be_deleted.false) in
    let a = aimed in
    rw (at-policy a state (rw (profile a c.profile-p.ensures) (sym c.forbids_deletion.ensures ∙ c.if-forbids_deletion.true))) (kept c.refused-then-forbids_deletion.ensures)

pub returns : goal.returns
returns c =
    let asked : let s = c.args in Sought s.card s.aid.now delete c.place_of.result = sought _ _ delete refl (asks c.is_quiet.ensures c.if-not-is_quiet.false) c.well_formed.0 c.place_of.ensures in
    let aimed : let s = c.args in Aimed s.card s.aid.now delete c.in-Some.t = asked.target c.in-Some.is in
    let state : let s = c.args in act_state_wrong s.card s.aid.now delete ≡ false = rw aimed.place (asks c.may_be_deleted.ensures c.if-not-may_be_deleted.false) in
    let a = aimed in
    steps-into a state (rw (profile a c.profile-p.ensures) (sym c.forbids_deletion.ensures ∙ c.if-forbids_deletion.false)) refl refl
    c.cleared.ensures (rw a.place) refl c.silently.ensures (wrote_by c.new-out.ensures.as_lent (search rules) c.byte.ensures) (omega arith)
