-- `deletion::master_delete`: the rows of the change, the target, whether it may be deleted so and the token verdict, each passed or stopped at.
use mathlib.Core.Path.{◌≡◌, refl, ap}
use mathlib.Core.Bool.{false, not}
use native.Mathlib.Omega.{arith}
use borrow.Author.Tests.{eq-eqb, ne_eqb}
use borrow.Author.Rules.{rules}
use Rattle.base_bytes.proofs.PutLaws.{wrote_by}
use Rattle.base_status.specs.Rows.{word_of}
use Rattle.rule_steps.specs.Asked.{Act.master_delete}
use Rattle.rule_steps.specs.Conditions.{act_state_wrong}
use Rattle.record_calls.proofs.Asking.{asks, Aimed, Sought, sought, at_target, at-state, at-verdict, steps-into}
use Rattle.record_calls.proofs.Accepted.{kept}
use Rattle.record_calls.proofs.deletion.master_delete.Goals as goal

pub returns-then-not-is_quiet : goal.returns-then-not-is_quiet
unfolding word_of
returns-then-not-is_quiet c = rw (asks c.is_quiet.ensures c.if-not-is_quiet.true) (kept c.refused.ensures)

pub returns-in_default : goal.returns-in_default
returns-in_default c =
    let asked : let s = c.args in Sought s.card s.aid.now (master_delete s.verdict) c.place_of.result = sought _ _ (master_delete c.args.verdict) refl (asks c.is_quiet.ensures c.if-not-is_quiet.false) c.well_formed.0 c.place_of.ensures in
    rw (at_target asked c.in_default.is) (kept c.refused-in_default.ensures)

pub returns-then-not-may_be_master_deleted : goal.returns-then-not-may_be_master_deleted
returns-then-not-may_be_master_deleted c =
    let asked : let s = c.args in Sought s.card s.aid.now (master_delete s.verdict) c.place_of.result = sought _ _ (master_delete c.args.verdict) refl (asks c.is_quiet.ensures c.if-not-is_quiet.false) c.well_formed.0 c.place_of.ensures in
    let aimed : let s = c.args in Aimed s.card s.aid.now (master_delete s.verdict) c.in-Some.t = asked.target c.in-Some.is in
    let a = aimed in
    rw (at-state a (rw a.place (asks c.may_be_master_deleted.ensures c.if-not-may_be_master_deleted.true))) (kept c.refused-then-not-may_be_master_deleted.ensures)

pub returns-then-verdict-ne1 : goal.returns-then-verdict-ne1
returns-then-verdict-ne1 c =
    let asked : let s = c.args in Sought s.card s.aid.now (master_delete s.verdict) c.place_of.result = sought _ _ (master_delete c.args.verdict) refl (asks c.is_quiet.ensures c.if-not-is_quiet.false) c.well_formed.0 c.place_of.ensures in
    let aimed : let s = c.args in Aimed s.card s.aid.now (master_delete s.verdict) c.in-Some.t = asked.target c.in-Some.is in
    let state : let s = c.args in act_state_wrong s.card s.aid.now (master_delete s.verdict) ≡ false = rw aimed.place (asks c.may_be_master_deleted.ensures c.if-not-may_be_master_deleted.false) in
    rw (at-verdict aimed state refl (ap not (ne_eqb _ 1 c.if-verdict-ne1.true))) (kept c.refused-then-verdict-ne1.ensures)

pub returns : goal.returns
returns c =
    let asked : let s = c.args in Sought s.card s.aid.now (master_delete s.verdict) c.place_of.result = sought _ _ (master_delete c.args.verdict) refl (asks c.is_quiet.ensures c.if-not-is_quiet.false) c.well_formed.0 c.place_of.ensures in
    let aimed : let s = c.args in Aimed s.card s.aid.now (master_delete s.verdict) c.in-Some.t = asked.target c.in-Some.is in
    let state : let s = c.args in act_state_wrong s.card s.aid.now (master_delete s.verdict) ≡ false = rw aimed.place (asks c.may_be_master_deleted.ensures c.if-not-may_be_master_deleted.false) in
    let a = aimed in
    steps-into a state refl (ap not (eq-eqb _ 1 c.if-verdict-ne1.false)) refl
    c.cleared.ensures (rw a.place) refl c.silently.ensures (wrote_by c.new-out.ensures.as_lent (search rules) c.byte.ensures) (omega arith)
