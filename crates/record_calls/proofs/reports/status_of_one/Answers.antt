-- `reports::status_of_one`: the row of the target is passed or stopped at; then nothing changes but that a listing is forgotten, and its row is written.
use mathlib.Core.Path.{refl}
use native.Mathlib.Omega.{arith}
use Rattle.rule_steps.specs.Asked.{Act.status}
use borrow.Author.Rules.{rules}
use Rattle.base_bytes.proofs.PutLaws.{wrote_by}
use Rattle.record_calls.proofs.Asking.{Aimed, Sought, sought, at_target, steps-into}
use Rattle.record_calls.proofs.Accepted.{kept}
use Rattle.record_calls.proofs.reports.status_of_one.Goals as goal

pub returns-in_default : goal.returns-in_default
returns-in_default c =
    let asked : let s = c.args in Sought s.card s.aid.now (status s.tags.life s.tags.fall_back) c.place_of.result = sought _ _ (status c.args.tags.life c.args.tags.fall_back) refl refl c.well_formed.0 c.place_of.ensures in
    rw (at_target asked c.in_default.is) (kept c.refused.ensures)

pub returns : goal.returns
returns c =
    let asked : let s = c.args in Sought s.card s.aid.now (status s.tags.life s.tags.fall_back) c.place_of.result = sought _ _ (status c.args.tags.life c.args.tags.fall_back) refl refl c.well_formed.0 c.place_of.ensures in
    let aimed : let s = c.args in Aimed s.card s.aid.now (status s.tags.life s.tags.fall_back) c.in-Some.t = asked.target c.in-Some.is in
    let a = aimed in
    let k = c.write_one_status.ensures.1 in
    steps-into a refl refl refl refl c.forgotten.ensures refl refl c.silently.ensures (rw a.place (wrote_by c.new-out.ensures.as_lent (search rules) c.write_one_status.ensures.0)) (rw a.place (omega arith))
