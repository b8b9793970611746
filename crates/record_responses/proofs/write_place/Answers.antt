-- `record_responses::write_place`: a place that is not held has nothing to write.
use native.Mathlib.Omega.{arith}
use mathlib.Core.Path.{◌≡◌}
use lib.ListN.{length}
use borrow.Author.Tests.{le-leb}
use Rattle.card_isdp.specs.Sizes.{most_aid}
use Rattle.card_isdp.proofs.Records.{wide}
use Rattle.rule_responses.proofs.Lengths.{row-length}
use Rattle.base_bytes.proofs.PutLaws.{written_as, written_none}
use Rattle.rule_responses.proofs.Rows.{row-none, row-some}
use Rattle.record_responses.proofs.write_place.Goals as goal

pub returns-then-p-eq0 : goal.returns-then-p-eq0
returns-then-p-eq0 c = let p = c.args.p in
    let n : length p.aid.bytes ≡ 16 = wide p _ c.well_formed.1.0 in
    (written_as _ (row-none _ _ _ _ c.if-p-eq0.true) (written_none _), row-length p _ _ _ (le-leb (length p.aid.bytes) most_aid (omega arith)))

pub returns : goal.returns
returns c = let p = c.args.p in
    let n : length p.aid.bytes ≡ 16 = wide p _ c.well_formed.1.0 in
    (written_as _ (row-some _ _ _ _ c.if-p-eq0.false) c.write_row.ensures, row-length p _ _ _ (le-leb (length p.aid.bytes) most_aid (omega arith)))
