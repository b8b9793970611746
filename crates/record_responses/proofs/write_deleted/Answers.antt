-- `record_responses::write_deleted`: nothing where no AID is handed in, else the head and the AID.
use native.Mathlib.Omega.{arith}
use mathlib.Core.Path.{◌≡◌}
use lib.ListN.{length}
use borrow.Author.Rules.{rules}
use Rattle.base_bytes.proofs.PutLaws.{written_as, written_then, written_none}
use Rattle.rule_responses.proofs.Lengths.{deleted-length}
use Rattle.rule_responses.proofs.Rows.{deleted-none, deleted-some}
use Rattle.record_responses.proofs.write_deleted.Goals as goal

pub returns-then-aid-eq0 : goal.returns-then-aid-eq0
returns-then-aid-eq0 c = let n : length c.args.aid.now.bytes ≡ 16 = search rules in
    (written_as _ (deleted-none _ c.if-aid-eq0.true) (written_none _), deleted-length c.args.aid.now (omega arith))

pub returns : goal.returns
returns c = let n : length c.args.aid.now.bytes ≡ 16 = search rules in
    (written_as _ (deleted-some c.args.aid.now _ c.if-aid-eq0.false c.size.ensures.0) (written_then c.bytes.ensures c.write_aid.ensures), deleted-length c.args.aid.now (omega arith))
