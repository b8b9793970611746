-- `record_responses::write_row`: the head and the three elements one after the other are the row (`status-row`).
use Rattle.base_bytes.proofs.PutLaws.{written_as, written_then}
use Rattle.rule_responses.proofs.Rows.{status-row}
use Rattle.record_responses.proofs.write_row.Goals as goal

pub returns : goal.returns
returns c = let s = c.args in
    let whole = written_then (written_then (written_then c.bytes.ensures c.write_aid.ensures) c.write_listed.ensures) c.write_listed-2.ensures in
    written_as _ (status-row s.p s.attribute s.tags.life s.tags.fall_back _ _ c.size.ensures.0 c.listed_size.ensures) whole
