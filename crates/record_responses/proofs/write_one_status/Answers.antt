-- `record_responses::write_one_status`: the place and its attribute are those of the definition (`one-row`).
use Rattle.base_bytes.proofs.PutLaws.{written_as}
use Rattle.rule_responses.proofs.Rows.{one-row}
use Rattle.record_responses.proofs.write_one_status.Goals as goal

pub returns : goal.returns
returns c = let e = one-row _ _ _ _ _ _ c.at-p.ensures c.attribute_of.ensures in
    let w = c.write_place.ensures in
    (written_as _ e w.0, rw (← e) w.1)
