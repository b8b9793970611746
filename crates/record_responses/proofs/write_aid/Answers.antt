-- `record_responses::write_aid`: tag and length, then the AID's bytes.
use Rattle.base_bytes.proofs.PutLaws.{written_as, written_then}
use Rattle.record_responses.proofs.write_aid.Goals as goal

pub returns : goal.returns
returns c = written_as _ (rw (c.size.ensures.0, c.as_slice.ensures)) (written_then c.bytes.ensures c.bytes-2.ensures)
