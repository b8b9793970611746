-- `record_responses::write_listed`: nothing where the element is not asked for.
use Rattle.base_bytes.proofs.PutLaws.{written_none}
use Rattle.record_responses.proofs.write_listed.Goals as goal

pub returns-else-asked : goal.returns-else-asked
returns-else-asked c = rw c.if-asked.false (written_none _)
