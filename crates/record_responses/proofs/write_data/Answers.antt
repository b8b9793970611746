-- `record_responses::write_data`: four texts one after the other are the response (`data-bytes`), as short as a row.
use native.Mathlib.Omega.{arith}
use Rattle.base_bytes.proofs.PutLaws.{written_as, written_then}
use Rattle.rule_responses.proofs.Rows.{data-bytes}
use Rattle.rule_responses.proofs.Lengths.{data-length}
use Rattle.record_responses.proofs.write_data.Goals as goal

pub returns : goal.returns
returns c =
    let w = written_then (written_then (written_then c.bytes.ensures c.bytes-2.ensures) c.bytes-3.ensures) c.bytes-4.ensures in
    (written_as _ (data-bytes _ _ c.count_held.ensures) (rw (c.to_be_bytes.ensures, c.to_be_bytes-2.ensures) at w), omega (arith, data-length c.args.card.now))
