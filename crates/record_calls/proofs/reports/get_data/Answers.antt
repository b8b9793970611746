-- `reports::get_data`: nothing changes but that a listing is forgotten, and the figures are written.
use mathlib.Core.Path.{refl}
use native.Mathlib.Omega.{arith}
use borrow.Author.Rules.{rules}
use Rattle.base_bytes.proofs.PutLaws.{wrote_by}
use Rattle.base_status.specs.Rows.{word_of}
use Rattle.record_calls.proofs.Accepted.{silent-written}
use Rattle.record_calls.proofs.reports.get_data.Goals as goal

pub returns : goal.returns
unfolding word_of
returns c = let k = c.write_data.ensures.1 in
    silent-written c.args.card c.forgotten.ensures refl c.silently.ensures (wrote_by c.new-out.ensures.as_lent (search rules) c.write_data.ensures.0) (omega arith)
