-- `explained::put_response`: a line of its own where there is one.
use native.Mathlib.Omega.{arith}
use mathlib.Core.Path.{◌≡◌}
use lib.ListN.{length}
use Rattle.std.proofs.lemmas.Grind.{common_steps}
use Rattle.base_bytes.proofs.PutLaws.{written_as, written_none, written_then}
use Rattle.script_answer.proofs.Pieces.{response-none, response-some}
use Rattle.script_answer.proofs.explained.put_response.Goals as goal

pub returns-then-not-is_empty : goal.returns-then-not-is_empty
returns-then-not-is_empty c = let s = c.args.response.now in
    let some : length s ≡ 0 → ⊥ = grind (arith, common_steps) in
    written_as _ (response-some s some) (written_then (written_then c.bytes.ensures c.put_hex.ensures) c.byte.ensures)

pub returns-else-not-is_empty : goal.returns-else-not-is_empty
returns-else-not-is_empty c = let s = c.args.response.now in
    let none : length s ≡ 0 = grind (arith, common_steps) in
    written_as _ (response-none s none) (written_none _)
