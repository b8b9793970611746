-- `fresh_answer` meets its contract: the parts that it names are the EID and the AID of the inputs.
use mathlib.Core.Path.{◌≡◌}
use native.Mathlib.Omega.{arith}
use lib.ListN.{length, take, drop, length-drop}
use lib.Seq.{take_all}
use Rattle.month_file.specs.Inputs.{fresh_answer}
use Rattle.month_file.proofs.fresh_answer.Goals as goal

pub returns : goal.returns
unfolding fresh_answer
returns c = let f = c.args.f.now in
    let e : take (length f) (drop 32 f) ≡ drop 32 f = take_all (length f) (drop 32 f) (omega (arith, length-drop 32 f)) in
    rw (c.fresh.ensures, c.part_of.ensures, c.part_of-2.ensures, e, c.read_four.ensures, c.read_four-2.ensures, c.read_four-3.ensures, c.read_four-4.ensures)
