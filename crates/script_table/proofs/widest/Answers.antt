-- `script_table::widest`: one place more.
use native.Mathlib.Omega.{arith}
use Rattle.std.proofs.lemmas.Grind.{common_steps}
use Rattle.script_table.specs.Profiles.{widest_of}
use Rattle.script_table.proofs.Pieces.{widest_more}
use Rattle.script_table.proofs.widest.Goals as goal

pub loop-p-init : goal.loop-p-init
unfolding widest_of
loop-p-init c = (omega arith, omega arith)

pub loop-p-preserved : goal.loop-p-preserved
loop-p-preserved c =
    let e = widest_more c.args.places.now c.loop-p.p-index c.aid_size.result _ (omega arith) c.aid_size.ensures.0 in
    (grind (arith, common_steps), grind (arith, common_steps))
