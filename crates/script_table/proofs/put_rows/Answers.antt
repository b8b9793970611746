-- `script_table::put_rows`: one row more.
use native.Mathlib.Omega.{arith}
use mathlib.Core.Path.{ap, sym}
use Rattle.std.proofs.lemmas.List.{take_all}
use Rattle.base_bytes.proofs.PutLaws.{written_none, written_then, written_as}
use Rattle.script_table.specs.Profiles.{rows_text}
use Rattle.script_table.proofs.Pieces.{rows_more}
use Rattle.script_table.proofs.put_rows.Goals as goal

pub loop-place-init : goal.loop-place-init
unfolding rows_text
loop-place-init c = written_none _

pub loop-place-preserved : goal.loop-place-preserved
loop-place-preserved c = let a = c.args in
    written_as _ (sym (rows_more a.holder a.widest a.places.now c.loop-place.place _ (omega arith))) (written_then c.loop-place.invariant c.put_place.ensures)

pub returns : goal.returns
returns c = let a = c.args in
    written_as _ (ap (rows_text a.holder a.widest 0) (take_all c.loop-place.place a.places.now (omega arith))) c.loop-place.invariant
