-- `cells::put_yes`: the test tells which word it is, and the spaces follow it.
use Rattle.base_bytes.proofs.PutLaws.{written_then}
use Rattle.base_choice.specs.Choice.{pick}
use Rattle.script_table.specs.Profiles.{yes_text}
use Rattle.script_table.proofs.cells.put_yes.Goals as goal
use Rattle.script_table.proofs.cells.put_yes.Goals.{then-told, else-told}

pub returns : goal.returns
unfolding yes_text pick
returns c = let p = written_then c.bytes.ensures c.put_spaces.ensures in
    elim c.if-told.branch [
      | then-told w ↦ rw w.if-told.true (rw w.bytes-is at p)
      | else-told w ↦ rw w.if-told.false (rw w.bytes-is at p)
    ]
