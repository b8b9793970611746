-- `columns::put_spaces` meets its contract: so many spaces as there were turns are written.
use Rattle.base_bytes.proofs.PutLaws.{written_none, written_then, written_as}
use Rattle.text_words.specs.Columns.{spaces}
use Rattle.text_words.proofs.ColumnLaws.{spaces_next}
use Rattle.text_words.proofs.columns.put_spaces.Goals as goal

pub loop-init : goal.loop-init
unfolding spaces
loop-init c = written_none _

pub loop-preserved : goal.loop-preserved
loop-preserved c = written_as _ (spaces_next _) (written_then c.loop.invariant c.byte.ensures)
