-- `columns::put_column` meets its contract: the spaces, then the number.
use mathlib.Core.Path.{ap}
use Rattle.text_words.specs.Columns.{spaces, column_text}
use Rattle.base_bytes.proofs.PutLaws.{written_then, written_as}
use Rattle.text_words.proofs.columns.put_column.Goals as goal

pub returns : goal.returns
unfolding column_text
returns c = written_then (written_as _ (ap spaces c.lead.ensures) c.put_spaces.ensures) c.put_decimal.ensures
