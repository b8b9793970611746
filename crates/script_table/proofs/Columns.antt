-- The rows of the table stand under each other: a number of up to seven digits fills its column, and so do the state, the fall-back and
-- the mark of provisioning capability.
-- Assumes nothing.
use native.Mathlib.Omega.{arith}
use lib.ListN.{length-append}
use lib.Dec.{eqb}
use Rattle.script_table.specs.Profiles.{name_cells, figure_cells, role_cells, row_text, Aligned}
use Rattle.text_words.proofs.HexLaws.{hex-length}
use Rattle.text_words.proofs.ColumnLaws.{spaces-length, column-wide}
use Rattle.script_table.proofs.Lengths.{state-wide, yes-wide, provisioning-wide}

pub aligned : Aligned
unfolding row_text name_cells figure_cells role_cells
aligned p place holder widest h i j k =
    simp (length-append, hex-length, spaces-length)
    (omega (
      arith,
      column-wide place h,
      state-wide p.life,
      column-wide p.quota i,
      column-wide p.used j,
      yes-wide (eqb place holder) 6,
      provisioning-wide p.mark,
    ))
