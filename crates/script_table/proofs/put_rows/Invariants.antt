-- `script_table::put_rows`: the rows of the places so far are written.
use lib.ListN.{take}
use Rattle.base_bytes.specs.Put.{Written}
use Rattle.script_table.specs.Profiles.{rows_text}
use Rattle.script_table.proofs.put_rows.Given as goal

abbrev pub invariant-loop-place : goal.invariant-loop-place
invariant-loop-place l = Written l.initial.out (rows_text l.holder l.widest 0 (take l.place l.places)) l.out
