-- `record_responses::write_rows`: what is still to write, the part from place i on in the room left, leaves what writing all of it leaves; and the
-- place that is left from there on is the one that is left in all.
use mathlib.Core.Path.{◌≡◌}
use lib.ListN.{drop}
use Rattle.base_bytes.specs.declared.writer.Writer.{Writer}
use Rattle.base_bytes.specs.Put.{Written}
use Rattle.rule_responses.specs.Responses.{most_response, part_from, next_row_from}
use Rattle.record_responses.proofs.write_rows.Given as goal

abbrev pub invariant-loop-i : goal.invariant-loop-i
invariant-loop-i l = let s = l.tags in
    ((v : Writer) → Written l.out (part_from l.room l.holder l.i s.life s.fall_back (drop l.i l.places)) v
    → Written l.initial.out (part_from most_response l.holder l.from s.life s.fall_back (drop l.from l.places)) v)
    × (next_row_from l.room l.holder l.i s.life s.fall_back (drop l.i l.places) ≡ next_row_from most_response l.holder l.from s.life s.fall_back (drop l.from l.places))
