-- `put_lines`: the lines of the AIDs so far are written, and have no more than `most_report_line` a line.
use Prim.Native.Nat.{◌*◌, ◌≤◌}
use lib.ListN.{length, take}
use Rattle.base_bytes.specs.Put.{Written}
use Rattle.month_tally.specs.Lines.{aids_in}
use Rattle.month_report.specs.Report.{lines_text, most_report_line}
use Rattle.month_report.proofs.put_lines.Given as goal

abbrev pub invariant-loop-i : goal.invariant-loop-i
invariant-loop-i l = let done = lines_text l.explain l.ticks l.minutes 0 (take l.i (aids_in l.names)) in
    Written l.initial.out done l.out × (length done ≤ l.i * most_report_line)
