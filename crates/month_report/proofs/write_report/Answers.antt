-- `write_report`: the pieces one after the other.
use borrow.Author.Rules.{rules}
use native.Mathlib.Omega.{arith}
use Rattle.month_report.specs.Report.{report_text}
use Rattle.month_report.proofs.Lengths.{report-length}
use Rattle.text_words.proofs.TextLaws.{writing}
use Rattle.month_report.proofs.write_report.Goals as goal

pub returns : goal.returns
unfolding report_text
returns c = let p = c.put_lines.ensures.0 in
    (search (rules, arith, writing), report-length c.args.explain c.args.tally.now c.args.minutes.now c.put_lines.ensures.1)
