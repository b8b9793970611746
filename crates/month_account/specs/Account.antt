-- docs/EVENTS.md: what is written of a file: the refusal, or the report of what was counted.
use Rattle.std.specs.Prelude.{ℕ, List, Bool}
use Rattle.month_file.specs.File.{Verdict, Verdict.Accepted, Verdict.Refused, verdict_of}
use Rattle.month_count.specs.Month.{Counted, file_counted}
use Rattle.month_report.specs.Report.{report_text, most_report}
use Rattle.month_account.specs.Refusals.{refusal_text}

abbrev pub text_by : Bool → Verdict → Counted → List ℕ
text_by explain Accepted k = report_text explain k.tally k.minutes
text_by explain (Refused r) k = refusal_text explain r

unfoldable pub account_text : Bool → List ℕ → List ℕ
account_text explain s = text_by explain (verdict_of s) (file_counted s)

-- no text of a file is longer
abbrev pub most_account : ℕ
most_account = most_report
