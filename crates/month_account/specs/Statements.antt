-- What is written of a file, whole: of a refused one the refusal alone, of any other the report of its month and nothing else. Both hold by the
-- definition of `account_text`: they say how it is to be read.
use Rattle.std.specs.Prelude.{ℕ, ◌≡◌, List, Bool}
use Rattle.month_file.specs.File.{Verdict.Accepted, Verdict.Refused, verdict_of}
use Rattle.month_file.specs.declared.Refusal.{Refusal}
use Rattle.month_count.specs.Month.{month_of}
use Rattle.month_report.specs.Report.{report_text}
use Rattle.month_account.specs.Refusals.{refusal_text}
use Rattle.month_account.specs.Account.{account_text}

pub record AccountSays : Type 0 where
  pub refused : (explain : Bool) (s : List ℕ) (r : Refusal) → verdict_of s ≡ Refused r → account_text explain s ≡ refusal_text explain r
  pub accepted : (explain : Bool) (s : List ℕ) → verdict_of s ≡ Accepted → account_text explain s ≡ report_text explain (month_of s).tally (month_of s).minutes
