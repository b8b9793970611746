-- A report of any make, and what it means that its lines say what they should: `LinesSay` of it, on every file that is accepted.
use Rattle.std.specs.Prelude.{ℕ, ◌<◌, ◌≡◌, List, length, get_or}
use Rattle.card_record.specs.declared.Card.{Card}
use Rattle.rule_run.specs.Calls.{Call}
use Rattle.month_file.specs.File.{Verdict.Accepted, verdict_of, file_calls}
use Rattle.month_count.specs.Month.{Counted, file_card}
use Rattle.month_count.specs.Statements.{month_from, lines_in, rest_minutes, LinesSay}

abbrev pub Report : Type 0
Report = Card → List Call → Counted

abbrev pub on_file : Report → List ℕ → Counted
on_file report s = report (file_card s) (file_calls s)

abbrev pub MeetsLines : Report → Type 0
MeetsLines report = (s : List ℕ) → verdict_of s ≡ Accepted → LinesSay (file_card s) (file_calls s) (on_file report s)

-- the month's does
abbrev pub MonthMeets : Type 0
MonthMeets = MeetsLines month_from

-- the same lines, with the same minutes
pub record SameLines (k m : Counted) : Type 0 where
  pub aids : lines_in k ≡ lines_in m
  pub line : (i : ℕ) → i < length (lines_in k) → get_or k.minutes i 0 ≡ get_or m.minutes i 0
  pub rest : rest_minutes k ≡ rest_minutes m

-- and there is no other: two reports that meet it tell the same
abbrev pub OneReport : Type 0
OneReport =
    (report other : Report) → MeetsLines report → MeetsLines other
    → (s : List ℕ) → verdict_of s ≡ Accepted → SameLines (on_file report s) (on_file other s)
