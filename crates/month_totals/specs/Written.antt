-- What is written of a file, without the program's table: the report as its calls alone have it, each figure a count over the cards reached.
use Rattle.std.specs.Prelude.{ℕ, ◌≡◌, List, [], ◌∷◌, ◌++◌, Bool, true, false, not, length, take, ltb}
use Rattle.card_isdp.specs.declared.Aid.{Aid}
use Rattle.card_record.specs.declared.Card.{Card}
use Rattle.rule_run.specs.Calls.{Call}
use Rattle.rule_run.specs.Step.{answers}
use Rattle.rule_run.specs.Runs.{ticks_among}
use Rattle.text_words.specs.Letters.{text}
use Rattle.month_tally.specs.Lines.{same_aid}
use Rattle.month_tally.specs.Statements.{firsts}
use Rattle.month_report.specs.Report.{aid_line, rest_text, report_head, total_text, refused_text, report_text}
use Rattle.month_file.specs.File.{Verdict.Accepted, verdict_of, file_calls}
use Rattle.month_count.specs.Month.{Counted, file_card}
use Rattle.month_count.specs.Statements.{how_many, is_refusal, figure, enabled_in, is_among_aids}
use Rattle.month_account.specs.Account.{account_text}
use Rattle.month_totals.specs.Reports.{on_file}
use Rattle.month_totals.specs.RollBack as roll_back
use Rattle.month_totals.specs.WrongReports.{named_report}

-- the text of a count
abbrev pub text_of : Bool → Counted → List ℕ
text_of explain k = report_text explain k.tally k.minutes

-- a line for each AID, with its figure
unfoldable pub lines_said : Bool → Card → List Call → List Aid → List ℕ
lines_said explain c calls [] = []
lines_said explain c calls (a ∷ aids) =
    aid_line explain (ticks_among calls) a (figure c calls (same_aid a)) ++ lines_said explain c calls aids

-- the different AIDs ever enabled, and those that have a line
abbrev pub ever_enabled : Card → List Call → List Aid
ever_enabled c calls = firsts (enabled_in c calls)

abbrev pub with_lines : Card → List Call → List Aid
with_lines c calls = take 64 (ever_enabled c calls)

abbrev pub rest_said : Bool → Card → List Call → List ℕ
rest_said explain c calls =
    rest_text explain (ticks_among calls) (ltb 64 (length (ever_enabled c calls))) (figure c calls (λ a. not (is_among_aids a (with_lines c calls))))

abbrev pub totals_said : Bool → Card → List Call → List ℕ
totals_said explain c calls =
    text "ticks"
    ++ total_text explain 5 (ticks_among calls)
    ++ text "events"
    ++ total_text explain 6 (length calls)
    ++ refused_text explain (how_many is_refusal (answers c calls))

abbrev pub report_said : Bool → Card → List Call → List ℕ
report_said explain c calls =
    report_head explain
    ++ lines_said explain c calls (with_lines c calls)
    ++ rest_said explain c calls
    ++ totals_said explain c calls

-- and that is what is written of a file that is accepted
abbrev pub WhatIsWritten : Type 0
WhatIsWritten =
    (explain : Bool) (s : List ℕ) → verdict_of s ≡ Accepted → account_text explain s ≡ report_said explain (file_card s) (file_calls s)

-- the file of an enable that rolls back, in both forms, and as the buyer's present engine would have it
abbrev pub signed : List ℕ
signed =
    text "AID                               minutes   share\n"
    ++ text "A000000001                              5   33.3%\n"
    ++ text "A000000002                             10   66.7%\n"
    ++ text "ticks                                  15\n"
    ++ text "events                                 20\n"
    ++ text "refused                                 0\n"

pub record WrittenBeside : Type 0 where
  pub enabled : account_text false roll_back.file ≡ text "A000000001 5\nA000000002 10\nticks 15\nevents 20\n"
  pub explained : account_text true roll_back.file ≡ signed
  pub last-named : text_of false (on_file named_report roll_back.file) ≡ text "A000000001 0\nA000000002 15\nticks 15\nevents 20\n"
