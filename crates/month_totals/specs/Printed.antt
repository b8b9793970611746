-- Document 02, 2026-01: "The totals add up to the ticks in the file", said of the text that is printed: what is read off both forms
-- (month_report/specs/ReadOff.antt) of a file that is accepted.
use Rattle.std.specs.Prelude.{ℕ, ◌<◌, ◌≡◌, List, [], ◌∷◌, ◌++◌, map, true, false, not, length, get_or, ltb, Some}
use Rattle.card_isdp.specs.Aids.{no_aid, bytes_of}
use Rattle.card_isdp.specs.declared.Aid.{Aid}
use Rattle.card_record.specs.declared.Card.{Card}
use Rattle.rule_run.specs.Calls.{Call}
use Rattle.rule_run.specs.Step.{answers}
use Rattle.rule_run.specs.Runs.{ticks_among}
use Rattle.text_words.specs.Letters.{text}
use Rattle.text_words.specs.Hex.{hex_text}
use Rattle.text_words.specs.RoundTrips.{Octets}
use Rattle.month_tally.specs.Lines.{same_aid}
use Rattle.month_report.specs.ReadOff.{PlainLine, plain_line, read_off, read_signed, aid_off, lines_above, number_on, numbers_added, rest_lines}
use Rattle.month_file.specs.File.{Verdict.Accepted, verdict_of, file_events, file_calls}
use Rattle.month_count.specs.Month.{file_card}
use Rattle.month_count.specs.Statements.{how_many, is_refusal, figure, is_among_aids}
use Rattle.month_account.specs.Account.{account_text}
use Rattle.month_totals.specs.Written.{ever_enabled, with_lines}

-- the lines that a file's calls have: of each AID its hex and its figure, and the rest where there is a 65th
abbrev pub figure_line : Card → List Call → Aid → PlainLine
figure_line c calls a = plain_line (hex_text (bytes_of a)) (figure c calls (same_aid a))

abbrev pub figure_lines : Card → List Call → List PlainLine
figure_lines c calls =
    map (figure_line c calls) (with_lines c calls)
    ++ rest_lines (ltb 64 (length (ever_enabled c calls))) (figure c calls (λ a. not (is_among_aids a (with_lines c calls))))

-- what a reader reads off the text; `last` are the lines after `events`
pub record Printed (s : List ℕ) (last read : List PlainLine) : Type 0 where
  pub lines :
      read
      ≡ figure_lines (file_card s) (file_calls s)
      ++ plain_line (text "ticks") (ticks_among (file_calls s)) ∷ plain_line (text "events") (length (file_events s)) ∷ last
  -- the printed numbers above `ticks` add up to the printed number after it, and that is the ticks of the file
  pub add-up : numbers_added (lines_above (text "ticks") read) ≡ number_on (text "ticks") read
  pub ticks : number_on (text "ticks") read ≡ Some (ticks_among (file_calls s))
  -- the printed number of events is that of the events in the file
  pub events : number_on (text "events") read ≡ Some (length (file_events s))
  -- the word of a line spells its AID, whatever its length
  pub aids :
      (i : ℕ) (none : PlainLine) → i < length (with_lines (file_card s) (file_calls s))
      → Octets (bytes_of (get_or (with_lines (file_card s) (file_calls s)) i no_aid))
      → aid_off (get_or read i none) ≡ bytes_of (get_or (with_lines (file_card s) (file_calls s)) i no_aid)

-- the refused events as a line of the form for a person
abbrev pub refused_line : Card → List Call → PlainLine
refused_line c calls = plain_line (text "refused") (how_many is_refusal (answers c calls))

pub record BothPrinted (s : List ℕ) : Type 0 where
  pub plain : Printed s [] (read_off (account_text false s))
  pub explained : Printed s (refused_line (file_card s) (file_calls s) ∷ []) (read_signed (account_text true s))

abbrev pub PrintedAddsUp : Type 0
PrintedAddsUp = (s : List ℕ) → verdict_of s ≡ Accepted → BothPrinted s
