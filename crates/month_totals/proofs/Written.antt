-- What is written: the text of each figure of the count, by what the count says of it; the lines by going down their AIDs. Assumes nothing.
use Prim.Native.Nat.{ℕ, suc, ◌+◌, ◌<◌}
use mathlib.Core.Path.{◌≡◌, refl, ap, subst, ◌∙◌}
use native.Mathlib.Omega.{arith}
use mathlib.Core.List.{List, [], ◌∷◌}
use mathlib.Core.Bool.{Bool, true, false}
use lib.ListN.{length, get_or}
use Rattle.base_choice.specs.Choice.{pick, is_below, is_same}
use Rattle.text_words.specs.Hex.{hex_text, glyph_of}
use Rattle.text_words.specs.Numbers.{digits_text}
use Rattle.card_isdp.specs.Aids.{no_aid, padded}
use Rattle.card_isdp.specs.declared.Aid.{Aid}
use Rattle.card_record.specs.declared.Card.{Card}
use Rattle.rule_run.specs.Calls.{Call}
use Rattle.rule_run.specs.Runs.{ticks_among}
use Rattle.text_words.specs.Letters.{text}
use Rattle.text_words.specs.Columns.{spaces, lead_of, column_text}
use Rattle.month_tally.specs.Lines.{same_aid}
use Rattle.month_report.specs.Report.{figure_text, share_lead, percent_text, share_text, plain_text, minutes_text, total_text, aid_line, lines_text, rest_text, report_head, refused_text, totals_text, report_text}
use Rattle.month_file.specs.File.{file_calls}
use Rattle.month_account.specs.Account.{account_text}
use Rattle.month_count.specs.Month.{file_card, file_counted}
use Rattle.month_count.specs.Statements.{figure, month_from}
use Rattle.month_count.proofs.Events.{events-reported}
use Rattle.month_count.proofs.Figures.{what-a-line-says}
use Rattle.month_count.proofs.Sums.{ticks-add-up}
use Rattle.month_totals.specs.Written.{text_of, lines_said, with_lines, report_said, WhatIsWritten, signed, WrittenBeside}
use Rattle.month_totals.specs.RollBack.{file}
use Rattle.month_totals.specs.Examples.{told}
use Rattle.month_totals.proofs.WrongReports.{beside}

-- from the line i on
lines-said : (explain : Bool) (c : Card) (calls : List Call) (minutes : List ℕ) (i : ℕ) (aids : List Aid) → ((j : ℕ) → j < length aids → get_or minutes (i + j) 0 ≡ figure c calls (same_aid (get_or aids j no_aid))) → lines_text explain (ticks_among calls) minutes i aids ≡ lines_said explain c calls aids
unfolding lines_text lines_said
lines-said explain c calls minutes i [] f = refl
lines-said explain c calls minutes i (a ∷ aids) f =
    let here : get_or minutes i 0 ≡ figure c calls (same_aid a) = ap (λ (k : ℕ). get_or minutes k 0) (omega arith) ∙ f 0 (omega arith) in
    let rest = lines-said explain c calls minutes (suc i) aids (λ j h. ap (λ (k : ℕ). get_or minutes k 0) (omega arith) ∙ f (suc j) (omega arith)) in
    rw (here, rest)

text-said : (explain : Bool) (c : Card) (calls : List Call) → text_of explain (month_from c calls) ≡ report_said explain c calls
unfolding report_text totals_text
text-said explain c calls =
    let say = what-a-line-says c calls in
    let sum = ticks-add-up c calls in
    let event = events-reported c calls in
    let minutes = (month_from c calls).minutes in
    let line = subst (λ (aids : List Aid). (i : ℕ) → i < length aids → get_or minutes i 0 ≡ figure c calls (same_aid (get_or aids i no_aid))) say.aids say.line in
    let lines = lines-said explain c calls minutes 0 (with_lines c calls) (λ j h. ap (λ (k : ℕ). get_or minutes k 0) (omega arith) ∙ line j h) in
    rw (sum.ticks, event.events, event.refused, say.more, say.rest, say.aids, lines)

pub what-is-written : WhatIsWritten
unfolding account_text
what-is-written explain s accepted = rw accepted (text-said explain (file_card s) (file_calls s))

record Computed : Type 0 where
  enabled : text_of false (told 5 10 15 20) ≡ text "A000000001 5\nA000000002 10\nticks 15\nevents 20\n"
  explained : text_of true (told 5 10 15 20) ≡ signed
  last-named : text_of false (told 0 15 15 20) ≡ text "A000000001 0\nA000000002 15\nticks 15\nevents 20\n"

computed : Computed
unfolding pick is_below is_same padded hex_text glyph_of digits_text spaces lead_of column_text figure_text share_lead percent_text share_text plain_text minutes_text total_text aid_line lines_text rest_text report_head refused_text totals_text report_text
computed = record { enabled = refl; explained = refl; last-named = refl }

-- an accepted file is written as its count
of-count : (explain : Bool) → account_text explain file ≡ text_of explain (file_counted file)
unfolding account_text
of-count explain = rw beside.accepted

pub written-beside : WrittenBeside
written-beside =
    record {
      enabled = of-count false ∙ ap (text_of false) beside.enabled ∙ computed.enabled;
      explained = of-count true ∙ ap (text_of true) beside.enabled ∙ computed.explained;
      last-named = ap (text_of false) beside.last-named ∙ computed.last-named;
    }
