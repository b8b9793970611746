-- What is printed of a file: the figures of its count have fewer than 32 bits, since no file has more events than bytes; so what is read off the text
-- is these figures, and they add up. Assumes nothing.
use Rattle.std.specs.Prelude.{Some}
use Prim.Native.Nat.{ℕ, zero, suc, ◌+◌, ◌≤◌, ◌<◌}
use mathlib.Core.Path.{◌≡◌, refl, ap, sym, subst, ◌∙◌}
use mathlib.Core.List.{List, [], ◌∷◌, map}
use mathlib.Core.Bool.{Bool, true, false, not, cond}
use native.Mathlib.Omega.{arith}
use lib.ListN.{length, get_or, drop, length-take, length-drop}
use Rattle.base_bytes.specs.Bytes.{part_of}
use Rattle.base_bytes.specs.declared.Part.{Part}
use Rattle.base_choice.proofs.Branches.{on_test}
use Rattle.card_isdp.specs.Aids.{no_aid, bytes_of}
use Rattle.card_isdp.specs.declared.Aid.{Aid}
use Rattle.card_record.specs.declared.Card.{Card}
use Rattle.rule_run.specs.Calls.{Call}
use Rattle.rule_run.specs.Step.{answers}
use Rattle.rule_run.specs.Runs.{is_tick, ticks_among}
use Rattle.text_words.specs.RoundTrips.{Octets}
use Rattle.month_contents.specs.Contents.{most_file, events_kind, section_of}
use Rattle.month_events.specs.Events.{events_within, events_of, first_cut, first_stop}
use Rattle.month_tally.specs.Lines.{same_aid}
use Rattle.month_report.specs.Report.{report_text}
use Rattle.month_report.specs.ReadOff.{PlainLine, most_figure, aid_off, FiguresFit, aid_lines, ReportRead}
use Rattle.month_report.proofs.ReadOff.{reports-read}
use Rattle.month_file.specs.File.{Verdict.Accepted, part_in, body_of, file_events, file_calls, verdict_of}
use Rattle.month_file.proofs.Accepted.{accepted}
use Rattle.month_count.specs.Month.{Counted, file_card, month_of}
use Rattle.month_count.specs.Statements.{how_many, is_refusal, figure, splits, counts_for, lines_in, FileTold, is_among_aids}
use Rattle.month_count.proofs.Files.{file-counted}
use Rattle.month_count.proofs.Splits.{every-split}
use Rattle.month_account.specs.Account.{account_text}
use Rattle.month_totals.specs.Written.{with_lines}
use Rattle.month_totals.specs.Printed.{figure_line, Printed, BothPrinted, PrintedAddsUp}
use Rattle.month_count.proofs.Turns.{at_most_one}

-- no count passes the number of the calls, and no file has more calls than bytes
many-most : {A : Type 0} (t : A → Bool) (l : List A) → how_many t l ≤ length l
unfolding how_many
many-most t [] = omega arith
many-most t (x ∷ xs) = let h = many-most t xs in let k = at_most_one (t x) in omega arith

figure-most : (c : Card) (calls : List Call) (test : Aid → Bool) → figure c calls test ≤ length calls
figure-most c calls test = omega (arith, many-most (counts_for c test) (splits calls), every-split.as_many calls)

ticks-most : (calls : List Call) → ticks_among calls ≤ length calls
unfolding ticks_among
ticks-most [] = omega arith
ticks-most (call ∷ calls) = let h = ticks-most calls in let k = at_most_one (is_tick call) in omega arith

events-most : (n : ℕ) (b : List ℕ) → length (events_within n b) ≤ n
unfolding events_within
events-most zero b = omega arith
events-most (suc n) [] = omega arith
events-most (suc n) (x ∷ b) =
    let h = events-most n (drop (first_stop (x ∷ b)) (x ∷ b)) in
    on_test (first_cut (x ∷ b)) (λ e. rw e (omega arith)) (λ e. rw e (omega arith))

part-most : (s : List ℕ) (p : Part) → length (part_of s p) ≤ length s
part-most s p = omega (arith, length-take p.len (drop p.start s), length-drop p.start s)

file-most : (s : List ℕ) → verdict_of s ≡ Accepted → length (file_events s) ≤ most_file
unfolding events_of
file-most s e =
    omega (
      arith,
      events-most (length (body_of s events_kind)) (body_of s events_kind),
      part-most s (part_in (section_of s events_kind)),
      (accepted s e).size,
    )

-- the figures of a count as the calls have them, in the lines that have to be read
lines-figured : (c : Card) (calls : List Call) (minutes : List ℕ) (i : ℕ) (aids : List Aid) → ((j : ℕ) → j < length aids → get_or minutes (i + j) 0 ≡ figure c calls (same_aid (get_or aids j no_aid))) → aid_lines minutes i aids ≡ map (figure_line c calls) aids
unfolding aid_lines
lines-figured c calls minutes i [] f = refl
lines-figured c calls minutes i (a ∷ aids) f =
    let here : get_or minutes i 0 ≡ figure c calls (same_aid a) = ap (λ (k : ℕ). get_or minutes k 0) (omega arith) ∙ f 0 (omega arith) in
    let rest = lines-figured c calls minutes (suc i) aids (λ j h. ap (λ (k : ℕ). get_or minutes k 0) (omega arith) ∙ f (suc j) (omega arith)) in
    rw (here, rest)

module _ (s : List ℕ) (e : verdict_of s ≡ Accepted) (told : FileTold s (month_of s)) where
  abbrev k : Counted
  k = month_of s

  most : length (file_calls s) ≤ most_figure
  most = omega (arith, file-most s e, told.calls)

  fit : FiguresFit k.tally k.minutes
  fit =
      record {
        lines = λ i h. omega (arith, told.lines.line i h, figure-most (file_card s) (file_calls s) (same_aid (get_or (lines_in k) i no_aid)), most);
        rest = omega (arith, told.lines.rest, figure-most (file_card s) (file_calls s) (λ a. not (is_among_aids a (lines_in k))), most);
        ticks = omega (arith, told.ticks.ticks, ticks-most (file_calls s), most);
        events = omega (arith, told.events.events, most);
        refused = omega (arith, told.events.refused, many-most is_refusal (answers (file_card s) (file_calls s)), told.events.answered, most);
      }

  is-text : (explain : Bool) → account_text explain s ≡ report_text explain k.tally k.minutes
  unfolding account_text
  is-text explain = rw e

  -- the figures of the count are those of the file
  of-file : {last read : List PlainLine} → ReportRead k.tally k.minutes last read → Printed s last read
  of-file {last} {read} r =
      let c = file_card s in
      let calls = file_calls s in
      let minutes = k.minutes in
      let say = told.lines in
      let line = subst (λ (aids : List Aid). (i : ℕ) → i < length aids → get_or minutes i 0 ≡ figure c calls (same_aid (get_or aids i no_aid))) say.aids say.line in
      let some = lines-figured c calls minutes 0 (with_lines c calls) (λ j h. ap (λ (i : ℕ). get_or minutes i 0) (omega arith) ∙ line j h) in
      let ticks = told.ticks.ticks in
      let events = told.events.events ∙ told.calls in
      let printed = r.ticks ∙ ap Some ticks in
      record {
        lines = r.lines ∙ rw (ticks, events, say.more, say.rest, say.aids, some);
        add-up = r.added ∙ ap Some told.ticks.lines ∙ sym printed;
        ticks = printed;
        events = r.events ∙ ap Some events;
        aids = subst (λ (aids : List Aid). (i : ℕ) (l : PlainLine) → i < length aids → Octets (bytes_of (get_or aids i no_aid)) → aid_off (get_or read i l) ≡ bytes_of (get_or aids i no_aid)) say.aids r.aids;
      }

  both-printed : BothPrinted s
  both-printed =
      let both = reports-read k.tally k.minutes fit in
      record {
        plain = rw (is-text false) (of-file both.plain);
        explained = rw (is-text true) (rw told.events.refused at (of-file both.explained));
      }

pub printed-adds-up : PrintedAddsUp
printed-adds-up s e = both-printed s e (rw e at (file-counted s e))
