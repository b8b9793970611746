-- What the lines say settles them: both are the same AIDs, and the same figures of the same AIDs. Assumes nothing.
use mathlib.Core.Path.{ap, sym, subst, ◌∙◌}
use Prim.Native.Nat.{◌<◌}
use mathlib.Core.List.{List}
use mathlib.Core.Bool.{not}
use lib.ListN.{length, get_or}
use Rattle.card_isdp.specs.Aids.{no_aid}
use Rattle.card_isdp.specs.declared.Aid.{Aid}
use Rattle.card_record.specs.declared.Card.{Card}
use Rattle.rule_run.specs.Calls.{Call}
use Rattle.month_tally.specs.Lines.{same_aid}
use Rattle.month_file.specs.File.{file_calls}
use Rattle.month_count.specs.Month.{Counted, file_card}
use Rattle.month_count.specs.Statements.{is_among_aids, figure, LinesSay}
use Rattle.month_count.proofs.Figures.{what-a-line-says}
use Rattle.month_totals.specs.Reports.{on_file, MonthMeets, SameLines, OneReport}

pub month-meets : MonthMeets
month-meets s accepted = what-a-line-says (file_card s) (file_calls s)

same_lines : (c : Card) (calls : List Call) (k m : Counted) → LinesSay c calls k → LinesSay c calls m → SameLines k m
same_lines c calls k m p q =
    let aids = p.aids ∙ sym q.aids in
    record {
      aids = aids;
      line = λ i h.
          p.line i h
          ∙ ap (λ (lines : List Aid). figure c calls (same_aid (get_or lines i no_aid))) aids
          ∙ sym (q.line i (subst (λ (lines : List Aid). i < length lines) aids h));
      rest = p.rest ∙ ap (λ (lines : List Aid). figure c calls (λ a. not (is_among_aids a lines))) aids ∙ sym q.rest;
    }

pub one-report : OneReport
one-report report other p q s accepted =
    same_lines (file_card s) (file_calls s) (on_file report s) (on_file other s) (p s accepted) (q s accepted)
