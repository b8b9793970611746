-- Demand 1: a refusal's word is no success, so the answer is the refusal of the card as given. One law for every call and for fresh.
use mathlib.Core.Path.{sym, ap, ◌∙◌}
use mathlib.Core.List.{[], ◌∷◌}
use mathlib.Core.Bool.{not}
use Rattle.base_bytes.specs.Put.{put}
use Rattle.base_bytes.proofs.PutLaws.{put-none}
use Rattle.base_status.specs.StatusWords.{is_done}
use Rattle.base_status.specs.Rows.{row, word_of}
use Rattle.base_status.specs.declared.Status.TheVariants.{DataWrong, Done}
use Rattle.card_isdp.specs.Aids.{no_aid}
use Rattle.card_record.specs.Answers.{Outcome}
use Rattle.card_record.specs.Steps.{step_to}
use Rattle.card_record.specs.Fresh.{zero_card, fresh_card, fresh_ok, fresh_outcome}
use Rattle.card_record.specs.declared.Card.{Card}
use Rattle.card_record.proofs.Outcomes.{Refusal, refuses, decided}
use Rattle.card_record.proofs.Freshness.{zero-unsound}
use Rattle.proof_demands.specs.Demand1.{HandedBack, Refusals, Untouched, FreshRefusals, Demand1}
use Rattle.rule_run.proofs.Taken.{refusal}

handed-back : (c : Card) (o : Outcome) → Refusal c o → HandedBack c o
handed-back c o r = record { same-card = r.same-card; no-response = r.no-response; no-notification = r.no-notification }

pub refusals : Refusals
refusals c call e = handed-back c _ (refusal c call e)

pub untouched : Untouched
untouched c call old e = ap (put old 0) (refusals c call e).no-response ∙ put-none old 0

pub fresh-refusals : FreshRefusals
unfolding fresh_outcome
fresh-refusals eid aid capacity quota used volatile e =
    let w = word_of Done (row (not (fresh_ok eid aid capacity quota used)) DataWrong ∷ []) in
    let s = step_to zero_card (fresh_card eid aid capacity quota used volatile) no_aid in
    handed-back zero_card _ (refuses zero_card w s [] (sym (ap is_done (decided zero_card w s [])) ∙ e))

pub demand-1 : Demand1
demand-1 =
    record { refusals = refusals; untouched = untouched; fresh-refusals = fresh-refusals; zeros-unsound = zero-unsound }
