-- The manager's definition meets the demands: it reaches what `run` reaches, every card on the way is sound, and the rest are the
-- theorems about `step` and `run`. Assumes nothing.
use mathlib.Core.Path.{◌≡◌, refl, sym}
use Prim.Native.Nat.{ℕ}
use mathlib.Core.List.{List, [], ◌∷◌, ◌++◌}
use mathlib.Core.Bool.{true}
use Rattle.base_status.specs.StatusWords.{is_done}
use Rattle.card_record.specs.Sound.{sound}
use Rattle.card_record.specs.Ticks.{ticks_to_come, StepsTo}
use Rattle.card_record.specs.declared.Card.{Card}
use Rattle.card_record.proofs.Counts.{steps-are}
use Rattle.card_record.proofs.Outcomes.{decide-ticks}
use Rattle.card_record.proofs.Freshness.{fresh-sound}
use Rattle.rule_steps.specs.Steps.{step_of, response_of}
use Rattle.rule_run.specs.Calls.{Call, Call.Lost, asked}
use Rattle.rule_run.specs.Step.{step, step_by, run}
use Rattle.rule_run.proofs.Kept.{took-sound, step-sound, run_sound}
use Rattle.proof_demands.specs.Change.{Change, LostChange}
use Rattle.rule_run.specs.Runs.{table_word}
use Rattle.rule_run.specs.Inputs.{Inputs, fresh_of}
use Rattle.proof_demands.specs.Engines.{reached, card_after, Meets, manager}
use Rattle.proof_demands.proofs.Openings.{demand-3, lost-network}

reached-run : (calls : List Call) (c : Card) → reached manager tt c calls ≡ run c calls
unfolding reached run
reached-run [] c = refl
reached-run (call ∷ calls) c = reached-run calls (step c call).card

reached-more : (past : List Call) (call : Call) (calls : List Call) (c : Card) → reached manager tt c (past ++ call ∷ calls) ≡ run (step (reached manager tt c past) call).card calls
unfolding reached
reached-more [] call calls c = reached-run calls (step c call).card
reached-more (x ∷ past) call calls c = reached-more past call calls (step c x).card

pub reached-sound : (x : Inputs) → is_done (fresh_of x).status ≡ true → (past : List Call) → sound (card_after manager x past) ≡ true
reached-sound x a past =
    rw (reached-run past (fresh_of x).card)
    (run_sound (fresh_of x).card past (fresh-sound x.eid x.aid x.capacity x.quota x.used x.volatile a))

-- what holds of a change holds of the same cards told otherwise
retold : (w p f : List ℕ) (n : ℕ) (r s : List Call → Card) → ((calls : List Call) → r calls ≡ s calls) → Change w p f n r → Change w p f n s
retold w p f n r s e x = coe 0 1 (i. Change w p f n (λ calls. e calls i)) x

lost-retold : (f : List ℕ) (r s : List Call → Card) → ((calls : List Call) → r calls ≡ s calls) → LostChange f r → LostChange f s
lost-retold f r s e x = coe 0 1 (i. LostChange f (λ calls. e calls i)) x

step-ticks : (c : Card) (call : Call) → sound c ≡ true → (step c call).ticks ≡ ticks_to_come (step c call).card
unfolding step_by
step-ticks c call s =
    let e = decide-ticks c (table_word c call) (step_of c (asked c call)) (response_of c (asked c call)) (took-sound c call) in
    let k : sound (step c call).card ≡ true = step-sound c call s in
    rw k at e

step_counts : (c : Card) (call : Call) → sound c ≡ true → StepsTo (step c call).card (step c call).ticks
step_counts c call s = rw (step-ticks c call s) (steps-are (step c call).card (step-sound c call s))

pub manager-meets : Meets manager
manager-meets =
    record {
      fresh = λ x. refl;
      demand2 = λ x a past call. record { status = refl; response = refl; notification = refl; card = refl };
      demand3 = λ x a past call wanted o.
          retold wanted _ _ _ (run (step (card_after manager x past) call).card) (λ calls. card_after manager x (past ++ call ∷ calls))
          (λ calls. sym (reached-more past call calls (fresh_of x).card))
          (demand-3 (card_after manager x past) call wanted o);
      lost = λ x a past q b.
          lost-retold _ (run (step (card_after manager x past) Lost).card) (λ calls. card_after manager x (past ++ Lost ∷ calls))
          (λ calls. sym (reached-more past Lost calls (fresh_of x).card))
          (lost-network (card_after manager x past) (reached-sound x a past) q b);
      count = λ x a past call. step_counts (card_after manager x past) call (reached-sound x a past);
    }
