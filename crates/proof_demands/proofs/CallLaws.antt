-- The answer to a written command is the outcome of what was written, and that of an inner call or a report the outcome of its work, so each
-- is told by its law. Assumes nothing.
use mathlib.Core.Path.{◌≡◌, refl, sym, subst, ◌∙◌}
use Prim.Native.Nat.{ℕ}
use mathlib.Core.List.{List, [], ◌∷◌}
use mathlib.Core.Bool.{Bool, true, false, not, cond}
use Rattle.base_status.specs.Rows.{word_of}
use Rattle.base_status.specs.declared.Status.TheVariants.{Unsound, Done}
use Rattle.card_record.specs.Sound.{sound}
use Rattle.card_record.specs.Answers.{Outcome, outcome}
use Rattle.card_record.specs.declared.Card.{Card}
use Rattle.read_fields.specs.Grammar as field
use Rattle.read_fields.specs.Grammar.{Wanted}
use Rattle.rule_steps.specs.Asked.{Act.keyed, Act.stored, Act.finished, Asked.tick, Asked.lost}
use Rattle.rule_steps.specs.Steps.{asked_work, inner_work}
use Rattle.rule_steps.specs.Laws.Create.{CreateAnswers}
use Rattle.rule_steps.specs.Laws.Loading.{KeyedAnswers, StoredAnswers, FinishedAnswers}
use Rattle.rule_steps.specs.Laws.Change.{EnableAnswers, DisableAnswers}
use Rattle.rule_steps.specs.Laws.Deletion.{DeleteAnswers, MasterDeleteAnswers}
use Rattle.rule_steps.specs.Laws.FallBack.{SetFallBackAnswers}
use Rattle.rule_steps.specs.Laws.Confirmation.{ConfirmationAnswers}
use Rattle.rule_steps.specs.Laws.Clock.{TickAnswers, LostAnswers}
use Rattle.rule_steps.specs.Laws.Policy.{SetPolicyAnswers}
use Rattle.rule_steps.specs.Laws.Reports.{StatusOfAllAnswers, StatusOfNextAnswers, StatusOfOneAnswers, GetDataAnswers}
use Rattle.rule_steps.proofs.Laws.{call-laws}
use Rattle.rule_run.specs.Calls.{Call.Keyed, Call.Stored, Call.Finished, Call.Tick, Call.Lost}
use Rattle.rule_run.specs.Step.{step, step_by}
use Rattle.proof_demands.specs.Written.{wanted_asks}
use Rattle.proof_demands.specs.CallLaws.{WrittenLaw, EveryCall, ReportsTaken}
use Rattle.rule_run.proofs.Words.{word-is}
use Rattle.proof_demands.proofs.Written.{written-answered}
use Rattle.proof_demands.proofs.Updates.{update-answered}

-- a law of what was written
lifted : (w : Wanted) (Answered : Card → ℕ → Outcome → Type 0) → ((c : Card) (verdict : ℕ) → sound c ≡ true → Answered c verdict (outcome c (asked_work c (wanted_asks verdict w)))) → WrittenLaw w Answered
lifted w Answered law c verdict s room e h encoded =
    subst (Answered c verdict) (sym (written-answered c verdict s room w h encoded)) (law c verdict e)

-- the work of the other calls
module _ (c : Card) where
  keyed-works : (aid : List ℕ) → outcome c (inner_work c aid keyed) ≡ step c (Keyed aid)
  unfolding step_by word_of
  keyed-works aid = refl

  stored-works : (aid : List ℕ) (n : ℕ) → outcome c (inner_work c aid (stored n)) ≡ step c (Stored aid n)
  unfolding step_by word_of
  stored-works aid n = refl

  finished-works : (aid : List ℕ) (policy mark : ℕ) → outcome c (inner_work c aid (finished policy mark)) ≡ step c (Finished aid policy mark)
  unfolding step_by word_of
  finished-works aid policy mark = refl

  tick-works : outcome c (asked_work c tick) ≡ step c Tick
  unfolding step_by word_of
  tick-works = refl

  lost-works : outcome c (asked_work c lost) ≡ step c Lost
  unfolding step_by word_of
  lost-works = refl

pub every_call : EveryCall
every_call =
    record {
      fresh = λ x. call-laws.fresh x.eid x.aid x.capacity x.quota x.used x.volatile;
      create = λ v. lifted (field.create v) (λ c verdict. CreateAnswers c v.aid v.quota) (λ c verdict. call-laws.create c v.aid v.quota);
      enable = λ aid. lifted (field.store_data (field.enable aid)) (λ c verdict. EnableAnswers c aid) (λ c verdict. call-laws.enable c aid);
      disable = λ aid. lifted (field.store_data (field.disable aid)) (λ c verdict. DisableAnswers c aid) (λ c verdict. call-laws.disable c aid);
      delete = λ aid. lifted (field.deletion (field.delete aid)) (λ c verdict. DeleteAnswers c aid) (λ c verdict. call-laws.delete c aid);
      master-delete = λ aid. lifted (field.deletion (field.master_delete aid)) (λ c verdict. MasterDeleteAnswers c aid verdict) (λ c verdict. call-laws.master-delete c aid verdict);
      set-fall-back = λ aid. lifted (field.store_data (field.set_fall_back aid)) (λ c verdict. SetFallBackAnswers c aid) (λ c verdict. call-laws.set-fall-back c aid);
      confirmation = λ number. lifted (field.store_data (field.confirmation number)) (λ c verdict. ConfirmationAnswers c number) (λ c verdict. call-laws.confirmation c number);
      status-of-all = λ life attribute. lifted (field.get_status (field.inquiry false [] life attribute)) (λ c verdict. StatusOfAllAnswers c life attribute) (λ c verdict. call-laws.status-of-all c life attribute);
      status-of-next = λ life attribute. lifted (field.get_status (field.inquiry true [] life attribute)) (λ c verdict. StatusOfNextAnswers c life attribute) (λ c verdict. call-laws.status-of-next c life attribute);
      status-of-one = λ first rest life attribute. lifted (field.get_status (field.inquiry false (first ∷ rest) life attribute)) (λ c verdict. StatusOfOneAnswers c (first ∷ rest) life attribute) (λ c verdict. call-laws.status-of-one c (first ∷ rest) life attribute);
      get-data = lifted field.get_data (λ c verdict. GetDataAnswers c) (λ c verdict. call-laws.get-data c);
      keyed = λ aid c e. subst (KeyedAnswers c aid) (keyed-works c aid) (call-laws.keyed c aid e);
      stored = λ aid n c e. subst (StoredAnswers c aid n) (stored-works c aid n) (call-laws.stored c aid n e);
      finished = λ aid policy mark c e. subst (FinishedAnswers c aid policy mark) (finished-works c aid policy mark) (call-laws.finished c aid policy mark e);
      tick = λ c e. subst (TickAnswers c) (tick-works c) (call-laws.tick c e);
      lost = λ c e. subst (LostAnswers c) (lost-works c) (call-laws.lost c e);
      set-policy = λ speaker policy c s room e h encoded. subst (SetPolicyAnswers c speaker policy) (sym (update-answered c speaker s room policy h encoded)) (call-laws.set-policy c speaker policy e);
    }

-- the one row that looks at the card
sound-case : (b : Bool) → cond (not b) Unsound Done ≡ cond b Done Unsound
sound-case true = refl
sound-case false = refl

pub reports-taken : ReportsTaken
unfolding word_of
reports-taken =
    record { tick = λ c. word-is c Tick ∙ sound-case (sound c); lost = λ c. word-is c Lost ∙ sound-case (sound c) }
