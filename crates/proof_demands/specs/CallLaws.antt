-- Document 01, 'Steps' and 'Status words': a law for each call, over what the manager answers, with the word of each refusal. A command is told by
-- what the grammar of its bytes writes, in a buffer that is long enough, so that the rows of reading are passed; what each law says stands in
-- rule_steps/specs/Laws, one file a heading.
use Rattle.std.specs.Prelude.{ℕ, ◌≤◌, ◌≡◌, List, [], ◌∷◌, Bool, true, false, cond}
use Rattle.base_status.specs.declared.Status.TheVariants.{Unsound, Done}
use Rattle.card_record.specs.Sound.{sound}
use Rattle.card_record.specs.Answers.{Outcome}
use Rattle.card_record.specs.declared.Card.{Card}
use Rattle.read_fields.specs.Grammar as field
use Rattle.read_fields.specs.Grammar.{Created, Wanted}
use Rattle.read_command.specs.Grammar.{Encodes}
use Rattle.read_operator.specs.Grammar.{EncodesUpdate}
use Rattle.rule_responses.specs.Worked.{aid_ending}
use Rattle.rule_steps.specs.Laws.Fresh.{FreshAnswers}
use Rattle.rule_steps.specs.Laws.Create.{CreateAnswers}
use Rattle.rule_steps.specs.Laws.Loading.{KeyedAnswers, StoredAnswers, FinishedAnswers}
use Rattle.rule_steps.specs.Laws.Change.{EnableAnswers, DisableAnswers}
use Rattle.rule_steps.specs.Laws.Deletion.{DeleteAnswers, MasterDeleteAnswers}
use Rattle.rule_steps.specs.Laws.FallBack.{SetFallBackAnswers}
use Rattle.rule_steps.specs.Laws.Confirmation.{ConfirmationAnswers}
use Rattle.rule_steps.specs.Laws.Clock.{TickAnswers, LostAnswers}
use Rattle.rule_steps.specs.Laws.Policy.{SetPolicyAnswers}
use Rattle.rule_steps.specs.Laws.Reports.{StatusOfAllAnswers, StatusOfNextAnswers, StatusOfOneAnswers, GetDataAnswers}
use Rattle.rule_run.specs.Calls.{Call, Call.Command, Call.Keyed, Call.Stored, Call.Finished, Call.Tick, Call.Lost, Call.PolicyUpdate}
use Rattle.rule_run.specs.Inputs.{Inputs, fresh_of}
use Rattle.rule_run.specs.Table.{least_buffer}
use Rattle.rule_run.specs.Step.{step}

-- a command that writes this is answered so on every sound card, whatever the token verdict handed in
abbrev pub WrittenLaw : Wanted → (Card → ℕ → Outcome → Type 0) → Type 0
WrittenLaw w Answered =
    (c : Card) (verdict : ℕ) (s : List ℕ) (room : ℕ)
    → sound c ≡ true
    → least_buffer ≤ room
    → Encodes c.capacity w s
    → Answered c verdict (step c (Command verdict s room))

-- any other call
abbrev pub CallLaw : Call → (Card → Outcome → Type 0) → Type 0
CallLaw call Answered = (c : Card) → sound c ≡ true → Answered c (step c call)

-- a policy update that writes this, whoever speaks
abbrev pub UpdateLaw : List ℕ → ℕ → (Card → Outcome → Type 0) → Type 0
UpdateLaw speaker policy Answered =
    (c : Card) (s : List ℕ) (room : ℕ)
    → sound c ≡ true
    → least_buffer ≤ room
    → EncodesUpdate policy s
    → Answered c (step c (PolicyUpdate speaker s room))

pub record EveryCall : Type 0 where
  pub fresh : (x : Inputs) → FreshAnswers x.eid x.aid x.capacity x.quota x.used x.volatile (fresh_of x)
  pub create : (v : Created) → WrittenLaw (field.create v) (λ c verdict. CreateAnswers c v.aid v.quota)
  pub enable : (aid : List ℕ) → WrittenLaw (field.store_data (field.enable aid)) (λ c verdict. EnableAnswers c aid)
  pub disable : (aid : List ℕ) → WrittenLaw (field.store_data (field.disable aid)) (λ c verdict. DisableAnswers c aid)
  pub delete : (aid : List ℕ) → WrittenLaw (field.deletion (field.delete aid)) (λ c verdict. DeleteAnswers c aid)
  pub master-delete : (aid : List ℕ) → WrittenLaw (field.deletion (field.master_delete aid)) (λ c verdict. MasterDeleteAnswers c aid verdict)
  pub set-fall-back : (aid : List ℕ) → WrittenLaw (field.store_data (field.set_fall_back aid)) (λ c verdict. SetFallBackAnswers c aid)
  pub confirmation : (number : ℕ) → WrittenLaw (field.store_data (field.confirmation number)) (λ c verdict. ConfirmationAnswers c number)
  -- 4F is empty
  pub status-of-all : (life attribute : Bool) → WrittenLaw (field.get_status (field.inquiry false [] life attribute)) (λ c verdict. StatusOfAllAnswers c life attribute)
  -- and P2 is 03
  pub status-of-next : (life attribute : Bool) → WrittenLaw (field.get_status (field.inquiry true [] life attribute)) (λ c verdict. StatusOfNextAnswers c life attribute)
  -- 4F is an AID
  pub status-of-one : (first : ℕ) (rest : List ℕ) (life attribute : Bool) → WrittenLaw (field.get_status (field.inquiry false (first ∷ rest) life attribute)) (λ c verdict. StatusOfOneAnswers c (first ∷ rest) life attribute)
  pub get-data : WrittenLaw field.get_data (λ c verdict. GetDataAnswers c)
  pub keyed : (aid : List ℕ) → CallLaw (Keyed aid) (λ c. KeyedAnswers c aid)
  pub stored : (aid : List ℕ) (n : ℕ) → CallLaw (Stored aid n) (λ c. StoredAnswers c aid n)
  pub finished : (aid : List ℕ) (policy mark : ℕ) → CallLaw (Finished aid policy mark) (λ c. FinishedAnswers c aid policy mark)
  pub tick : CallLaw Tick TickAnswers
  pub lost : CallLaw Lost LostAnswers
  pub set-policy : (speaker : List ℕ) (policy : ℕ) → UpdateLaw speaker policy (λ c. SetPolicyAnswers c speaker policy)

-- "Tick and lost are refused only by 6F 00.": 90 00 on every sound card
abbrev pub RefusedOnlyUnsound : Call → Type 0
RefusedOnlyUnsound call = (c : Card) → (step c call).status ≡ cond (sound c) Done Unsound

pub record ReportsTaken : Type 0 where
  pub tick : RefusedOnlyUnsound Tick
  pub lost : RefusedOnlyUnsound Lost

-- for a card of 1000 bytes some bytes write this
abbrev pub IsWritten : Wanted → Type 0
IsWritten w = (s : List ℕ) × Encodes 1000 w s

-- each command is written, for the cards that meet the laws (`LawsMet`)
pub record EveryCallMet : Type 0 where
  pub create : IsWritten (field.create (record { aid = aid_ending 5; quota = 600 }))
  pub enable : IsWritten (field.store_data (field.enable (aid_ending 2)))
  pub disable : IsWritten (field.store_data (field.disable (aid_ending 2)))
  pub delete : IsWritten (field.deletion (field.delete (aid_ending 2)))
  pub master-delete : IsWritten (field.deletion (field.master_delete (aid_ending 2)))
  pub set-fall-back : IsWritten (field.store_data (field.set_fall_back (aid_ending 2)))
  pub confirmation : IsWritten (field.store_data (field.confirmation 1))
  pub status-of-all : IsWritten (field.get_status (field.inquiry false [] true true))
  pub status-of-next : IsWritten (field.get_status (field.inquiry true [] true true))
  pub status-of-one : IsWritten (field.get_status (field.inquiry false (aid_ending 2) true true))
  pub get-data : IsWritten field.get_data
  pub set-policy : (s : List ℕ) × EncodesUpdate 2 s
