-- Document 01, 'What the contracts have to settle': "Prove that two answers meeting one promise are equal". The promise of a call is
-- `HandedWhole`: the answer is its outcome's, and the lent buffer holds the response and then its old bytes (a command's `Served` is that and
-- more). Said over any outcome, so that it covers a call on any card (`step`), a call on a card known to be sound (`known`) and fresh
-- (`fresh_outcome`).
use Rattle.std.specs.Prelude.{ℕ, ◌≡◌, List}
use Rattle.card_record.specs.Answers.{Outcome, as_answer}
use Rattle.card_record.specs.declared.Answer.{Answer}
use Rattle.rule_steps.specs.Steps.{HandedWhole}

-- with a lent buffer that held `old`
abbrev pub OneAnswer : Type 0
OneAnswer =
    (o : Outcome) (old : List ℕ) (r s : Answer) (new newer : List ℕ)
    → HandedWhole old o r new
    → HandedWhole old o s newer
    → (r ≡ s) × (new ≡ newer)

-- without a buffer
abbrev pub OneOutcome : Type 0
OneOutcome = (o : Outcome) (r s : Answer) → r ≡ as_answer o → s ≡ as_answer o → r ≡ s

-- the promise of a read is the one that is not so (decision B20)
pub record Unique : Type 0 where
  pub one_answer : OneAnswer
  pub one-outcome : OneOutcome

-- a promise can be met, whatever the outcome, in every buffer
abbrev pub PromiseMet : Type 0
PromiseMet = (o : Outcome) (old : List ℕ) → (r : Answer) × ((new : List ℕ) × HandedWhole old o r new)
