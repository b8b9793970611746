-- Document 01, 'Steps': "Delete: target DISABLED and not fall-back, else 69 85; 69 E1 if it forbids deletion. Master delete is the same
-- without policy, with the token verdict. Response of both: 00." Request 2026-03: "69 85 for Delete narrows to ENABLED or fall-back";
-- "master delete stays with DISABLED only".
use Rattle.std.specs.Prelude.{ℕ, ◌+◌, ◌≡◌, List, [], ◌∷◌, ◌⊎◌, true, false}
use Rattle.card_isdp.specs.LifeCycle.{disabled, enabled}
use Rattle.card_isdp.specs.Policy.{forbids_deletion}
use Rattle.card_isdp.specs.Place.{vacant}
use Rattle.card_record.specs.Sound.{sound}
use Rattle.card_record.specs.Answers.{Outcome, outcome}
use Rattle.card_record.specs.declared.Card.{Card}
use Rattle.card_record.specs.declared.Phase.TheVariants.{Quiet}
use Rattle.rule_steps.specs.Asked.{Act.delete, Act.master_delete, Asked.on}
use Rattle.rule_steps.specs.Steps.{asked_work}
use Rattle.rule_steps.specs.Laws.Answer.{profile_at, Holds, Answers, OnPlace, only_at, replaced}
use Rattle.rule_steps.specs.Laws.Words.{PaperRow, ◌when◌, ◌unless◌, TakenOrRefused, IsHeld, TargetIs}

-- a delete is accepted exactly where this holds of the place that holds its AID
pub record MayDelete (c : Card) (t : ℕ) : Type 0 where
  pub none_open : c.phase ≡ Quiet
  pub not-enabled : (profile_at c t).life ≡ enabled → ⊥
  pub not-fallback : t ≡ c.fallback → ⊥
  pub allows : forbids_deletion (profile_at c t).policy ≡ false

pub record MayMasterDelete (c : Card) (verdict t : ℕ) : Type 0 where
  pub none_open : c.phase ≡ Quiet
  pub is-disabled : (profile_at c t).life ≡ disabled
  pub not-fallback : t ≡ c.fallback → ⊥
  pub verified : verdict ≡ 1

-- the place is no longer held, and its quota is free again (request 2026-04)
abbrev pub Deleted : Card → ℕ → Outcome → Type 0
Deleted c t = Answers c (replaced c (c.free + (profile_at c t).quota) (only_at c t vacant) (0x00 ∷ []) 0)

abbrev pub delete_rows : Card → List ℕ → List PaperRow
delete_rows c aid =
    0x6985 unless (c.phase ≡ Quiet)
    ∷ 0x6A88 unless IsHeld c aid
    ∷ 0x6985 when TargetIs c aid (λ t. ((profile_at c t).life ≡ enabled) ⊎ (t ≡ c.fallback))
    ∷ 0x69E1 when TargetIs c aid (λ t. forbids_deletion (profile_at c t).policy ≡ true)
    ∷ []

abbrev pub master_delete_rows : Card → List ℕ → ℕ → List PaperRow
master_delete_rows c aid verdict =
    0x6985 unless (c.phase ≡ Quiet)
    ∷ 0x6A88 unless IsHeld c aid
    ∷ 0x6985 unless TargetIs c aid (λ t. ((profile_at c t).life ≡ disabled) × (t ≡ c.fallback → ⊥))
    ∷ 0x6982 unless (verdict ≡ 1)
    ∷ []

abbrev pub DeleteAnswers : Card → List ℕ → Outcome → Type 0
DeleteAnswers c aid = TakenOrRefused (delete_rows c aid) (OnPlace (Holds c aid) (MayDelete c) (Deleted c))

abbrev pub MasterDeleteAnswers : Card → List ℕ → ℕ → Outcome → Type 0
MasterDeleteAnswers c aid verdict =
    TakenOrRefused (master_delete_rows c aid verdict) (OnPlace (Holds c aid) (MayMasterDelete c verdict) (Deleted c))

abbrev pub DeleteLaw : Type 0
DeleteLaw = (c : Card) (aid : List ℕ) → sound c ≡ true → DeleteAnswers c aid (outcome c (asked_work c (on aid delete)))

abbrev pub MasterDeleteLaw : Type 0
MasterDeleteLaw =
    (c : Card) (aid : List ℕ) (verdict : ℕ)
    → sound c ≡ true
    → MasterDeleteAnswers c aid verdict (outcome c (asked_work c (on aid (master_delete verdict))))
