-- 02, request 2026-06: "The MNO's security domain must be able to change the policy of its enabled profile. .. It touches the policy of the
-- enabled profile only." The target is the profile whose domain speaks; its old policy is not asked.
use Rattle.std.specs.Prelude.{ℕ, ◌≤◌, ◌≡◌, List, [], ◌∷◌, true}
use Rattle.card_isdp.specs.LifeCycle.{enabled, with_policy}
use Rattle.card_isdp.specs.Policy.{policy_ok}
use Rattle.card_record.specs.Sound.{sound}
use Rattle.card_record.specs.Answers.{Outcome, outcome}
use Rattle.card_record.specs.declared.Card.{Card}
use Rattle.card_record.specs.declared.Phase.TheVariants.{Quiet}
use Rattle.rule_steps.specs.Asked.{Act.set_policy}
use Rattle.rule_steps.specs.Steps.{inner_work}
use Rattle.rule_steps.specs.Laws.Answer.{Result, profile_at, Holds, Answers, OnPlace, only_at, replaced}
use Rattle.rule_steps.specs.Laws.Words.{PaperRow, ◌unless◌, TakenOrRefused, IsHeld, TargetIs, FiveToSixteen}

pub record MaySetPolicy (c : Card) (policy t : ℕ) : Type 0 where
  pub legal : policy_ok policy ≡ true
  pub none_open : c.phase ≡ Quiet
  pub is-enabled : (profile_at c t).life ≡ enabled

-- the profile has this policy; no response (decision B84)
abbrev pub ruled : Card → ℕ → ℕ → Result
ruled c policy t = replaced c c.free (only_at c t (with_policy (profile_at c t) policy)) [] 0

-- "AID length or coding wrong, or the two delete rules together 6A 80; change open 69 85; AID not held 6A 88; that profile not enabled 69 85; in the
-- order of document 01" (decision B83); the legal policies are 00 to 04
abbrev pub set_policy_rows : Card → List ℕ → ℕ → List PaperRow
set_policy_rows c speaker policy =
    0x6A80 unless (FiveToSixteen speaker × (policy ≤ 4))
    ∷ 0x6985 unless (c.phase ≡ Quiet)
    ∷ 0x6A88 unless IsHeld c speaker
    ∷ 0x6985 unless TargetIs c speaker (λ t. (profile_at c t).life ≡ enabled)
    ∷ []

abbrev pub SetPolicyAnswers : Card → List ℕ → ℕ → Outcome → Type 0
SetPolicyAnswers c speaker policy =
    TakenOrRefused (set_policy_rows c speaker policy)
    (OnPlace (Holds c speaker) (MaySetPolicy c policy) (λ t. Answers c (ruled c policy t)))

abbrev pub SetPolicyLaw : Type 0
SetPolicyLaw =
    (c : Card) (speaker : List ℕ) (policy : ℕ)
    → sound c ≡ true
    → SetPolicyAnswers c speaker policy (outcome c (inner_work c speaker (set_policy policy)))
