-- Document 01, 'Steps': "Enable: target DISABLED, else 69 85; 69 E1 if the enabled profile forbids disabling. They trade states; Trial."
-- "Disable: target ENABLED and not fall-back, else 69 85; 69 E1 if it forbids disabling. The fall-back is enabled; Trial."
use Rattle.std.specs.Prelude.{ℕ, ◌≡◌, List, [], ◌∷◌, true, false, cond, eqb}
use Rattle.card_isdp.specs.LifeCycle.{disabled, enabled}
use Rattle.card_isdp.specs.Policy.{forbids_disabling}
use Rattle.card_record.specs.Clock.{next_number}
use Rattle.card_record.specs.Sound.{sound}
use Rattle.card_record.specs.Answers.{Outcome, outcome}
use Rattle.card_record.specs.declared.Card.{Card}
use Rattle.card_record.specs.declared.Kind.TheVariants.{Changed}
use Rattle.card_record.specs.declared.Phase.TheVariants.{Quiet, Trial}
use Rattle.rule_steps.specs.Asked.{Act.enable, Act.disable, Asked.on}
use Rattle.rule_steps.specs.Steps.{asked_work}
use Rattle.rule_steps.specs.Laws.Answer.{profile_at, Holds, Enabled, Answers, OnPlace, entered}
use Rattle.rule_steps.specs.Laws.Words.{PaperRow, ◌when◌, ◌unless◌, TakenOrRefused, IsHeld, TargetIs, EnabledIs}

-- Trial of the profile at t, with ten ticks left: three waits to come, or two where the previous profile is the fall-back
abbrev pub TrialEntered : Card → ℕ → ℕ → Outcome → Type 0
TrialEntered c previous t =
    Answers c (entered c previous t (Trial previous 10 (next_number c.last)) Changed (cond (eqb previous c.fallback) 20 30))

-- where the profile at e is the enabled one
pub record MayEnable (c : Card) (e t : ℕ) : Type 0 where
  pub none_open : c.phase ≡ Quiet
  pub is-disabled : (profile_at c t).life ≡ disabled
  pub enabled-allows : forbids_disabling (profile_at c e).policy ≡ false

abbrev pub enable_rows : Card → List ℕ → List PaperRow
enable_rows c aid =
    0x6985 unless (c.phase ≡ Quiet)
    ∷ 0x6A88 unless IsHeld c aid
    ∷ 0x6985 unless TargetIs c aid (λ t. (profile_at c t).life ≡ disabled)
    ∷ 0x69E1 when EnabledIs c (λ e. forbids_disabling (profile_at c e).policy ≡ true)
    ∷ []

abbrev pub EnableAnswers : Card → List ℕ → Outcome → Type 0
EnableAnswers c aid =
    TakenOrRefused (enable_rows c aid)
    (λ o. (e : ℕ) → Enabled c e → OnPlace (Holds c aid) (MayEnable c e) (TrialEntered c e) o)

pub record MayDisable (c : Card) (t : ℕ) : Type 0 where
  pub none_open : c.phase ≡ Quiet
  pub is-enabled : (profile_at c t).life ≡ enabled
  pub not-fallback : t ≡ c.fallback → ⊥
  pub allows : forbids_disabling (profile_at c t).policy ≡ false

abbrev pub disable_rows : Card → List ℕ → List PaperRow
disable_rows c aid =
    0x6985 unless (c.phase ≡ Quiet)
    ∷ 0x6A88 unless IsHeld c aid
    ∷ 0x6985 unless TargetIs c aid (λ t. ((profile_at c t).life ≡ enabled) × (t ≡ c.fallback → ⊥))
    ∷ 0x69E1 when TargetIs c aid (λ t. forbids_disabling (profile_at c t).policy ≡ true)
    ∷ []

abbrev pub DisableAnswers : Card → List ℕ → Outcome → Type 0
DisableAnswers c aid =
    TakenOrRefused (disable_rows c aid) (OnPlace (Holds c aid) (MayDisable c) (λ t. TrialEntered c t c.fallback))

abbrev pub EnableLaw : Type 0
EnableLaw = (c : Card) (aid : List ℕ) → sound c ≡ true → EnableAnswers c aid (outcome c (asked_work c (on aid enable)))

abbrev pub DisableLaw : Type 0
DisableLaw = (c : Card) (aid : List ℕ) → sound c ≡ true → DisableAnswers c aid (outcome c (asked_work c (on aid disable)))
