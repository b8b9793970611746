-- Document 01, 'Steps': "Create: the lowest free place, SELECTABLE, used 0, empty policy", with no mark (request 2026-02). "Freed places and room are used again".
use Rattle.std.specs.Prelude.{ℕ, ◌+◌, ◌-◌, ◌≤◌, ◌<◌, ◌≡◌, List, [], ◌∷◌, ◌⊎◌, true, false, length}
use Rattle.card_isdp.specs.LifeCycle.{selectable}
use Rattle.card_isdp.specs.Aids.{named}
use Rattle.card_isdp.specs.Profile.{profile}
use Rattle.card_isdp.specs.Place.{held}
use Rattle.card_places.specs.Places.{quotas}
use Rattle.card_record.specs.Sound.{sound}
use Rattle.card_record.specs.Answers.{Outcome, outcome}
use Rattle.card_record.specs.declared.Card.{Card}
use Rattle.card_record.specs.declared.Phase.TheVariants.{Quiet}
use Rattle.rule_steps.specs.Asked.{Asked.create}
use Rattle.rule_steps.specs.Steps.{asked_work}
use Rattle.rule_steps.specs.Laws.Answer.{profile_at, Holds, Answers, OnPlace, only_at, replaced}
use Rattle.rule_steps.specs.Laws.Words.{PaperRow, ◌when◌, ◌unless◌, TakenOrRefused, IsHeld}

-- place t is the lowest free one
pub record LowestFree (c : Card) (t : ℕ) : Type 0 where
  pub a-place : t < length c.places
  pub free : held (profile_at c t) ≡ false
  pub lowest : (i : ℕ) → i < t → held (profile_at c i) ≡ true

pub record MayCreate (c : Card) (aid : List ℕ) (quota : ℕ) : Type 0 where
  pub none_open : c.phase ≡ Quiet
  pub not-held : (i : ℕ) → Holds c aid i → ⊥
  pub room : quotas c.places + quota ≤ c.capacity

-- "create: 8 held, or quota over free"; request 2026-05: 32 held
abbrev pub NoneFree : Card → Type 0
NoneFree c = (i : ℕ) → i < 32 → held (profile_at c i) ≡ true

-- "Free is capacity less all quotas held."
abbrev pub OverFree : Card → ℕ → Type 0
OverFree c quota = c.capacity - quotas c.places < quota

abbrev pub create_rows : Card → List ℕ → ℕ → List PaperRow
create_rows c aid quota =
    0x6985 unless (c.phase ≡ Quiet)
    ∷ 0x6A80 when IsHeld c aid
    ∷ 0x6A84 when (NoneFree c ⊎ OverFree c quota)
    ∷ []

-- free less the quota (request 2026-04); the new profile field by field: AID, SELECTABLE, quota, used, policy, mark; a response of one
-- byte 00 (000, 4.1.1.1)
abbrev pub CreateAnswers : Card → List ℕ → ℕ → Outcome → Type 0
CreateAnswers c aid quota =
    TakenOrRefused (create_rows c aid quota)
    (OnPlace (LowestFree c) (λ t. MayCreate c aid quota)
    (λ t. Answers c (replaced c (c.free - quota) (only_at c t (profile (named aid) selectable quota 0 0 0)) (0x00 ∷ []) 0)))

abbrev pub CreateLaw : Type 0
CreateLaw =
    (c : Card) (aid : List ℕ) (quota : ℕ)
    → sound c ≡ true
    → CreateAnswers c aid quota (outcome c (asked_work c (create aid quota)))
