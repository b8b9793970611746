-- Document 01, 'Steps': "Keyed: SELECTABLE to PERSONALIZED. Stored n: PERSONALIZED only, used grows by n (0 allowed). Finished with a
-- policy: PERSONALIZED, used over 0, to DISABLED. .. Allowed while a change is open." Request 2026-02: with a mark too.
use Rattle.std.specs.Prelude.{ℕ, ◌+◌, ◌≤◌, ◌<◌, ◌≡◌, List, [], ◌∷◌, true}
use Rattle.card_isdp.specs.LifeCycle.{selectable, personalized, disabled, with_life, with_used, with_policy, with_mark}
use Rattle.card_isdp.specs.Policy.{policy_ok}
use Rattle.card_isdp.specs.declared.Isdp.{Isdp}
use Rattle.card_record.specs.Sound.{sound}
use Rattle.card_record.specs.Ticks.{ticks_by_phase}
use Rattle.card_record.specs.Answers.{Outcome, outcome}
use Rattle.card_record.specs.declared.Card.{Card}
use Rattle.rule_steps.specs.Asked.{Act.keyed, Act.stored, Act.finished}
use Rattle.rule_steps.specs.Steps.{inner_work}
use Rattle.rule_steps.specs.Laws.Answer.{profile_at, Holds, Answers, OnPlace, only_at, replaced}
use Rattle.rule_steps.specs.Laws.Words.{PaperRow, ◌when◌, ◌unless◌, TakenOrRefused, IsHeld, TargetIs, FiveToSixteen}

-- the profile becomes so; no response, and the clock runs on
abbrev pub Loaded : Card → (ℕ → Isdp) → ℕ → Outcome → Type 0
Loaded c new t = Answers c (replaced c c.free (only_at c t (new t)) [] (ticks_by_phase c))

-- each with its rows: "inner call's values wrong" first, and none asks for a change to be closed
abbrev pub keyed_rows : Card → List ℕ → List PaperRow
keyed_rows c aid =
    0x6A80 unless FiveToSixteen aid
    ∷ 0x6A88 unless IsHeld c aid
    ∷ 0x6985 unless TargetIs c aid (λ t. (profile_at c t).life ≡ selectable)
    ∷ []

abbrev pub KeyedAnswers : Card → List ℕ → Outcome → Type 0
KeyedAnswers c aid =
    TakenOrRefused (keyed_rows c aid)
    (OnPlace (Holds c aid) (λ t. (profile_at c t).life ≡ selectable) (Loaded c (λ t. with_life (profile_at c t) personalized)))

pub record MayStore (c : Card) (n t : ℕ) : Type 0 where
  pub is-personalized : (profile_at c t).life ≡ personalized
  pub fits : (profile_at c t).used + n ≤ (profile_at c t).quota

abbrev pub stored_rows : Card → List ℕ → ℕ → List PaperRow
stored_rows c aid n =
    0x6A80 unless FiveToSixteen aid
    ∷ 0x6A88 unless IsHeld c aid
    ∷ 0x6985 unless TargetIs c aid (λ t. (profile_at c t).life ≡ personalized)
    ∷ 0x6A84 when TargetIs c aid (λ t. (profile_at c t).quota < (profile_at c t).used + n)
    ∷ []

abbrev pub StoredAnswers : Card → List ℕ → ℕ → Outcome → Type 0
StoredAnswers c aid n =
    TakenOrRefused (stored_rows c aid n)
    (OnPlace (Holds c aid) (MayStore c n) (Loaded c (λ t. with_used (profile_at c t) ((profile_at c t).used + n))))

pub record MayFinish (c : Card) (policy mark t : ℕ) : Type 0 where
  pub legal : policy_ok policy ≡ true
  pub zero-or-one : mark ≤ 1
  pub is-personalized : (profile_at c t).life ≡ personalized
  pub used-over-0 : 1 ≤ (profile_at c t).used

-- the legal policies are 00 to 04
abbrev pub finished_rows : Card → List ℕ → ℕ → ℕ → List PaperRow
finished_rows c aid policy mark =
    0x6A80 unless (FiveToSixteen aid × (policy ≤ 4) × (mark ≤ 1))
    ∷ 0x6A88 unless IsHeld c aid
    ∷ 0x6985 unless TargetIs c aid (λ t. ((profile_at c t).life ≡ personalized) × (0 < (profile_at c t).used))
    ∷ []

abbrev pub FinishedAnswers : Card → List ℕ → ℕ → ℕ → Outcome → Type 0
FinishedAnswers c aid policy mark =
    TakenOrRefused (finished_rows c aid policy mark)
    (OnPlace (Holds c aid) (MayFinish c policy mark)
    (Loaded c (λ t. with_mark (with_policy (with_life (profile_at c t) disabled) policy) mark)))

abbrev pub KeyedLaw : Type 0
KeyedLaw = (c : Card) (aid : List ℕ) → sound c ≡ true → KeyedAnswers c aid (outcome c (inner_work c aid keyed))

abbrev pub StoredLaw : Type 0
StoredLaw = (c : Card) (aid : List ℕ) (n : ℕ) → sound c ≡ true → StoredAnswers c aid n (outcome c (inner_work c aid (stored n)))

abbrev pub FinishedLaw : Type 0
FinishedLaw =
    (c : Card) (aid : List ℕ) (policy mark : ℕ)
    → sound c ≡ true
    → FinishedAnswers c aid policy mark (outcome c (inner_work c aid (finished policy mark)))
