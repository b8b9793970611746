-- Document 01, 'Steps': "Set fall-back: target DISABLED or ENABLED, else 69 85. Naming the holder changes nothing, answer 90 00."
-- Request 2026-02: "the target must have provisioning capability".
use Rattle.std.specs.Prelude.{ℕ, ◌≡◌, List, [], ◌∷◌, ◌⊎◌, true}
use Rattle.card_isdp.specs.LifeCycle.{disabled, enabled, is_finished}
use Rattle.card_record.specs.Sound.{sound}
use Rattle.card_record.specs.Notifications.{silent}
use Rattle.card_record.specs.Answers.{Outcome, outcome}
use Rattle.card_record.specs.declared.Card.{Card}
use Rattle.card_record.specs.declared.Phase.TheVariants.{Quiet}
use Rattle.rule_steps.specs.Asked.{Act.set_fall_back, Asked.on}
use Rattle.rule_steps.specs.Steps.{asked_work}
use Rattle.rule_steps.specs.Laws.Answer.{profile_at, Holds, Result, Answers, Still, OnPlace}
use Rattle.rule_steps.specs.Laws.Words.{PaperRow, ◌unless◌, TakenOrRefused, IsHeld, TargetIs}

pub record MayBeFallBack (c : Card) (t : ℕ) : Type 0 where
  pub none_open : c.phase ≡ Quiet
  pub disabled-or-enabled : is_finished (profile_at c t).life ≡ true
  pub is-marked : (profile_at c t).mark ≡ 1

abbrev pub falls_back_to : Card → ℕ → Result
falls_back_to c t =
    record {
      free = c.free;
      last = c.last;
      fallback = t;
      phase = c.phase;
      place = profile_at c;
      response = [];
      notification = silent;
      ticks = 0;
    }

abbrev pub set_fall_back_rows : Card → List ℕ → List PaperRow
set_fall_back_rows c aid =
    0x6985 unless (c.phase ≡ Quiet)
    ∷ 0x6A88 unless IsHeld c aid
    ∷ 0x6985 unless TargetIs c aid (λ t. (((profile_at c t).life ≡ disabled) ⊎ ((profile_at c t).life ≡ enabled)) × ((profile_at c t).mark ≡ 1))
    ∷ []

-- any target, and the holder (decision 38)
pub record FallBackSet (c : Card) (aid : List ℕ) (o : Outcome) : Type 0 where
  pub target : OnPlace (Holds c aid) (MayBeFallBack c) (λ t. Answers c (falls_back_to c t)) o
  pub holder : c.phase ≡ Quiet → Holds c aid c.fallback → Still c [] o

abbrev pub SetFallBackAnswers : Card → List ℕ → Outcome → Type 0
SetFallBackAnswers c aid = TakenOrRefused (set_fall_back_rows c aid) (FallBackSet c aid)

abbrev pub SetFallBackLaw : Type 0
SetFallBackLaw =
    (c : Card) (aid : List ℕ) → sound c ≡ true → SetFallBackAnswers c aid (outcome c (asked_work c (on aid set_fall_back)))
