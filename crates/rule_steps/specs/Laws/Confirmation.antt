-- Document 01, 'Steps': "Confirmation: closes the change. In Trial the previous profile is then deleted if its policy says delete once
-- disabled and it is not the fall-back. Response as in 000." (Table 63: 80 with 4F of the deleted ISD-P, where there is one.)
use Rattle.std.specs.Prelude.{ℕ, ◌+◌, ◌≡◌, List, [], ◌∷◌, true, false, cond, not, ◌&&◌, eqb}
use Rattle.card_isdp.specs.Aids.{aid_of}
use Rattle.card_isdp.specs.Policy.{once_disabled}
use Rattle.card_isdp.specs.Place.{vacant}
use Rattle.card_record.specs.Sound.{sound}
use Rattle.card_record.specs.Notifications.{silent}
use Rattle.card_record.specs.Answers.{Outcome, outcome}
use Rattle.card_record.specs.declared.Card.{Card}
use Rattle.card_record.specs.declared.Phase.{Phase}
use Rattle.card_record.specs.declared.Phase.TheVariants.{Quiet, Trial, Back, Fallen}
use Rattle.base_status.specs.StatusWords.{is_done}
use Rattle.rule_steps.specs.Asked.{Asked.confirm}
use Rattle.rule_steps.specs.Steps.{asked_work}
use Rattle.rule_steps.specs.Laws.Answer.{profile_at, element, Result, Answers, Exactly, only_at, rephased}
use Rattle.rule_steps.specs.Laws.Words.{PaperRow, ◌when◌, ◌unless◌, TakenOrRefused}

-- the change closes, and the previous profile is deleted: its quota is free again (request 2026-04)
abbrev pub closed_without : Card → ℕ → Result
closed_without c previous =
    record {
      free = c.free + (profile_at c previous).quota;
      last = c.last;
      fallback = c.fallback;
      phase = Quiet;
      place = only_at c previous vacant;
      response = element 0x80 (element 0x4F (aid_of (profile_at c previous)));
      notification = silent;
      ticks = 0;
    }

abbrev pub trial_confirmed : Card → ℕ → Result
trial_confirmed c previous =
    cond (once_disabled (profile_at c previous).policy && not (eqb previous c.fallback)) (closed_without c previous)
    (rephased c Quiet 0)

-- refused in Quiet; accepted exactly where the number is the one that the open phase holds
abbrev pub ConfirmedIn : Phase → Card → ℕ → Outcome → Type 0
ConfirmedIn Quiet c number o = is_done o.status ≡ false
ConfirmedIn (Trial previous left n) c number o = Exactly (number ≡ n) (Answers c (trial_confirmed c previous)) o
ConfirmedIn (Back left n) c number o = Exactly (number ≡ n) (Answers c (rephased c Quiet 0)) o
ConfirmedIn (Fallen left n) c number o = Exactly (number ≡ n) (Answers c (rephased c Quiet 0)) o

-- "Each open phase holds its one outstanding notification number, the last one issued."
abbrev pub confirmation_rows : Card → ℕ → List PaperRow
confirmation_rows c number = 0x6985 when (c.phase ≡ Quiet) ∷ 0x6A88 unless (number ≡ c.last) ∷ []

abbrev pub ConfirmationAnswers : Card → ℕ → Outcome → Type 0
ConfirmationAnswers c number = TakenOrRefused (confirmation_rows c number) (ConfirmedIn c.phase c number)

abbrev pub ConfirmationLaw : Type 0
ConfirmationLaw =
    (c : Card) (number : ℕ) → sound c ≡ true → ConfirmationAnswers c number (outcome c (asked_work c (confirm number)))
