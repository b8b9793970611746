-- Document 01, 'Steps': "Tick: Quiet, nothing. Else ticks left falls by one; at zero: Trial enables the previous profile, Back; Back enables
-- the fall-back, Fallen, or closes if the fall-back is already enabled; Fallen closes." "Lost: if Quiet and the enabled profile is not the
-- fall-back, enable it, Fallen. Else nothing." The profile at e is the enabled one.
use Rattle.std.specs.Prelude.{ℕ, ◌+◌, ◌-◌, ◌<◌, ◌≡◌, [], true, cond, eqb}
use Rattle.base_status.specs.declared.Status.TheVariants.{Done}
use Rattle.card_record.specs.Clock.{next_number}
use Rattle.card_record.specs.Sound.{sound}
use Rattle.card_record.specs.Answers.{Outcome, outcome}
use Rattle.card_record.specs.declared.Card.{Card}
use Rattle.card_record.specs.declared.Kind.TheVariants.{RolledBack, FallenBack}
use Rattle.card_record.specs.declared.Phase.{Phase}
use Rattle.card_record.specs.declared.Phase.TheVariants.{Quiet, Trial, Back, Fallen}
use Rattle.rule_steps.specs.Asked.{Asked.tick, Asked.lost}
use Rattle.rule_steps.specs.Steps.{asked_work}
use Rattle.rule_steps.specs.Laws.Answer.{Enabled, Answers, Still, entered, rephased}

-- a further wait comes unless this place is the fall-back
abbrev pub further_wait : Card → ℕ → ℕ
further_wait c i = cond (eqb i c.fallback) 0 10

-- the fall-back is enabled, with ten ticks left
abbrev pub FallenEntered : Card → ℕ → Outcome → Type 0
FallenEntered c e = Answers c (entered c e c.fallback (Fallen 10 (next_number c.last)) FallenBack 10)

pub record TrialTicked (c : Card) (e previous left number : ℕ) (o : Outcome) : Type 0 where
  pub falls-by-one : 1 < left → Answers c (rephased c (Trial previous (left - 1) number) (left - 1 + 10 + further_wait c previous)) o
  pub at_zero : left ≡ 1 → Answers c (entered c e previous (Back 10 (next_number c.last)) RolledBack (10 + further_wait c previous)) o

pub record BackTicked (c : Card) (e left number : ℕ) (o : Outcome) : Type 0 where
  pub falls-by-one : 1 < left → Answers c (rephased c (Back (left - 1) number) (left - 1 + further_wait c e)) o
  pub at_zero : left ≡ 1 → (e ≡ c.fallback → ⊥) → FallenEntered c e o
  pub at-zero-on-fallback : left ≡ 1 → e ≡ c.fallback → Answers c (rephased c Quiet 0) o

pub record FallenTicked (c : Card) (left number : ℕ) (o : Outcome) : Type 0 where
  pub falls-by-one : 1 < left → Answers c (rephased c (Fallen (left - 1) number) (left - 1)) o
  pub at_zero : left ≡ 1 → Answers c (rephased c Quiet 0) o

abbrev pub TickedIn : Phase → Card → ℕ → Outcome → Type 0
TickedIn Quiet c e o = Still c [] o
TickedIn (Trial previous left number) c e o = TrialTicked c e previous left number o
TickedIn (Back left number) c e o = BackTicked c e left number o
TickedIn (Fallen left number) c e o = FallenTicked c left number o

-- never refused
pub record TickAnswers (c : Card) (o : Outcome) : Type 0 where
  pub status : o.status ≡ Done
  pub ticked : (e : ℕ) → Enabled c e → TickedIn c.phase c e o

pub record LostAnswers (c : Card) (o : Outcome) : Type 0 where
  pub status : o.status ≡ Done
  pub away : (e : ℕ) → Enabled c e → c.phase ≡ Quiet → (e ≡ c.fallback → ⊥) → FallenEntered c e o
  pub on-fallback : Enabled c c.fallback → Still c [] o
  pub while-open : (c.phase ≡ Quiet → ⊥) → Still c [] o

abbrev pub TickLaw : Type 0
TickLaw = (c : Card) → sound c ≡ true → TickAnswers c (outcome c (asked_work c tick))

abbrev pub LostLaw : Type 0
LostLaw = (c : Card) → sound c ≡ true → LostAnswers c (outcome c (asked_work c lost))
