-- Document 01, 'The card' and 'Steps': what a step tells. A step that hands out no notification leaves the enabled profile and the
-- last number as they were; any other has just opened a phase, and its notification is said part by part against the card's fields.
use Rattle.std.specs.Prelude.{ℕ, ◌≡◌, true}
use Rattle.card_isdp.specs.Sizes.{wait}
use Rattle.card_isdp.specs.Aids.{no_aid}
use Rattle.card_record.specs.Cards.{enabled_aid}
use Rattle.card_record.specs.Sound.{sound}
use Rattle.card_record.specs.Clock.{next_number, opened}
use Rattle.card_record.specs.Notifications.{silent}
use Rattle.card_record.specs.Steps.{step_to, tick_step, lost_step, confirm_step}
use Rattle.card_record.specs.declared.Card.{Card}
use Rattle.card_record.specs.declared.Kind.{Kind}
use Rattle.card_record.specs.declared.Kind.TheVariants.{Changed, RolledBack, FallenBack}
use Rattle.card_record.specs.declared.Phase.{Phase}
use Rattle.card_record.specs.declared.Phase.TheVariants.{Quiet, Trial, Back, Fallen}
use Rattle.card_record.specs.declared.Step.{Step}
use Rattle.card_record.specs.declared.Notification.{Notification}

-- no notification, and nothing that one would tell
pub record Silently (c : Card) (s : Step) : Type 0 where
  pub none : s.notification ≡ silent
  pub same-profile : enabled_aid s.card ≡ enabled_aid c
  pub same_number : s.card.last ≡ c.last

-- a phase with its ticks left and its number, just entered, and a notification of this kind
pub record Entered (left number : ℕ) (kind : Kind) (n : Notification) : Type 0 where
  pub whole-wait : left ≡ wait
  pub its-number : number ≡ n.number
  pub its-kind : n.kind ≡ kind

-- "Entering Trial, Back or Fallen sets ticks left to 10 and issues the next number with its kind": changed, rolled back, fallen back
abbrev pub JustOpened : Phase → Notification → Type 0
JustOpened Quiet n = ⊥
JustOpened (Trial previous left number) n = Entered left number Changed n
JustOpened (Back left number) n = Entered left number RolledBack n
JustOpened (Fallen left number) n = Entered left number FallenBack n

-- a notification of the phase just opened: "kind, number, EID and the AID of the profile then enabled"
pub record Announced (c : Card) (s : Step) : Type 0 where
  pub phase : JustOpened s.card.phase s.notification
  pub number : s.notification.number ≡ next_number c.last
  pub last : s.card.last ≡ next_number c.last
  pub eid : s.notification.eid ≡ c.eid
  pub profile : s.notification.aid ≡ enabled_aid s.card

pub data Noticed (c : Card) (s : Step) : Type 0 where
  silently : Silently c s → Noticed c s
  announced : Announced c s → Noticed c s

-- of every sound card: tick, lost, the confirmation, and the opening of a change
pub record StepsNoticed : Type 0 where
  pub tick : (c : Card) → sound c ≡ true → Noticed c (tick_step c)
  pub lost : (c : Card) → sound c ≡ true → Noticed c (lost_step c)
  pub confirmation : (c : Card) → sound c ≡ true → Noticed c (confirm_step c)
  pub opening : (c : Card) (t : ℕ) → sound c ≡ true → Noticed c (step_to c (opened c t) no_aid)
