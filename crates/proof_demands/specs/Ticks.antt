-- Document 01, 'Steps': "Every answer carries the ticks still to come before the change closes if only ticks arrive; it equals the count
-- of the tick rule's steps to Quiet from the card handed back, 0 when Quiet, with 6F 00 and with a refused fresh."
use Rattle.std.specs.Prelude.{ℕ, ◌≤◌, ◌≡◌, List, true, false}
use Rattle.base_status.specs.declared.Status.TheVariants.{Unsound}
use Rattle.card_record.specs.Sound.{sound}
use Rattle.card_record.specs.Ticks.{StepsTo}
use Rattle.card_record.specs.Answers.{refused_with}
use Rattle.card_record.specs.Fresh.{fresh_outcome}
use Rattle.card_record.specs.declared.Card.{Card}
use Rattle.rule_run.specs.Calls.{Call}
use Rattle.rule_run.specs.Step.{step}

-- the figure is the count of the tick rule's steps from the card handed back, and no other number is
abbrev pub TicksAreCounted : Type 0
TicksAreCounted = (c : Card) (call : Call) → sound c ≡ true → StepsTo (step c call).card (step c call).ticks

abbrev pub OneCount : Type 0
OneCount = (c : Card) (call : Call) (n : ℕ) → sound c ≡ true → StepsTo (step c call).card n → n ≡ (step c call).ticks

-- 6F 00 carries 0: the whole answer
abbrev pub NotSound : Type 0
NotSound = (c : Card) (call : Call) → sound c ≡ false → step c call ≡ refused_with 0 c Unsound

abbrev pub AtMostThirty : Type 0
AtMostThirty = (c : Card) (call : Call) → (step c call).ticks ≤ 30

-- a fresh card is Quiet and the record of zeros carries 0
abbrev pub FreshNone : Type 0
FreshNone =
    (eid aid : List ℕ) (capacity quota used volatile : ℕ) → (fresh_outcome eid aid capacity quota used volatile).ticks ≡ 0

pub record TicksFigure : Type 0 where
  pub counted : TicksAreCounted
  pub one-count : OneCount
  pub not_sound : NotSound
  pub at_most : AtMostThirty
  pub fresh-none : FreshNone

-- some sound card's answer carries a figure other than 0
pub record TicksMet : Type 0 where
  pub card : Card
  pub call : Call
  pub card-sound : sound card ≡ true
  pub figure : (step card call).ticks ≡ 29
