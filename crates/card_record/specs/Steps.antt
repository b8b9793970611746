-- Document 01, 'Steps': tick, lost and confirmation with what they hand out.
use Rattle.std.specs.Prelude.{ℕ, cond}
use Rattle.card_isdp.specs.Aids.{no_aid}
use Rattle.card_isdp.specs.declared.Aid.{Aid}
use Rattle.card_places.specs.Places.{at}
use Rattle.card_record.specs.Clock.{tick_of, without_network, confirm_of, dropped}
use Rattle.card_record.specs.Notifications.{issued_as, notice_since}
use Rattle.card_record.specs.declared.Card.{Card}
use Rattle.card_record.specs.declared.Kind.{Kind}
use Rattle.card_record.specs.declared.Step.{Step}
use Rattle.card_record.specs.declared.Phase.{Phase}
use Rattle.card_record.specs.declared.Phase.TheVariants.{Quiet, Trial, Back, Fallen}

-- every step is made here: a card after one whose last number was `last`, its notification, and the AID that was deleted (decision B37)
abbrev pub step_since : ℕ → Card → Aid → Step
step_since last d deleted = record { card = d; notification = notice_since last d; deleted = deleted }

-- of a number that was issued: with the notification of a kind
abbrev pub step_notified : Kind → Card → Aid → Step
step_notified kind d deleted = record { card = d; notification = issued_as kind d; deleted = deleted }

-- from card c to card d
abbrev pub step_to : Card → Card → Aid → Step
step_to c d deleted = step_since c.last d deleted

unfoldable pub tick_step : Card → Step
tick_step c = step_to c (tick_of c) no_aid

unfoldable pub lost_step : Card → Step
lost_step c = step_to c (without_network c) no_aid

-- the AID that the confirmation deletes
abbrev pub trial_gone : Card → ℕ → Aid
trial_gone c previous = cond (dropped c previous) (at c.places previous).aid no_aid

abbrev pub gone_in : Phase → Card → Aid
gone_in Quiet c = no_aid
gone_in (Trial previous left number) c = trial_gone c previous
gone_in (Back left number) c = no_aid
gone_in (Fallen left number) c = no_aid

unfoldable pub confirm_step : Card → Step
confirm_step c = step_to c (confirm_of c) (gone_in c.phase c)
