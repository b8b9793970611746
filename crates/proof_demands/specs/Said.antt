-- What an answer says to the caller: all of it but the card. Two answers are called equal, and a history is counted, by this alone.
use Rattle.std.specs.Prelude.{ℕ, List, [], ◌∷◌}
use Rattle.base_status.specs.declared.Status.{Status}
use Rattle.card_record.specs.Answers.{Outcome}
use Rattle.card_record.specs.declared.Card.{Card}
use Rattle.card_record.specs.declared.Notification.{Notification}
use Rattle.rule_run.specs.Calls.{Call}
use Rattle.rule_run.specs.Step.{step}

pub record Said : Type 0 where
  pub status : Status
  pub response : List ℕ
  pub notification : Notification
  pub ticks : ℕ

abbrev pub said : Outcome → Said
said o = record { status = o.status; response = o.response; notification = o.notification; ticks = o.ticks }

-- a call with what was said to it
pub record Exchange : Type 0 where
  pub call : Call
  pub answer : Said

-- a run of calls from a card, seen from outside
unfoldable pub exchanges : Card → List Call → List Exchange
exchanges c [] = []
exchanges c (call ∷ calls) =
    record { call = call; answer = said (step c call) } ∷ exchanges (step c call).card calls
