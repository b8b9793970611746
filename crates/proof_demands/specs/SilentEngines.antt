-- The silent fall-back: engines that change the enabled profile and hand no notification out. Each is the manager with the notification of
-- one kind of call left out, and none meets what is asked of notifications.
use Rattle.std.specs.Prelude.{Bool, true, false, cond}
use Rattle.card_record.specs.Notifications.{silent}
use Rattle.card_record.specs.Answers.{Outcome}
use Rattle.rule_run.specs.Calls.{Call, Call.Command, Call.Keyed, Call.Stored, Call.Finished, Call.Tick, Call.Lost, Call.PolicyUpdate}
use Rattle.rule_run.specs.Step.{step}
use Rattle.rule_run.specs.Runs.{is_tick}
use Rattle.proof_demands.specs.Engines.{Engine, plain, manager}
use Rattle.proof_demands.specs.Notified.{MeetsNotified}

abbrev pub is_lost : Call → Bool
is_lost (Command verdict s room) = false
is_lost (Keyed aid) = false
is_lost (Stored aid n) = false
is_lost (Finished aid policy mark) = false
is_lost Tick = false
is_lost Lost = true
is_lost (PolicyUpdate speaker s room) = false

-- an answer with its notification left out
abbrev pub hushed : Outcome → Outcome
hushed o = record { status = o.status; card = o.card; response = o.response; notification = silent; ticks = o.ticks }

abbrev pub silent_on : (Call → Bool) → Engine
silent_on test = plain (λ c call. cond (test call) (hushed (step c call)) (step c call))

pub record SilenceCaught : Type 0 where
  pub manager-notifies : MeetsNotified manager
  -- a lost network falls back in silence; a tick rolls back in silence
  pub silent-lost : MeetsNotified (silent_on is_lost) → ⊥
  pub silent-tick : MeetsNotified (silent_on is_tick) → ⊥
