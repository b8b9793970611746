-- Document 01, 'Steps': "Entering Trial, Back or Fallen sets ticks left to 10 and issues the next number with its kind"; 'The card': "A
-- notification is handed out as values: kind, number, EID and the AID of the profile then enabled." Of every sound card and every call:
-- no phase is entered without its notification, and without one the enabled profile is the one that it was.
use Rattle.std.specs.Prelude.{◌≡◌, List, [], ◌∷◌, true}
use Rattle.base_status.specs.StatusWords.{is_done}
use Rattle.card_isdp.specs.Aids.{named}
use Rattle.card_isdp.specs.declared.Aid.{Aid}
use Rattle.card_record.specs.Cards.{enabled_aid}
use Rattle.card_record.specs.Sound.{sound}
use Rattle.card_record.specs.declared.Kind.{Kind}
use Rattle.card_record.specs.declared.Kind.TheVariants.{Silent, Changed, RolledBack, FallenBack}
use Rattle.card_record.specs.declared.Notification.{Notification}
use Rattle.rule_run.specs.Calls.{Call}
use Rattle.rule_run.specs.Step.{run}
use Rattle.rule_run.specs.Inputs.{Inputs, fresh_of}
use Rattle.rule_run.specs.Notified.{Notified, CallsNotify}
use Rattle.proof_demands.specs.Said.{Exchange, exchanges}
use Rattle.proof_demands.specs.Engines.{Engine, card_after, answer_after}

-- the profile that a notification names; where there is none, the one that was known before
abbrev pub named_by : Kind → Aid → Aid → Aid
named_by Silent aid known = known
named_by Changed aid known = aid
named_by RolledBack aid known = aid
named_by FallenBack aid known = aid

abbrev pub now_known : Notification → Aid → Aid
now_known n known = named_by n.kind n.aid known

-- after a run, seen from outside: the last one that was named
unfoldable pub last_named : Aid → List Exchange → Aid
last_named known [] = known
last_named known (x ∷ xs) = last_named (now_known x.answer.notification known) xs

-- the profile enabled at any moment is the one that the last notification named, or the one that fresh was given
abbrev pub LastNamed : Type 0
LastNamed =
    (x : Inputs) (calls : List Call)
    → is_done (fresh_of x).status ≡ true
    → enabled_aid (run (fresh_of x).card calls) ≡ last_named (named x.aid) (exchanges (fresh_of x).card calls)

pub record Notifying : Type 0 where
  pub calls-notify : CallsNotify
  pub last-named : LastNamed

-- an engine that is asked the same: at every card that it reaches from an accepted fresh
abbrev pub MeetsNotified : Engine → Type 0
MeetsNotified e =
    (x : Inputs) → is_done (fresh_of x).status ≡ true → (past : List Call) (call : Call)
    → Notified (card_after e x past) (answer_after e x past call)
