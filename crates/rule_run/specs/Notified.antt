-- Document 01, 'Steps': "Entering Trial, Back or Fallen sets ticks left to 10 and issues the next number with its kind"; 'The card': "A
-- notification is handed out as values: kind, number, EID and the AID of the profile then enabled." Of every sound card and every call:
-- no phase is entered without its notification, and without one the enabled profile is the one that it was.
use Rattle.std.specs.Prelude.{◌≡◌, true}
use Rattle.card_isdp.specs.Aids.{no_aid}
use Rattle.card_record.specs.Sound.{sound}
use Rattle.card_record.specs.Noticed.{Noticed}
use Rattle.card_record.specs.Answers.{Outcome}
use Rattle.card_record.specs.declared.Card.{Card}
use Rattle.rule_run.specs.Calls.{Call}
use Rattle.rule_run.specs.Step.{step}

-- what an answer to a call on card c tells: card and notification as in a step (what was deleted is told by the response)
abbrev pub Notified : Card → Outcome → Type 0
Notified c o = Noticed c (record { card = o.card; notification = o.notification; deleted = no_aid })

-- either there is no notification, and the enabled AID and the last number are as they were; or a phase was just opened, and the
-- notification has its kind, the next number, the EID and the AID of the profile then enabled
abbrev pub CallsNotify : Type 0
CallsNotify = (c : Card) (call : Call) → sound c ≡ true → Notified c (step c call)
