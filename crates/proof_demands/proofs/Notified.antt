-- The enabled profile is the one last named: by induction over the calls, each of which notifies what it changes. Assumes nothing.
use mathlib.Core.Path.{◌≡◌, ap, sym, ◌∙◌}
use mathlib.Core.List.{List, [], ◌∷◌}
use mathlib.Core.Bool.{true}
use Rattle.base_status.specs.StatusWords.{is_done}
use Rattle.card_isdp.specs.Aids.{named}
use Rattle.card_isdp.specs.declared.Aid.{Aid}
use Rattle.card_isdp.specs.LifeCycle.{enabled}
use Rattle.card_places.specs.Places.{seek}
use Rattle.card_record.specs.Cards.{enabled_aid}
use Rattle.card_record.specs.Sound.{sound}
use Rattle.card_record.specs.Noticed.{JustOpened, silently, announced}
use Rattle.card_record.specs.Answers.{Outcome}
use Rattle.card_record.specs.declared.Card.{Card}
use Rattle.card_record.specs.declared.Notification.{Notification}
use Rattle.card_record.specs.declared.Phase.{Phase}
use Rattle.card_record.specs.declared.Phase.TheVariants.{Quiet, Trial, Back, Fallen}
use Rattle.card_record.proofs.Freshness.{fresh-sound}
use Rattle.rule_steps.specs.Asked.{Act.status}
use Rattle.rule_run.specs.Calls.{Call}
use Rattle.rule_run.specs.Step.{step, run}
use Rattle.rule_run.proofs.Kept.{step-sound}
use Rattle.rule_run.specs.Inputs.{Inputs, fresh_of}
use Rattle.proof_demands.specs.Said.{exchanges}
use Rattle.proof_demands.specs.Notified as statement
use Rattle.rule_run.specs.Notified.{Notified}
use Rattle.rule_run.proofs.Notified.{calls-notify}
use Rattle.proof_demands.specs.Notified.{now_known, last_named}
use Rattle.proof_demands.proofs.Free.{fresh-is}

-- a notification of a phase just opened names a profile
opened-names : (p : Phase) (n : Notification) (known : Aid) → JustOpened p n → now_known n known ≡ n.aid
opened-names Quiet n known o = absurd o
opened-names (Trial previous left number) n known o = rw o.its-kind
opened-names (Back left number) n known o = rw o.its-kind
opened-names (Fallen left number) n known o = rw o.its-kind

-- what is known after an answer
known_is : (c : Card) (o : Outcome) (known : Aid) → enabled_aid c ≡ known → Notified c o → enabled_aid o.card ≡ now_known o.notification known
known_is c o known h (silently x) = rw x.none (x.same-profile ∙ h)
known_is c o known h (announced x) = sym (opened-names o.card.phase o.notification known x.phase ∙ x.profile)

run-named : (calls : List Call) (c : Card) (known : Aid) → sound c ≡ true → enabled_aid c ≡ known → enabled_aid (run c calls) ≡ last_named known (exchanges c calls)
unfolding run exchanges last_named
run-named [] c known s e = e
run-named (call ∷ calls) c known s e =
    run-named calls (step c call).card (now_known (step c call).notification known) (step-sound c call s) (known_is c (step c call) known e (calls-notify c call s))

fresh-named : (x : Inputs) → is_done (fresh_of x).status ≡ true → enabled_aid (fresh_of x).card ≡ named x.aid
unfolding seek
fresh-named x h = ap enabled_aid (fresh-is x h).1

pub last-named : statement.LastNamed
last-named x calls h =
    run-named calls (fresh_of x).card (named x.aid) (fresh-sound x.eid x.aid x.capacity x.quota x.used x.volatile h) (fresh-named x h)

pub notifying : statement.Notifying
notifying = record { calls-notify = calls-notify; last-named = last-named }
