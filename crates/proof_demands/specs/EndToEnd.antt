-- Demand 3 from end to end: from the number in the opening's notification and the bytes of its confirmation, sent before the tenth tick, to
-- Quiet with the profile asked for; the same of the roll-back's number before the twentieth, and of the fall-back's. Any calls may stand
-- between that leave the change open.
use Rattle.std.specs.Prelude.{ℕ, ◌≤◌, ◌<◌, ◌≡◌, List, ◌∷◌, ◌++◌, true}
use Rattle.base_status.specs.declared.Status.TheVariants.{NotHeld, Done}
use Rattle.card_isdp.specs.Aids.{bytes_of}
use Rattle.card_record.specs.Clock.{next_number}
use Rattle.card_record.specs.Notifications.{code_of}
use Rattle.card_record.specs.Answers.{Outcome}
use Rattle.card_record.specs.declared.Card.{Card}
use Rattle.card_record.specs.declared.Notification.{Notification}
use Rattle.card_record.specs.declared.Phase.TheVariants.{Quiet}
use Rattle.read_fields.specs.Grammar.{confirmation, store_data}
use Rattle.rule_run.specs.Calls.{Call, Call.Tick}
use Rattle.rule_run.specs.Step.{step, run}
use Rattle.rule_run.specs.Runs.{enabled_bytes, fallback_bytes, ticks_among}
use Rattle.rule_run.specs.Samples.{aid, enable, confirm, ticks}
use Rattle.proof_demands.specs.Change.{stays_open, Opens}
use Rattle.proof_demands.specs.Room.{Writes}
use Rattle.proof_demands.specs.Witnesses.{second}

-- what a notification says: the code of its kind (000, 4.1.1.11), its number, the AID of the profile then enabled
pub record Tells (code number : ℕ) (profile : List ℕ) (n : Notification) : Type 0 where
  pub its-code : code_of n.kind ≡ code
  pub its-number : n.number ≡ number
  pub its-profile : bytes_of n.aid ≡ profile

-- 90 00, the change is closed, and this profile is enabled
pub record ClosedOn (profile : List ℕ) (o : Outcome) : Type 0 where
  pub status : o.status ≡ Done
  pub quiet : o.card.phase ≡ Quiet
  pub enabled : enabled_bytes o.card ≡ profile

-- the call is a command whose bytes write the confirmation of this number, lent a buffer that is long enough
abbrev pub Confirming : Card → ℕ → Call → Type 0
Confirming c number call = Writes c.capacity (store_data (confirmation number)) call

-- after an opening on card c that was answered so
pub record ToTheClose (c : Card) (wanted : List ℕ) (o : Outcome) : Type 0 where
  -- 90 00, and a notification of the change, with the next number
  pub status : o.status ≡ Done
  pub opening : Tells 0x02 (next_number c.last) wanted o.notification
  -- its number is confirmed with fewer than ten ticks since: "the one asked for"
  pub confirmed : (calls : List Call) (call : Call) → stays_open (run o.card) calls ≡ true → ticks_among calls < 10 → Confirming c o.notification.number call → ClosedOn wanted (step (run o.card calls) call)
  -- from the tenth tick on its confirmation is answered 6A 88
  pub late : (calls : List Call) (call : Call) → stays_open (run o.card) calls ≡ true → 10 ≤ ticks_among calls → Confirming c o.notification.number call → (step (run o.card calls) call).status ≡ NotHeld
  -- the tenth tick hands out the notification of the roll-back, with the number after it
  pub tenth-tick : (calls : List Call) → stays_open (run o.card) calls ≡ true → ticks_among calls ≡ 9 → Tells 0x03 (next_number o.notification.number) (enabled_bytes c) (step (run o.card calls) Tick).notification
  -- that is confirmed before the twentieth: "the previous one"
  pub roll-back-confirmed : (calls : List Call) (call : Call) → stays_open (run o.card) calls ≡ true → 10 ≤ ticks_among calls → ticks_among calls < 20 → Confirming c (next_number o.notification.number) call → ClosedOn (enabled_bytes c) (step (run o.card calls) call)
  -- later, where the change is open still: "the fall-back"
  pub fall-back-confirmed : (calls : List Call) (call : Call) → stays_open (run o.card) calls ≡ true → 20 ≤ ticks_among calls → Confirming c (next_number (next_number o.notification.number)) call → ClosedOn (fallback_bytes c) (step (run o.card calls) call)

-- of every card and every call that opens a change there
abbrev pub EndToEnd3 : Type 0
EndToEnd3 = (c : Card) (call : Call) (wanted : List ℕ) → Opens c call wanted → ToTheClose c wanted (step c call)

-- 03 is enabled on the card of the witnesses, over 02, and calls follow with nine, nineteen and twenty-nine ticks; every number has a command
pub record EndToEndMet : Type 0 where
  pub opens : Opens second (enable 3) (aid 3)
  pub nine : stays_open (run (step second (enable 3)).card) (ticks 9) ≡ true
  pub nine-ticks : ticks_among (ticks 9) ≡ 9
  pub nineteen : stays_open (run (step second (enable 3)).card) (ticks 10 ++ confirm 2 ∷ ticks 9) ≡ true
  pub nineteen-ticks : ticks_among (ticks 10 ++ confirm 2 ∷ ticks 9) ≡ 19
  pub twenty-nine : stays_open (run (step second (enable 3)).card) (ticks 29) ≡ true
  pub twenty-nine-ticks : ticks_among (ticks 29) ≡ 29
  pub writes : (c : Card) (number : ℕ) → number < 65536 → Confirming c number (confirm number)
