-- Demand 1: "A malformed or forbidden request comes back with its status word from document 01, no response data, the card record
-- equal to the one handed in and the lent buffer untouched." Of every card and every call, and of every fresh.
use Rattle.std.specs.Prelude.{ℕ, ◌≡◌, List, [], true, false}
use Rattle.base_bytes.specs.Put.{put}
use Rattle.base_status.specs.StatusWords.{is_done}
use Rattle.card_record.specs.Sound.{sound}
use Rattle.card_record.specs.Notifications.{silent}
use Rattle.card_record.specs.Answers.{Outcome}
use Rattle.card_record.specs.Fresh.{zero_card, fresh_outcome}
use Rattle.card_record.specs.declared.Card.{Card}
use Rattle.rule_run.specs.Calls.{Call}
use Rattle.rule_run.specs.Step.{step}

-- the card c is handed back, and nothing else is handed out
pub record HandedBack (c : Card) (o : Outcome) : Type 0 where
  pub same-card : o.card ≡ c
  pub no-response : o.response ≡ []
  pub no-notification : o.notification ≡ silent

-- "Every refusal returns the card as given .., no response, no notification"
abbrev pub Refusals : Type 0
Refusals = (c : Card) (call : Call) → is_done (step c call).status ≡ false → HandedBack c (step c call)

-- ".. and writes no byte": a buffer that held `old` holds `put old 0 response` after a call
abbrev pub Untouched : Type 0
Untouched =
    (c : Card) (call : Call) (old : List ℕ) → is_done (step c call).status ≡ false → put old 0 (step c call).response ≡ old

-- "fresh: a record of zeros"
abbrev pub FreshRefusals : Type 0
FreshRefusals =
    (eid aid : List ℕ) (capacity quota used volatile : ℕ)
    → is_done (fresh_outcome eid aid capacity quota used volatile).status ≡ false
    → HandedBack zero_card (fresh_outcome eid aid capacity quota used volatile)

pub record Demand1 : Type 0 where
  pub refusals : Refusals
  pub untouched : Untouched
  pub fresh-refusals : FreshRefusals
  -- ".. in Quiet, which is not sound"
  pub zeros-unsound : sound zero_card ≡ false

-- some call on a sound card is refused, and some fresh
pub record Demand1Met : Type 0 where
  pub card : Card
  pub call : Call
  pub refused : (sound card ≡ true) × (is_done (step card call).status ≡ false)
  pub eid : List ℕ
  pub aid : List ℕ
  pub fresh-refused : is_done (fresh_outcome eid aid 0 0 0 0).status ≡ false
