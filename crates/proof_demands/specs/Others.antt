-- Document 01, 'Who may influence what': "A step on one target leaves AID, quota, used and policy of all others as they were, save
-- the deletion at confirmation"; request 2026-02: their marks too. It holds on every card; a place not held is no other profile, and a creation may fill it.
use Rattle.std.specs.Prelude.{ℕ, ◌≡◌, Bool, true, false, ◌&&◌, eqb}
use Rattle.base_status.specs.StatusWords.{is_done}
use Rattle.card_isdp.specs.Place.{vacant, held}
use Rattle.card_isdp.specs.declared.Isdp.{Isdp}
use Rattle.card_places.specs.Places.{at}
use Rattle.card_record.specs.Cards.{place_of}
use Rattle.card_record.specs.Clock.{dropped}
use Rattle.card_record.specs.declared.Card.{Card}
use Rattle.card_record.specs.declared.Phase.{Phase}
use Rattle.card_record.specs.declared.Phase.TheVariants.{Quiet, Trial, Back, Fallen}
use Rattle.rule_steps.specs.Asked.{Asked, Asked.unread, Asked.create, Asked.on, Asked.confirm, Asked.status_of_all, Asked.get_data, Asked.tick, Asked.lost, on_target}
use Rattle.rule_run.specs.Calls.{Call, asked}
use Rattle.rule_run.specs.Step.{step}
use Rattle.rule_run.specs.Samples as sample
use Rattle.proof_demands.specs.SampleRun.{loaded, after_change}

-- AID, quota, used, policy and mark are as they were; the life cycle is not spoken of (decision 68)
pub record AsItWas (before after : Isdp) : Type 0 where
  pub aid : after.aid ≡ before.aid
  pub quota : after.quota ≡ before.quota
  pub used : after.used ≡ before.used
  pub policy : after.policy ≡ before.policy
  pub mark : after.mark ≡ before.mark

-- the call's target stands at this place; of a policy update it is the speaker (decision B86)
abbrev pub targets : Card → Asked → ℕ → Bool
targets c a place = on_target false (λ aid act. eqb (place_of c aid) place) a

-- "In Trial the previous profile is then deleted if its policy says delete once disabled and it is not the fall-back."
abbrev pub leaves_in : Phase → Card → ℕ → Bool
leaves_in Quiet c place = false
leaves_in (Trial previous left number) c place = eqb previous place && dropped c previous
leaves_in (Back left number) c place = false
leaves_in (Fallen left number) c place = false

-- the call confirms, and so deletes the profile at this place
abbrev pub leaves : Card → Asked → ℕ → Bool
leaves c unread place = false
leaves c (create aid quota) place = false
leaves c (on aid act) place = false
leaves c (confirm number) place = leaves_in c.phase c place
leaves c (status_of_all next life fallback) place = false
leaves c get_data place = false
leaves c tick place = false
leaves c lost place = false

-- the deletion at confirmation; a refused confirmation deletes nothing
abbrev pub deletes_at : Card → Call → ℕ → Bool
deletes_at c call place = is_done (step c call).status && leaves c (asked c call) place

abbrev pub OthersUntouched : Type 0
OthersUntouched =
    (c : Card) (call : Call) (place : ℕ) → held (at c.places place) ≡ true →
    targets c (asked c call) place ≡ false → deletes_at c call place ≡ false →
    AsItWas (at c.places place) (at (step c call).card.places place)

abbrev pub SaveTheDeletion : Type 0
SaveTheDeletion =
    (c : Card) (call : Call) (place : ℕ) → deletes_at c call place ≡ true →
    at (step c call).card.places place ≡ vacant

-- the target at place 2 and the other profile at place 0; at the confirmation the profile at place 1 goes
pub record OthersMet : Type 0 where
  pub there : held (at loaded.places 0) ≡ true
  pub target : targets loaded (asked loaded (sample.enable 3)) 2 ≡ true
  pub other : targets loaded (asked loaded (sample.enable 3)) 0 ≡ false
  pub stays : deletes_at loaded (sample.enable 3) 0 ≡ false
  pub goes : deletes_at after_change (sample.confirm 2) 1 ≡ true
