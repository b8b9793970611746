-- The laws are not empty: sound cards in every phase, and on them each call that can be refused is accepted, and refused by each of its rows.
use Rattle.std.specs.Prelude.{ℕ, ◌-◌, ◌≡◌, List, [], ◌∷◌, Bool, true, replicate}
use Rattle.base_status.specs.StatusWords.{number_of}
use Rattle.base_status.specs.declared.Status.TheVariants.{Done}
use Rattle.card_isdp.specs.Sizes.{most_places, eid_size}
use Rattle.card_isdp.specs.LifeCycle.{selectable, personalized, disabled, enabled, with_used, with_policy, with_mark}
use Rattle.card_isdp.specs.Place.{vacant, made}
use Rattle.card_isdp.specs.declared.Isdp.{Isdp}
use Rattle.card_places.specs.Places.{at}
use Rattle.card_record.specs.Cards.{no_place, card_with, keeping, rewritten}
use Rattle.card_record.specs.Sound.{sound}
use Rattle.card_record.specs.Answers.{outcome}
use Rattle.card_record.specs.Fresh.{fresh_outcome}
use Rattle.card_record.specs.declared.Card.{Card}
use Rattle.card_record.specs.declared.Phase.{Phase}
use Rattle.card_record.specs.declared.Phase.TheVariants.{Quiet, Trial, Back, Fallen}
use Rattle.rule_steps.specs.Asked.{Act, Act.enable, Act.disable, Act.delete, Act.master_delete, Act.set_fall_back, Act.status, Act.keyed, Act.stored, Act.finished, Act.set_policy, Asked, Asked.create, Asked.on, Asked.confirm, Asked.status_of_all}
use Rattle.rule_responses.specs.Worked.{aid_ending}
use Rattle.rule_steps.specs.Steps.{asked_work, inner_work}

-- 01, the fall-back, and 02 in these states and marked, 03 SELECTABLE, 04 PERSONALIZED with 10 bytes used
abbrev pub law_card : ℕ → ℕ → ℕ → Phase → Card
law_card first second last phase =
    card_with (replicate eid_size 0) 1000 0 600 last 0 phase no_place
    (with_mark (made (aid_ending 1) first 100 10) 1
    ∷ with_mark (made (aid_ending 2) second 100 10) 1
    ∷ made (aid_ending 3) selectable 100 0
    ∷ made (aid_ending 4) personalized 100 10
    ∷ replicate (most_places - 4) vacant)

-- the fall-back is enabled, or 02 is
abbrev pub on01 : ℕ → Phase → Card
on01 last phase = law_card enabled disabled last phase

abbrev pub on02 : ℕ → Phase → Card
on02 last phase = law_card disabled enabled last phase

abbrev pub Accepts : Card → Asked → Type 0
Accepts c a = (outcome c (asked_work c a)).status ≡ Done

abbrev pub AcceptsInner : Card → ℕ → Act → Type 0
AcceptsInner c n act = (outcome c (inner_work c (aid_ending n) act)).status ≡ Done

-- the word of a refusal; of a command that asks for no open change, in each open phase
abbrev pub GivesWord : ℕ → Card → Asked → Type 0
GivesWord word c a = number_of (outcome c (asked_work c a)).status ≡ word

abbrev pub GivesInner : ℕ → Card → List ℕ → Act → Type 0
GivesInner word c aid act = number_of (outcome c (inner_work c aid act)).status ≡ word

abbrev pub WhileOpen : Asked → Type 0
WhileOpen a = GivesWord 0x6985 (on02 1 (Trial 0 10 1)) a × GivesWord 0x6985 (on01 2 (Back 10 2)) a × GivesWord 0x6985 (on01 3 (Fallen 10 3)) a

-- another profile at this place; and one with this policy
abbrev pub in_change : Card → ℕ → (Isdp → Isdp) → Card
in_change c i f = rewritten c i (f (at c.places i))

abbrev pub ruling : Card → ℕ → ℕ → Card
ruling c i policy = in_change c i (λ p. with_policy p policy)

-- each row of each call gives its word, where it can be on a card on which a later row holds too; 09 is not held
pub record RowsMet : Type 0 where
  pub create-open : WhileOpen (create (aid_ending 2) 601)
  pub create : GivesWord 0x6A80 (on01 0 Quiet) (create (aid_ending 2) 601) × GivesWord 0x6A84 (on01 0 Quiet) (create (aid_ending 5) 601)
  pub enable-open : WhileOpen (on (aid_ending 9) enable)
  pub enable : GivesWord 0x6A88 (ruling (on01 0 Quiet) 0 1) (on (aid_ending 9) enable) × GivesWord 0x6985 (ruling (on01 0 Quiet) 0 1) (on (aid_ending 4) enable) × GivesWord 0x69E1 (ruling (on01 0 Quiet) 0 1) (on (aid_ending 2) enable)
  pub disable-open : WhileOpen (on (aid_ending 9) disable)
  -- not ENABLED, the fall-back
  pub disable : GivesWord 0x6A88 (on01 0 Quiet) (on (aid_ending 9) disable) × GivesWord 0x6985 (ruling (on01 0 Quiet) 1 1) (on (aid_ending 2) disable) × GivesWord 0x6985 (ruling (on01 0 Quiet) 0 1) (on (aid_ending 1) disable) × GivesWord 0x69E1 (ruling (on02 0 Quiet) 1 1) (on (aid_ending 2) disable)
  pub delete-open : WhileOpen (on (aid_ending 9) delete)
  -- ENABLED, the fall-back
  pub delete : GivesWord 0x6A88 (on01 0 Quiet) (on (aid_ending 9) delete) × GivesWord 0x6985 (ruling (on02 0 Quiet) 1 2) (on (aid_ending 2) delete) × GivesWord 0x6985 (ruling (on02 0 Quiet) 0 2) (on (aid_ending 1) delete) × GivesWord 0x69E1 (ruling (on01 0 Quiet) 1 2) (on (aid_ending 2) delete)
  pub master-delete-open : WhileOpen (on (aid_ending 9) (master_delete 0))
  -- not DISABLED, the fall-back
  pub master-delete : GivesWord 0x6A88 (on01 0 Quiet) (on (aid_ending 9) (master_delete 0)) × GivesWord 0x6985 (on01 0 Quiet) (on (aid_ending 3) (master_delete 0)) × GivesWord 0x6985 (on02 0 Quiet) (on (aid_ending 1) (master_delete 0)) × GivesWord 0x6982 (on01 0 Quiet) (on (aid_ending 2) (master_delete 0))
  pub set-fall-back-open : WhileOpen (on (aid_ending 9) set_fall_back)
  -- not finished, not marked
  pub set-fall-back : GivesWord 0x6A88 (on01 0 Quiet) (on (aid_ending 9) set_fall_back) × GivesWord 0x6985 (on01 0 Quiet) (on (aid_ending 4) set_fall_back) × GivesWord 0x6985 (in_change (on01 0 Quiet) 1 (λ p. with_mark p 0)) (on (aid_ending 2) set_fall_back)
  pub confirmation : GivesWord 0x6985 (on01 0 Quiet) (confirm 1) × GivesWord 0x6A88 (on02 1 (Trial 0 10 1)) (confirm 0) × GivesWord 0x6A88 (on01 2 (Back 10 2)) (confirm 1) × GivesWord 0x6A88 (on01 3 (Fallen 10 3)) (confirm 2)
  pub status-of-next : GivesWord 0x6A88 (on01 0 Quiet) (status_of_all true true true)
  pub status-of-one : (life attribute : Bool) → GivesWord 0x6A88 (on01 0 Quiet) (on (aid_ending 9) (status life attribute))
  -- an AID of 1 byte; the inner calls in an open phase
  pub keyed : GivesInner 0x6A80 (on01 3 (Fallen 10 3)) (0xA0 ∷ []) keyed × GivesInner 0x6A88 (on01 3 (Fallen 10 3)) (aid_ending 9) keyed × GivesInner 0x6985 (on01 3 (Fallen 10 3)) (aid_ending 4) keyed
  pub stored : GivesInner 0x6A80 (on01 3 (Fallen 10 3)) (0xA0 ∷ []) (stored 101) × GivesInner 0x6A88 (on01 3 (Fallen 10 3)) (aid_ending 9) (stored 101) × GivesInner 0x6985 (on01 3 (Fallen 10 3)) (aid_ending 3) (stored 101) × GivesInner 0x6A84 (on01 3 (Fallen 10 3)) (aid_ending 4) (stored 91)
  -- the AID, the policy, the mark
  pub finished-values : GivesInner 0x6A80 (on01 3 (Fallen 10 3)) (0xA0 ∷ []) (finished 0 0) × GivesInner 0x6A80 (on01 3 (Fallen 10 3)) (aid_ending 9) (finished 5 0) × GivesInner 0x6A80 (on01 3 (Fallen 10 3)) (aid_ending 9) (finished 0 2)
  -- another life cycle, used 0
  pub finished : GivesInner 0x6A88 (on01 3 (Fallen 10 3)) (aid_ending 9) (finished 0 0) × GivesInner 0x6985 (on01 3 (Fallen 10 3)) (aid_ending 2) (finished 0 0) × GivesInner 0x6985 (in_change (on01 3 (Fallen 10 3)) 3 (λ p. with_used p 0)) (aid_ending 4) (finished 0 0)
  pub set-policy : GivesInner 0x6A80 (on01 3 (Fallen 10 3)) (aid_ending 9) (set_policy 5) × GivesInner 0x6985 (on01 3 (Fallen 10 3)) (aid_ending 9) (set_policy 4) × GivesInner 0x6A88 (on01 0 Quiet) (aid_ending 9) (set_policy 4) × GivesInner 0x6985 (on01 0 Quiet) (aid_ending 2) (set_policy 4)

pub record LawsMet : Type 0 where
  -- every phase, with ticks left and with the last one
  pub quiet-sound : sound (on01 0 Quiet) ≡ true
  pub away-sound : sound (on02 0 Quiet) ≡ true
  pub trial-sound : (sound (on02 1 (Trial 0 10 1)) ≡ true) × (sound (on02 1 (Trial 0 1 1)) ≡ true)
  pub back-sound : (sound (on01 2 (Back 10 2)) ≡ true) × (sound (on01 2 (Back 1 2)) ≡ true) × (sound (on02 2 (Back 1 2)) ≡ true)
  pub fallen-sound : (sound (on01 3 (Fallen 10 3)) ≡ true) × (sound (on01 3 (Fallen 1 3)) ≡ true)
  -- of the greatest capacity, all of it the profile's quota and used
  pub begins : (fresh_outcome (replicate eid_size 0) (aid_ending 1) 1048576 1048576 1048576 0).status ≡ Done
  pub creates : Accepts (on01 0 Quiet) (create (aid_ending 5) 600)
  pub keys : AcceptsInner (on01 0 Quiet) 3 keyed
  pub stores : AcceptsInner (on01 0 Quiet) 4 (stored 90)
  pub finishes : AcceptsInner (on01 0 Quiet) 4 (finished 0 0) × AcceptsInner (on01 0 Quiet) 4 (finished 0 1)
  -- of the fall-back, and of another that is enabled; the five legal policies
  pub sets-policy : AcceptsInner (on01 0 Quiet) 1 (set_policy 0) × AcceptsInner (on01 0 Quiet) 1 (set_policy 1) × AcceptsInner (on01 0 Quiet) 1 (set_policy 2) × AcceptsInner (on02 0 Quiet) 2 (set_policy 3) × AcceptsInner (on02 0 Quiet) 2 (set_policy 4)
  pub enables : Accepts (on01 0 Quiet) (on (aid_ending 2) enable)
  pub disables : Accepts (on02 0 Quiet) (on (aid_ending 2) disable)
  -- DISABLED, SELECTABLE, PERSONALIZED
  pub deletes : Accepts (on01 0 Quiet) (on (aid_ending 2) delete) × Accepts (on01 0 Quiet) (on (aid_ending 3) delete) × Accepts (on01 0 Quiet) (on (aid_ending 4) delete)
  pub master-deletes : Accepts (on01 0 Quiet) (on (aid_ending 2) (master_delete 1))
  pub sets-fall-back : Accepts (on01 0 Quiet) (on (aid_ending 2) set_fall_back)
  pub confirms-trial : Accepts (on02 1 (Trial 0 10 1)) (confirm 1)
  pub confirms-back : Accepts (on01 2 (Back 10 2)) (confirm 2)
  pub confirms-fallen : Accepts (on01 3 (Fallen 10 3)) (confirm 3)
  -- a listing goes on at a kept place
  pub keeps-sound : sound (keeping (on01 0 Quiet) 2) ≡ true
  pub lists-on : Accepts (keeping (on01 0 Quiet) 2) (status_of_all true true true)
  pub tells-status : (life attribute : Bool) → Accepts (on01 0 Quiet) (on (aid_ending 2) (status life attribute))
  pub each_row : RowsMet
