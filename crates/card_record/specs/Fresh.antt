-- Document 01, 'The card': "A fresh card has one profile, ENABLED and fall-back, empty policy, Quiet, last number 0." Its mark: request 2026-02,
-- "the fresh profile has it". "Inputs that break the sizes, or used over quota, give 6A 80 and a record of zeros in Quiet".
use Rattle.std.specs.Prelude.{ℕ, ◌-◌, List, [], ◌∷◌, Bool, not, ◌&&◌, length, replicate, leb, eqb}
use Rattle.base_status.specs.Rows.{row, word_of}
use Rattle.base_status.specs.declared.Status.TheVariants.{DataWrong, Done}
use Rattle.card_isdp.specs.Sizes.{most_places, eid_size, most_capacity}
use Rattle.card_isdp.specs.Aids.{aid_ok, no_aid}
use Rattle.card_isdp.specs.LifeCycle.{enabled, with_mark}
use Rattle.card_isdp.specs.Place.{vacant, made}
use Rattle.card_isdp.specs.declared.Isdp.{Isdp}
use Rattle.card_record.specs.Cards.{card_with, no_place}
use Rattle.card_record.specs.Steps.{step_to}
use Rattle.card_record.specs.Answers.{Outcome, settle}
use Rattle.card_record.specs.declared.Card.{Card}
use Rattle.card_record.specs.declared.Phase.TheVariants.{Quiet}

-- the record of zeros; it keeps no place (decisions 59, B8, B71)
abbrev pub zero_card : Card
zero_card = card_with (replicate eid_size 0) 0 0 0 0 0 Quiet no_place (replicate most_places vacant)

-- the one profile of a fresh card (decision B55)
abbrev pub fresh_profile : List ℕ → ℕ → ℕ → Isdp
fresh_profile aid quota used = with_mark (made aid enabled quota used) 1

-- free is what its quota leaves of the capacity (decision B66)
abbrev pub fresh_card : List ℕ → List ℕ → ℕ → ℕ → ℕ → ℕ → Card
fresh_card eid aid capacity quota used volatile =
    card_with eid capacity volatile (capacity - quota) 0 0 Quiet no_place (fresh_profile aid quota used ∷ replicate (most_places - 1) vacant)

-- "Inputs that break the sizes, or used over quota": lengths are asked, and no other value of EID or AID (decisions 12, 48, B14)
abbrev pub fresh_ok : List ℕ → List ℕ → ℕ → ℕ → ℕ → Bool
fresh_ok eid aid capacity quota used =
    eqb (length eid) eid_size
    && (aid_ok aid
    && (leb 1 capacity
    && (leb capacity most_capacity && (leb 1 quota && (leb quota capacity && leb used quota)))))

unfoldable pub fresh_outcome : List ℕ → List ℕ → ℕ → ℕ → ℕ → ℕ → Outcome
fresh_outcome eid aid capacity quota used volatile =
    settle zero_card (word_of Done (row (not (fresh_ok eid aid capacity quota used)) DataWrong ∷ []))
    (step_to zero_card (fresh_card eid aid capacity quota used volatile) no_aid) []
