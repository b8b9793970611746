-- Document 01, 'Responses': "GET STATUS: for each place from the lowest, E3 holding 4F, 9F70 and 53 (..; 53 is 01 for the fall-back, else 00).
-- With 5C, 4F is always there and the others if listed. GET DATA: FF21 holding 81 (number of ISD-Ps, 1 byte), 82 (free, 4 bytes), 83
-- (volatile figure, 4 bytes)". They change nothing but the kept place, and an open change does not refuse them.
use Rattle.std.specs.Prelude.{ℕ, zero, suc, ◌+◌, ◌-◌, ◌≤◌, ◌<◌, ◌≡◌, List, [], ◌∷◌, ◌++◌, Bool, true, false, cond, length, eqb}
use Rattle.base_status.specs.declared.Status.{Status}
use Rattle.base_status.specs.declared.Status.TheVariants.{More, Done}
use Rattle.card_isdp.specs.Aids.{aid_of}
use Rattle.card_isdp.specs.Place.{held}
use Rattle.card_places.specs.Places.{count_of, quotas}
use Rattle.card_record.specs.Cards.{no_place, keeping}
use Rattle.card_record.specs.Sound.{sound}
use Rattle.card_record.specs.Ticks.{ticks_by_phase}
use Rattle.card_record.specs.Notifications.{silent}
use Rattle.card_record.specs.Answers.{Outcome, outcome}
use Rattle.card_record.specs.declared.Card.{Card}
use Rattle.base_bytes.specs.Bytes.{four_bytes}
use Rattle.rule_steps.specs.Asked.{Act.status, Asked.on, Asked.status_of_all, Asked.get_data}
use Rattle.rule_steps.specs.Steps.{asked_work}
use Rattle.rule_steps.specs.Laws.Answer.{profile_at, Holds, element, Still, Exactly, OnPlace}
use Rattle.rule_steps.specs.Laws.Words.{◌when◌, ◌unless◌, TakenOrRefused, IsHeld}

-- "53 is 01 for the fall-back, else 00"
abbrev pub attribute_at : Card → ℕ → ℕ
attribute_at c i = cond (eqb i c.fallback) 0x01 0x00

-- of the profile at place i: is 9F70 listed, is 53 listed
abbrev pub status_at : Card → Bool → Bool → ℕ → List ℕ
status_at c life attribute i =
    element 0xE3
    (element 0x4F (aid_of (profile_at c i))
    ++ (cond life (0x9F ∷ 0x70 ∷ 0x01 ∷ (profile_at c i).life ∷ []) []
    ++ cond attribute (0x53 ∷ 0x01 ∷ attribute_at c i ∷ []) []))

-- the rows of so many places, from this one on, the lowest first; a place that is not held says nothing
unfoldable pub status_from : Card → Bool → Bool → ℕ → ℕ → List ℕ
status_from c life attribute from zero = []
status_from c life attribute from (suc n) =
    status_from c life attribute from n ++ cond (held (profile_at c (from + n))) (status_at c life attribute (from + n)) []

-- what a part of a listing, begun at a place, leaves beside its word, its response and the kept place: nothing else is new
pub record Listed (c : Card) (word : Status) (kept : ℕ) (bytes : List ℕ) (o : Outcome) : Type 0 where
  pub status : o.status ≡ word
  pub card : o.card ≡ keeping c kept
  pub response : o.response ≡ bytes
  pub short : length bytes ≤ 255
  pub notification : o.notification ≡ silent
  pub ticks : o.ticks ≡ ticks_by_phase c

-- request 2026-05: "as many whole rows as fit 255 bytes with 63 10": the rows from here to the last, 90 00 and none kept; or those before a held
-- place whose row would not have fit, 63 10 and that place kept (decision B72)
pub data PartAnswers (c : Card) (life attribute : Bool) (from : ℕ) (o : Outcome) : Type 0 where
  to-the-last : Listed c Done no_place (status_from c life attribute from (length c.places - from)) o → PartAnswers c life attribute from o
  up_to : (n : ℕ) → from + n < length c.places → held (profile_at c (from + n)) ≡ true → 255 < length (status_from c life attribute from n) + length (status_at c life attribute (from + n)) → Listed c More (from + n) (status_from c life attribute from n) o → PartAnswers c life attribute from o

-- P2 02 begins anew, whatever is kept, and is never refused; P2 03 is accepted exactly where a place is kept, and goes on there: "with no listing open
-- 6A 88 in the target's place"
abbrev pub StatusOfAllAnswers : Card → Bool → Bool → Outcome → Type 0
StatusOfAllAnswers c life attribute = PartAnswers c life attribute 0

abbrev pub StatusOfNextAnswers : Card → Bool → Bool → Outcome → Type 0
StatusOfNextAnswers c life attribute =
    TakenOrRefused (0x6A88 when (c.kept ≡ no_place) ∷ [])
    (Exactly (c.kept ≡ no_place → ⊥) (PartAnswers c life attribute c.kept))

-- accepted exactly where the AID is held
abbrev pub StatusOfOneAnswers : Card → List ℕ → Bool → Bool → Outcome → Type 0
StatusOfOneAnswers c aid life attribute =
    TakenOrRefused (0x6A88 unless IsHeld c aid ∷ [])
    (OnPlace (Holds c aid) (λ t. Unit {0}) (λ t. Still c (status_at c life attribute t)))

-- never refused
abbrev pub GetDataAnswers : Card → Outcome → Type 0
GetDataAnswers c =
    Still c
    (0xFF ∷ 0x21 ∷ 0x0F
    ∷ 0x81 ∷ 1 ∷ count_of held c.places
    ∷ 0x82 ∷ 4 ∷ four_bytes (c.capacity - quotas c.places)
    ++ (0x83 ∷ 4 ∷ four_bytes c.volatile))

abbrev pub StatusOfAllLaw : Type 0
StatusOfAllLaw =
    (c : Card) (life attribute : Bool)
    → sound c ≡ true
    → StatusOfAllAnswers c life attribute (outcome c (asked_work c (status_of_all false life attribute)))

abbrev pub StatusOfNextLaw : Type 0
StatusOfNextLaw =
    (c : Card) (life attribute : Bool)
    → sound c ≡ true
    → StatusOfNextAnswers c life attribute (outcome c (asked_work c (status_of_all true life attribute)))

abbrev pub StatusOfOneLaw : Type 0
StatusOfOneLaw =
    (c : Card) (aid : List ℕ) (life attribute : Bool)
    → sound c ≡ true
    → StatusOfOneAnswers c aid life attribute (outcome c (asked_work c (on aid (status life attribute))))

abbrev pub GetDataLaw : Type 0
GetDataLaw = (c : Card) → sound c ≡ true → GetDataAnswers c (outcome c (asked_work c get_data))
