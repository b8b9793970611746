-- Document 01, 'The card': "A fresh card has one profile, ENABLED and fall-back, empty policy, Quiet, last number 0. Its inputs, all kept, are EID, AID, capacity,
-- quota, used bytes and a volatile memory figure". Request 2026-02: "the fresh profile has it", the mark. The sizes are the paper's numbers.
use Rattle.std.specs.Prelude.{ℕ, suc, ◌-◌, ◌≤◌, ◌≡◌, List, [], ◌++◌, length, replicate}
use Rattle.base_status.specs.StatusWords.{number_of}
use Rattle.card_isdp.specs.Clauses.{ZeroPlace}
use Rattle.card_isdp.specs.declared.Isdp.{Isdp}
use Rattle.card_record.specs.Notifications.{silent}
use Rattle.card_record.specs.Answers.{Outcome}
use Rattle.card_record.specs.Fresh.{fresh_outcome}
use Rattle.card_record.specs.declared.Phase.TheVariants.{Quiet}
use Rattle.rule_steps.specs.Laws.Answer.{profile_at, Exactly}

-- "EID 16 bytes", "AID 5 to 16 bytes", "Capacity 1 to 1,048,576 bytes", "Quota 1 byte up to capacity", and used not over quota
pub record MayBegin (eid aid : List ℕ) (capacity quota used : ℕ) : Type 0 where
  pub eid-size : length eid ≡ 16
  pub aid-least : 5 ≤ length aid
  pub aid-most : length aid ≤ 16
  pub capacity-least : 1 ≤ capacity
  pub capacity-most : capacity ≤ 1048576
  pub quota-least : 1 ≤ quota
  pub quota-most : quota ≤ capacity
  pub used-most : used ≤ quota

-- the one profile: its AID, with zeros after it to sixteen bytes, ENABLED, the quota and the used bytes, an empty policy, the mark
pub record Begun (aid : List ℕ) (quota used : ℕ) (p : Isdp) : Type 0 where
  pub aid-bytes : p.aid.bytes ≡ aid ++ replicate (16 - length aid) 0
  pub aid-length : p.aid.len ≡ length aid
  pub life-cycle : p.life ≡ 0x3F
  pub quota-given : p.quota ≡ quota
  pub used-given : p.used ≡ used
  pub policy-empty : p.policy ≡ 0
  pub mark_set : p.mark ≡ 1

-- 90 00 and the card field by field: the profile stands in the first of 32 places and is the fall-back, its quota is taken from free, and no place of a listing is kept
pub record Begins (eid aid : List ℕ) (capacity quota used volatile : ℕ) (o : Outcome) : Type 0 where
  pub status : number_of o.status ≡ 0x9000
  pub eid-kept : o.card.eid ≡ eid
  pub capacity-kept : o.card.capacity ≡ capacity
  pub volatile-kept : o.card.volatile ≡ volatile
  pub free : o.card.free ≡ capacity - quota
  pub last : o.card.last ≡ 0
  pub fallback : o.card.fallback ≡ 0
  pub phase : o.card.phase ≡ Quiet
  pub none_kept : o.card.kept ≡ 255
  pub place-count : length o.card.places ≡ 32
  pub profile-made : Begun aid quota used (profile_at o.card 0)
  pub others-zero : (i : ℕ) → ZeroPlace (profile_at o.card (suc i))
  pub response : o.response ≡ []
  pub notification : o.notification ≡ silent
  pub ticks : o.ticks ≡ 0

-- "6A 80 and a record of zeros in Quiet"; no place of a listing is kept
pub record Zeros (o : Outcome) : Type 0 where
  pub status : number_of o.status ≡ 0x6A80
  pub eid : o.card.eid ≡ replicate 16 0
  pub capacity : o.card.capacity ≡ 0
  pub volatile : o.card.volatile ≡ 0
  pub free : o.card.free ≡ 0
  pub last : o.card.last ≡ 0
  pub fallback : o.card.fallback ≡ 0
  pub phase : o.card.phase ≡ Quiet
  pub none_kept : o.card.kept ≡ 255
  pub place-count : length o.card.places ≡ 32
  pub all-zero : (i : ℕ) → ZeroPlace (profile_at o.card i)
  pub response : o.response ≡ []
  pub notification : o.notification ≡ silent
  pub ticks : o.ticks ≡ 0

pub record FreshAnswers (eid aid : List ℕ) (capacity quota used volatile : ℕ) (o : Outcome) : Type 0 where
  pub exactly : Exactly (MayBegin eid aid capacity quota used) (Begins eid aid capacity quota used volatile) o
  pub otherwise : (MayBegin eid aid capacity quota used → ⊥) → Zeros o

abbrev pub FreshLaw : Type 0
FreshLaw =
    (eid aid : List ℕ) (capacity quota used volatile : ℕ)
    → FreshAnswers eid aid capacity quota used volatile (fresh_outcome eid aid capacity quota used volatile)
