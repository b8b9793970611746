-- Document 01, 'The card', last paragraph, with 'Sizes' and requests 2026-02, 2026-04 and 2026-05: what a sound card is, clause by clause over its fields and
-- in the papers' numbers. The test of soundness says yes exactly where these hold.
use Rattle.std.specs.Prelude.{ℕ, ◌+◌, ◌≤◌, ◌<◌, ◌≡◌, List, [], ◌∷◌, ◌⊎◌, true, length, take}
use Rattle.card_isdp.specs.Clauses.{RightPlace}
use Rattle.card_isdp.specs.declared.Isdp.{Isdp}
use Rattle.card_places.specs.Places.{at}
use Rattle.card_record.specs.Sound.{sound}
use Rattle.card_record.specs.declared.Card.{Card}
use Rattle.card_record.specs.declared.Phase.{Phase}
use Rattle.card_record.specs.declared.Phase.TheVariants.{Quiet, Trial, Back, Fallen}

-- a place by its number; it is held where it has an AID, which is so many of its bytes
abbrev pub place_at : Card → ℕ → Isdp
place_at c i = at c.places i

abbrev pub HeldAt : Card → ℕ → Type 0
HeldAt c i = 1 ≤ (place_at c i).aid.len

abbrev pub aid_at : Card → ℕ → List ℕ
aid_at c i = take (place_at c i).aid.len (place_at c i).aid.bytes

unfoldable pub quotas_together : List Isdp → ℕ
quotas_together [] = 0
quotas_together (p ∷ rest) = p.quota + quotas_together rest

-- "ticks left 1 to 10 in an open phase", which "holds its one outstanding notification number, the last one issued"
pub record OpenClauses (left number last : ℕ) : Type 0 where
  pub ticks-least : 1 ≤ left
  pub ticks-most : left ≤ 10
  pub number-last : number ≡ last

-- "in Trial a previous profile that is held and DISABLED"
pub record TrialClauses (c : Card) (previous left number : ℕ) : Type 0 where
  pub waiting : OpenClauses left number c.last
  pub previous-held : HeldAt c previous
  pub previous-disabled : (place_at c previous).life ≡ 0x1F

-- "and in Fallen the fall-back ENABLED"
pub record FallenClauses (c : Card) (left number : ℕ) : Type 0 where
  pub waiting : OpenClauses left number c.last
  pub fall-back-enabled : (place_at c c.fallback).life ≡ 0x3F

abbrev pub PhaseClauses : Card → Phase → Type 0
PhaseClauses c Quiet = Unit {0}
PhaseClauses c (Trial previous left number) = TrialClauses c previous left number
PhaseClauses c (Back left number) = OpenClauses left number c.last
PhaseClauses c (Fallen left number) = FallenClauses c left number

pub record Clauses (c : Card) : Type 0 where
  -- "EID 16 bytes"; "1 to 8 ISD-Ps", request 2026-05: 32; numbers up to 65535; "Capacity 1 to 1,048,576 bytes"
  pub eid-size : length c.eid ≡ 16
  pub place-count : length c.places ≡ 32
  pub number-most : c.last ≤ 65535
  pub capacity-least : 1 ≤ c.capacity
  pub capacity-most : c.capacity ≤ 1048576
  -- each place held with its sizes and codings, or zero
  pub each-place : (i : ℕ) → i < 32 → RightPlace c.capacity (place_at c i)
  -- "distinct AIDs"
  pub aids-distinct : (i j : ℕ) → HeldAt c i → HeldAt c j → aid_at c i ≡ aid_at c j → i ≡ j
  -- "quotas together within capacity"; request 2026-04: free "equal to capacity less the quotas"
  pub quotas-and-free : c.free + quotas_together c.places ≡ c.capacity
  -- "one ENABLED"
  pub one-enabled : (e : ℕ) × ((place_at c e).life ≡ 0x3F)
  pub no_other : (i j : ℕ) → (place_at c i).life ≡ 0x3F → (place_at c j).life ≡ 0x3F → i ≡ j
  -- "one fall-back profile (itself DISABLED or ENABLED)"; request 2026-02: it has the mark
  pub fall-back-finished : ((place_at c c.fallback).life ≡ 0x1F) ⊎ ((place_at c c.fallback).life ≡ 0x3F)
  pub fall-back-marked : (place_at c c.fallback).mark ≡ 1
  -- request 2026-05: no place is kept (255), or "that kept place, a held one"
  pub kept-held : (c.kept ≡ 255) ⊎ HeldAt c c.kept
  pub phase-clauses : PhaseClauses c c.phase

pub record SoundClauses : Type 0 where
  pub asked : (c : Card) → sound c ≡ true → Clauses c
  pub enough : (c : Card) → Clauses c → sound c ≡ true
