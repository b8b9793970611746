-- Document 01, 'The card': what is asked of a card, the whole record, and its writes by name. The write that opens a change is `opened`, in Clock.
use Rattle.std.specs.Prelude.{ℕ, ◌+◌, ◌-◌, min, List, Bool, true, false, not, ◌&&◌, ◌||◌, set, eqb}
use Rattle.card_isdp.specs.LifeCycle.{disabled, is_enabled, is_created}
use Rattle.card_isdp.specs.Place.{vacant, is_for}
use Rattle.card_isdp.specs.declared.Aid.{Aid}
use Rattle.card_isdp.specs.declared.Isdp.{Isdp}
use Rattle.card_places.specs.Places.{at, seek, is_free}
use Rattle.card_record.specs.declared.Card.{Card}
use Rattle.card_record.specs.declared.Phase.{Phase}
use Rattle.card_record.specs.declared.Phase.TheVariants.{Quiet, Trial, Back, Fallen}

-- no change is open
abbrev pub is_quiet : Phase → Bool
is_quiet Quiet = true
is_quiet (Trial previous left number) = false
is_quiet (Back left number) = false
is_quiet (Fallen left number) = false

-- the place that bears an AID, the profile there, the enabled place, the lowest free place; each the number of places where there is none
abbrev pub place_of : Card → List ℕ → ℕ
place_of c aid = seek (is_for aid) c.places

abbrev pub profile_of : Card → List ℕ → Isdp
profile_of c aid = at c.places (place_of c aid)

abbrev pub enabled_place : Card → ℕ
enabled_place c = seek is_enabled c.places

abbrev pub free_place : Card → ℕ
free_place c = seek is_free c.places

-- "the AID of the profile then enabled"
abbrev pub enabled_aid : Card → Aid
enabled_aid c = (at c.places (enabled_place c)).aid

-- request 2026-04: "Keep free as a stored number in the card record"; what it equals is asked by soundness (decision B66)
abbrev pub free_in : Card → ℕ
free_in c = c.free

-- the fall-back is enabled
abbrev pub on_fallback : Card → Bool
on_fallback c = is_enabled (at c.places c.fallback)

-- "Delete: target DISABLED and not fall-back"; request 2026-03: "now says yes for SELECTABLE and PERSONALIZED too" (decision B60)
abbrev pub may_be_deleted : Card → ℕ → Bool
may_be_deleted c i =
    (is_created (at c.places i).life || eqb (at c.places i).life disabled) && not (eqb i c.fallback)

-- "master delete stays with DISABLED only" (decision B61)
abbrev pub may_be_master_deleted : Card → ℕ → Bool
may_be_master_deleted c i = eqb (at c.places i).life disabled && not (eqb i c.fallback)

-- the whole record, spelled once: every other card is made of this (decision B35)
abbrev pub card_with : List ℕ → ℕ → ℕ → ℕ → ℕ → ℕ → Phase → ℕ → List Isdp → Card
card_with eid capacity volatile free last fallback phase kept places =
    record {
      capacity = capacity;
      volatile = volatile;
      free = free;
      places = places;
      phase = phase;
      last = last;
      fallback = fallback;
      kept = kept;
      eid = eid;
    }

-- request 2026-05: "The card keeps the place of the first row not yet given": it stands for none, and is no place's number (decision B71)
abbrev pub no_place : ℕ
no_place = 255

-- the same record with another phase, kept place and places, of which it forgets none
abbrev pub recast : Card → Phase → ℕ → List Isdp → Card
recast c phase kept places = card_with c.eid c.capacity c.volatile c.free c.last c.fallback phase kept places

-- a part of a listing was given: the card keeps this place, and nothing else is new
abbrev pub keeping : Card → ℕ → Card
keeping c place = recast c c.phase place c.places

-- with other places, or in another phase, as two cards are held against each other
abbrev pub over : Card → List Isdp → Card
over c l = recast c c.phase c.kept l

abbrev pub in_phase : Card → Phase → Card
in_phase c p = recast c p c.kept c.places

-- "any accepted command other than P2 03, any inner call that is accepted, any tick, any lost report .. forget it":
-- what changes nothing forgets (decision B75)
abbrev pub forgotten : Card → Card
forgotten c = keeping c no_place

-- the same card in another state: its free memory, last number, fall-back, phase and places. Every write is made of this,
-- and so forgets too (decision B75)
abbrev pub in_state : Card → ℕ → ℕ → ℕ → Phase → List Isdp → Card
in_state c free last fallback phase places =
    card_with c.eid c.capacity c.volatile free last fallback phase no_place places

-- with another last number, phase and places; the two below change one of them
abbrev pub with_change : Card → ℕ → Phase → List Isdp → Card
with_change c n p l = in_state c c.free n c.fallback p l

abbrev pub with_places : Card → List Isdp → Card
with_places c l = with_change c c.last c.phase l

abbrev pub with_phase : Card → Phase → Card
with_phase c p = with_change c c.last p c.places

-- with other places, and so much free
abbrev pub with_room : Card → ℕ → List Isdp → Card
with_room c free l = in_state c free c.last c.fallback c.phase l

-- the writes: a free place filled with a new profile, whose quota is taken from free (decisions B66, B67)
abbrev pub filled : Card → ℕ → Isdp → Card
filled c i p = with_room c (free_in c - p.quota) (set c.places i p)

-- free with a quota given back; on no sound card would it pass the capacity (decision B67)
abbrev pub given_back : ℕ → ℕ → ℕ → ℕ
given_back capacity free quota = min (free + quota) capacity

-- a place cleared and its quota given back: the deletion of delete, of master delete and of a confirmation (decisions 49, B37, B66)
abbrev pub cleared : Card → ℕ → Card
cleared c i = with_room c (given_back c.capacity (free_in c) (at c.places i).quota) (set c.places i vacant)

-- a profile rewritten where it stands, with its AID and its quota
abbrev pub rewritten : Card → ℕ → Isdp → Card
rewritten c i p = with_places c (set c.places i p)

-- another fall-back
abbrev pub with_fallback : Card → ℕ → Card
with_fallback c f = in_state c c.free c.last f c.phase c.places
