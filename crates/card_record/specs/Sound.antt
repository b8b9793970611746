-- Document 01, 'The card': "A sound card keeps the sizes, codings and rules above, ..", clause by clause.
use Rattle.std.specs.Prelude.{ℕ, ◌+◌, ◌≡◌, Bool, true, ◌&&◌, ◌||◌, length, leb, eqb}
use Rattle.card_isdp.specs.Sizes.{most_places, eid_size, most_capacity, wait, last_number}
use Rattle.card_isdp.specs.LifeCycle.{disabled, enabled, is_enabled}
use Rattle.card_isdp.specs.Provisioning.{may_be_fall_back}
use Rattle.card_isdp.specs.Place.{held, place_ok}
use Rattle.card_places.specs.Places.{at, quotas, all_of, count_of, distinct}
use Rattle.card_record.specs.Cards.{no_place, free_in}
use Rattle.card_record.specs.declared.Card.{Card}
use Rattle.card_record.specs.declared.Phase.{Phase}
use Rattle.card_record.specs.declared.Phase.TheVariants.{Quiet, Trial, Back, Fallen}

-- the sizes that every record of the code has by its types: EID 16 bytes, as many places, a number of two bytes (decision B4)
abbrev pub sized : Card → Bool
sized c = eqb (length c.eid) eid_size && (eqb (length c.places) most_places && leb c.last last_number)

-- sizes: those, and the capacity
abbrev pub sizes_ok : Card → Bool
sizes_ok c = sized c && (leb 1 c.capacity && leb c.capacity most_capacity)

-- "quotas together within capacity"; request 2026-04: free "equal to capacity less the quotas". One equation says both:
-- they make up the capacity (decision B65)
abbrev pub free_ok : Card → Bool
free_ok c = eqb (free_in c + quotas c.places) c.capacity

-- places: each as its life cycle asks, no AID twice, the quotas and free the capacity
abbrev pub places_ok : Card → Bool
places_ok c =
    all_of (place_ok c.capacity) c.places
    && (distinct c.places && free_ok c)

-- request 2026-05: "that kept place, a held one" (decision B71)
abbrev pub kept_ok : Card → Bool
kept_ok c = eqb c.kept no_place || held (at c.places c.kept)

-- roles: one profile ENABLED, the fall-back DISABLED or ENABLED; request 2026-02: "a sound card's fall-back has it", the mark. And the place
-- from which a listing goes on (decisions B56, B71)
abbrev pub roles_ok : Card → Bool
roles_ok c =
    eqb (count_of is_enabled c.places) 1 && (may_be_fall_back (at c.places c.fallback) && kept_ok c)

-- "ticks left 1 to 10 in an open phase", which "holds its one outstanding notification number, the last one issued" (decision 55)
abbrev pub open_ok : ℕ → ℕ → ℕ → Bool
open_ok left number last = leb 1 left && (leb left wait && eqb number last)

-- "in Trial a previous profile that is held and DISABLED, and in Fallen the fall-back ENABLED"
abbrev pub phase_in : Phase → Card → Bool
phase_in Quiet c = true
phase_in (Trial previous left number) c =
    open_ok left number c.last && eqb (at c.places previous).life disabled
phase_in (Back left number) c = open_ok left number c.last
phase_in (Fallen left number) c =
    open_ok left number c.last && eqb (at c.places c.fallback).life enabled

unfoldable pub phase_ok : Card → Bool
phase_ok c = phase_in c.phase c

-- four groups; a new clause goes into one of them (decisions 54, 56)
unfoldable pub sound : Card → Bool
sound c = sizes_ok c && (places_ok c && (roles_ok c && phase_ok c))

-- "that kept place, a held one"
abbrev pub KeptHeld : Type 0
KeptHeld = (c : Card) → sound c ≡ true → (c.kept ≡ no_place → ⊥) → held (at c.places c.kept) ≡ true

-- "a sound card's fall-back has it"
abbrev pub FallBackMarked : Type 0
FallBackMarked = (c : Card) → sound c ≡ true → (at c.places c.fallback).mark ≡ 1
