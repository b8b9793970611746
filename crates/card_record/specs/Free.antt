-- Request 2026-04: "Keep free as a stored number in the card record. Create, both deletes and the deletion at confirmation keep it true, and a
-- sound card has it equal to capacity less the quotas." So does everything else that is done to a card.
use Rattle.std.specs.Prelude.{ℕ, ◌≤◌, ◌<◌, ◌≡◌, true, length}
use Rattle.card_isdp.specs.Place.{vacant}
use Rattle.card_isdp.specs.declared.Isdp.{Isdp}
use Rattle.card_places.specs.Places.{at, quotas, free_of}
use Rattle.card_record.specs.Cards.{free_in, card_with, filled, cleared, rewritten, with_fallback}
use Rattle.card_record.specs.Sound.{sound}
use Rattle.card_record.specs.Clock.{opened, tick_of, without_network, confirm_of}
use Rattle.card_record.specs.declared.Card.{Card}

-- the same card with another number for free; with the one that the quotas leave
abbrev pub with_free : Card → ℕ → Card
with_free c free = card_with c.eid c.capacity c.volatile free c.last c.fallback c.phase c.kept c.places

abbrev pub summed : Card → Card
summed c = with_free c (free_of c.capacity c.places)

-- the number kept is what the quotas leave of the capacity
pub record FreeTrue (c : Card) : Type 0 where
  pub as-summed : free_in c ≡ free_of c.capacity c.places
  pub within : quotas c.places ≤ c.capacity

abbrev pub KeepsFree : (Card → Card) → Type 0
KeepsFree write = (c : Card) → FreeTrue c → FreeTrue (write c)

pub record FreeKept : Type 0 where
  pub sound-card : (c : Card) → sound c ≡ true → FreeTrue c
  -- a profile whose quota is not over free is made in a place that is not held; one is deleted; one is rewritten with its quota
  pub creation : (i : ℕ) (p : Isdp) (c : Card) → i < length c.places → at c.places i ≡ vacant → p.quota ≤ free_in c → FreeTrue c → FreeTrue (filled c i p)
  pub deletion : (i : ℕ) → KeepsFree (λ c. cleared c i)
  pub rewriting : (i : ℕ) (p : Isdp) (c : Card) → p.quota ≡ (at c.places i).quota → FreeTrue c → FreeTrue (rewritten c i p)
  pub confirmation : KeepsFree confirm_of
  pub opening : (t : ℕ) → KeepsFree (λ c. opened c t)
  pub fall-back : (f : ℕ) → KeepsFree (λ c. with_fallback c f)
  pub tick : KeepsFree tick_of
  pub lost : KeepsFree without_network
