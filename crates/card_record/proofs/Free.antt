-- The number kept for free stays what the quotas leave of the capacity. What makes, deletes or rewrites a place moves the sum of the quotas by
-- as much as it moves the number, or neither; every other write moves neither. Assumes nothing.
use mathlib.Core.Path.{◌≡◌, ap}
use Prim.Native.Nat.{ℕ, ◌+◌, ◌≤◌, ◌<◌}
use native.Mathlib.Omega.{arith}
use lib.ListN.{length}
use mathlib.Core.Bool.{true}
use lib.Dec.{ltb}
use Rattle.std.proofs.lemmas.Bool.{cond_both}
use Rattle.card_isdp.specs.Place.{vacant}
use Rattle.card_isdp.specs.declared.Isdp.{Isdp}
use Rattle.card_places.specs.Places.{at, quotas, enable_at}
use Rattle.card_places.proofs.Lives.{enable-lives, lives-quotas}
use Rattle.card_places.proofs.Sets.{set-quotas, clear-quotas, alike-quotas}
use Rattle.card_record.specs.Cards.{is_quiet, free_in, on_fallback, with_phase, given_back, filled, cleared, rewritten}
use Rattle.card_record.specs.Sound.{sound}
use Rattle.card_record.specs.Clock.{dropped, tick_in, tick_of, without_network, confirm_in, confirm_of}
use Rattle.card_record.specs.Free.{FreeTrue, FreeKept}
use Rattle.card_record.specs.declared.Card.{Card}
use Rattle.card_record.specs.declared.Phase.{Phase}
use Rattle.card_record.specs.declared.Phase.TheVariants.{Quiet, Trial, Back, Fallen}
use Rattle.card_record.proofs.Sounds.{parts}

-- free and the quotas make up the capacity: the equation of soundness
abbrev pub Even : Card → Type 0
Even c = free_in c + quotas c.places ≡ c.capacity

pub even : (c : Card) → FreeTrue c → Even c
even c t = let s = t.as-summed in let w = t.within in omega arith

pub true-free : (c : Card) → Even c → FreeTrue c
true-free c e = record { as-summed = omega arith; within = omega arith }

pub sound-card : (c : Card) → sound c ≡ true → FreeTrue c
sound-card c s = true-free c (parts c s).placed.room

-- so it is told by the capacity and the places
pub same-free : (c d : Card) → Even c → Even d → d.capacity ≡ c.capacity → d.places ≡ c.places → d.free ≡ c.free
same-free c d e f k l = let q = ap quotas l in omega arith

pub creation : (i : ℕ) (p : Isdp) (c : Card) → i < length c.places → at c.places i ≡ vacant → p.quota ≤ free_in c → Even c → Even (filled c i p)
creation i p c h v q e =
    let z : (at c.places i).quota ≡ 0 = ap (λ (x : Isdp). x.quota) v in
    let r = set-quotas p c.places i h in
    omega arith

-- what is given back fits under the capacity
pub given_back_lem : (i : ℕ) (c : Card) → Even c → given_back c.capacity (free_in c) (at c.places i).quota ≡ free_in c + (at c.places i).quota
given_back_lem i c e = let r = clear-quotas c.places i in omega arith

pub deletion : (i : ℕ) (c : Card) → Even c → Even (cleared c i)
deletion i c e = let r = clear-quotas c.places i in omega arith

pub rewriting : (i : ℕ) (p : Isdp) (c : Card) → p.quota ≡ (at c.places i).quota → Even c → Even (rewritten c i p)
rewriting i p c q e = rw (alike-quotas p c.places i q) e

-- another place is enabled, whatever phase opens
moving : (i : ℕ) (c : Card) → Even c → free_in c + quotas (enable_at c.places i) ≡ c.capacity
moving i c e = rw (lives-quotas (enable-lives c.places i)) e

confirm-case : (c : Card) (p : Phase) → Even c → Even (confirm_in p c)
confirm-case c Quiet e = e
confirm-case c (Trial q l n) e = cond_both (dropped c q) _ _ Even (λ b. deletion q (with_phase c Quiet) e) (λ b. e)
confirm-case c (Back l n) e = e
confirm-case c (Fallen l n) e = e

confirmation : (c : Card) → Even c → Even (confirm_of c)
unfolding confirm_of
confirmation c e = confirm-case c c.phase e

tick-case : (c : Card) (p : Phase) → Even c → Even (tick_in p c)
tick-case c Quiet e = e
tick-case c (Trial q l n) e = cond_both (ltb 1 l) _ _ Even (λ b. e) (λ b. moving q c e)
tick-case c (Back l n) e =
    cond_both (ltb 1 l) _ _ Even (λ b. e) (λ b. cond_both (on_fallback c) _ _ Even (λ f. e) (λ f. moving c.fallback c e))
tick-case c (Fallen l n) e = cond_both (ltb 1 l) _ _ Even (λ b. e) (λ b. e)

tick : (c : Card) → Even c → Even (tick_of c)
unfolding tick_of
tick c e = tick-case c c.phase e

lost : (c : Card) → Even c → Even (without_network c)
unfolding without_network
lost c e = cond_both (is_quiet c.phase) _ _ Even (λ q. cond_both (on_fallback c) _ _ Even (λ f. e) (λ f. moving c.fallback c e)) (λ q. e)

pub free-kept : FreeKept
free-kept =
    record {
      sound-card = sound-card;
      creation = λ i p c h v q t. true-free _ (creation i p c h v q (even c t));
      deletion = λ i c t. true-free _ (deletion i c (even c t));
      rewriting = λ i p c q t. true-free _ (rewriting i p c q (even c t));
      confirmation = λ c t. true-free _ (confirmation c (even c t));
      opening = λ i c t. true-free _ (moving i c (even c t));
      fall-back = λ f c t. true-free _ (even c t);
      tick = λ c t. true-free _ (tick c (even c t));
      lost = λ c t. true-free _ (lost c (even c t));
    }
