-- The parts of a sound card by name, in the four groups of the definition, and that tick and lost keep them. Two builders do every
-- step: only the phase is new (`rephased`), or a place that has a life cycle is enabled and a phase opens (`moves`). Assumes nothing.
use mathlib.Core.Path.{◌≡◌, refl, sym, ◌∙◌}
use Prim.Native.Nat.{ℕ, suc, ◌+◌, ◌-◌, ◌≤◌}
use native.Mathlib.Omega.{arith}
use mathlib.Core.Bool.{Bool, true, false, ◌||◌, false≢true}
use mathlib.Core.List.{List}
use lib.ListN.{length}
use lib.Dec.{ltb, leb, eqb}
use borrow.Author.Tests.{eq-eqb, ne_eqb, eqb-true, le-leb, leb-true, ltb-true}
use Rattle.std.proofs.lemmas.Bool.{and_from, cond_both}
use Rattle.card_isdp.specs.Sizes.{most_places, eid_size, most_capacity, wait, last_number}
use Rattle.card_isdp.specs.LifeCycle.{disabled, enabled, is_enabled, is_finished}
use Rattle.card_isdp.specs.Provisioning.{may_be_fall_back}
use Rattle.card_isdp.specs.Place.{place_ok}
use Rattle.card_isdp.specs.declared.Isdp.{Isdp}
use Rattle.card_isdp.proofs.Bools.{and_l, and_r}
use Rattle.card_places.specs.Places.{at, quotas, all_of, count_of, distinct, enable_at}
use Rattle.card_places.proofs.Lives.{enable-lives, lives-length, lives-quotas, lives-distinct, enable-one, enable-at, enable-ok, enable-resort, within}
use Rattle.card_record.specs.Cards.{is_quiet, free_in, on_fallback, no_place, keeping, forgotten, in_state, with_phase}
use Rattle.card_record.specs.Sound.{sized, sizes_ok, places_ok, kept_ok, roles_ok, open_ok, phase_in, phase_ok, sound, KeptHeld, FallBackMarked}
use Rattle.card_record.specs.Clock.{next_number, switched, tick_in, tick_of, without_network}
use Rattle.card_record.proofs.Numbers.{next_small}
use Rattle.card_record.specs.declared.Card.{Card}
use Rattle.card_record.specs.declared.Phase.{Phase}
use Rattle.card_record.specs.declared.Phase.TheVariants.{Quiet, Trial, Back, Fallen}

-- an open phase's test, by name
pub record Open (left number last : ℕ) : Type 0 where
  pub low : 1 ≤ left
  pub high : left ≤ wait
  pub issued : number ≡ last

-- the test of a phase, by name
abbrev pub Phased : Phase → Card → Type 0
Phased Quiet c = Unit {0}
Phased (Trial previous left number) c = Open left number c.last × ((at c.places previous).life ≡ disabled)
Phased (Back left number) c = Open left number c.last
Phased (Fallen left number) c = Open left number c.last × ((at c.places c.fallback).life ≡ enabled)

-- the parts of a sound card, by name: its sizes, its places, who is enabled and who the fall-back, its phase
pub record Sizes (c : Card) : Type 0 where
  pub named : length c.eid ≡ eid_size
  pub full : length c.places ≡ most_places
  pub numbered : c.last ≤ last_number
  pub some : 1 ≤ c.capacity
  pub most : c.capacity ≤ most_capacity

pub record Places (c : Card) : Type 0 where
  pub each : all_of (place_ok c.capacity) c.places ≡ true
  pub apart : distinct c.places ≡ true
  pub room : free_in c + quotas c.places ≡ c.capacity

pub record Roles (c : Card) : Type 0 where
  pub one : count_of is_enabled c.places ≡ 1
  pub resort : may_be_fall_back (at c.places c.fallback) ≡ true
  pub listing : kept_ok c ≡ true

pub record Sound (c : Card) : Type 0 where
  pub sizes : Sizes c
  pub placed : Places c
  pub roles : Roles c
  pub phased : Phased c.phase c

open-parts : (l n m : ℕ) → open_ok l n m ≡ true → Open l n m
open-parts l n m e =
    let h = and_r (leb 1 l) _ e in
    record {
      low = leb-true 1 l (and_l _ _ e);
      high = leb-true l wait (and_l _ _ h);
      issued = eqb-true n m (and_r (leb l wait) _ h);
    }

open-whole : (l n m : ℕ) → Open l n m → open_ok l n m ≡ true
open-whole l n m o = rw (le-leb 1 l o.low, le-leb l wait o.high, eq-eqb n m o.issued)

phase-parts : (p : Phase) (c : Card) → phase_in p c ≡ true → Phased p c
phase-parts Quiet c e = tt
phase-parts (Trial q l n) c e = (open-parts l n c.last (and_l (open_ok l n c.last) _ e), eqb-true (at c.places q).life disabled (and_r (open_ok l n c.last) _ e))
phase-parts (Back l n) c e = open-parts l n c.last e
phase-parts (Fallen l n) c e = (open-parts l n c.last (and_l (open_ok l n c.last) _ e), eqb-true (at c.places c.fallback).life enabled (and_r (open_ok l n c.last) _ e))

phase-whole : (p : Phase) (c : Card) → Phased p c → phase_in p c ≡ true
phase-whole Quiet c e = refl
phase-whole (Trial q l n) c e = rw (open-whole l n c.last e.0, e.1)
phase-whole (Back l n) c e = open-whole l n c.last e
phase-whole (Fallen l n) c e = rw (open-whole l n c.last e.0, e.1)

sizes-parts : (c : Card) → sizes_ok c ≡ true → Sizes c
sizes-parts c w =
    let z = and_l (sized c) _ w in
    let y = and_r (eqb (length c.eid) eid_size) _ z in
    let e = and_r (sized c) _ w in
    record {
      named = eqb-true (length c.eid) eid_size (and_l _ _ z);
      full = eqb-true (length c.places) most_places (and_l _ _ y);
      numbered = leb-true c.last last_number (and_r (eqb (length c.places) most_places) _ y);
      some = leb-true 1 c.capacity (and_l _ _ e);
      most = leb-true c.capacity most_capacity (and_r (leb 1 c.capacity) _ e);
    }

places-parts : (c : Card) → places_ok c ≡ true → Places c
places-parts c w =
    let e = and_r (all_of (place_ok c.capacity) c.places) _ w in
    record { each = and_l _ _ w; apart = and_l _ _ e; room = eqb-true (free_in c + quotas c.places) c.capacity (and_r (distinct c.places) _ e) }

roles-parts : (c : Card) → roles_ok c ≡ true → Roles c
roles-parts c w =
    let h = and_r (eqb (count_of is_enabled c.places) 1) _ w in
    record { one = eqb-true (count_of is_enabled c.places) 1 (and_l _ _ w); resort = and_l _ _ h; listing = and_r (may_be_fall_back (at c.places c.fallback)) _ h }

pub parts : (c : Card) → sound c ≡ true → Sound c
unfolding sound phase_ok
parts c w =
    let e = and_r (sizes_ok c) _ w in
    let h = and_r (places_ok c) _ e in
    record {
      sizes = sizes-parts c (and_l (sizes_ok c) _ w);
      placed = places-parts c (and_l (places_ok c) _ e);
      roles = roles-parts c (and_l (roles_ok c) _ h);
      phased = phase-parts c.phase c (and_r (roles_ok c) _ h);
    }

sizes-whole : (c : Card) → Sizes c → sizes_ok c ≡ true
sizes-whole c s = rw (s.named, s.full, le-leb c.last last_number s.numbered, le-leb 1 c.capacity s.some, le-leb c.capacity most_capacity s.most)

places-whole : (c : Card) → Places c → places_ok c ≡ true
places-whole c s = rw (s.each, s.apart, eq-eqb (free_in c + quotas c.places) c.capacity s.room)

roles-whole : (c : Card) → Roles c → roles_ok c ≡ true
roles-whole c s = rw (eq-eqb _ _ s.one, s.resort) s.listing

pub whole : (c : Card) → Sound c → sound c ≡ true
unfolding sound phase_ok
whole c s = and_from _ _ (sizes-whole c s.sizes) (and_from _ _ (places-whole c s.placed) (and_from _ _ (roles-whole c s.roles) (phase-whole c.phase c s.phased)))

-- as many places and a number of two bytes: the sizes are kept
pub resized : (c : Card) (r n : ℕ) (p : Phase) (l : List Isdp) → Sizes c → n ≤ last_number → length l ≡ length c.places → Sizes (in_state c r n c.fallback p l)
resized c r n p l s h e = record { named = s.named; full = e ∙ s.full; numbered = h; some = s.some; most = s.most }

-- only the phase is new
pub rephased : (c : Card) (p : Phase) → Sound c → Phased p (with_phase c p) → Sound (with_phase c p)
rephased c p s h =
    let z = s.placed in
    let r = s.roles in
    record {
      sizes = resized c c.free c.last p c.places s.sizes s.sizes.numbered refl;
      placed = record { each = z.each; apart = z.apart; room = z.room };
      roles = record { one = r.one; resort = r.resort; listing = refl };
      phased = h;
    }

-- a phase asks nothing of the kept place
phase-unkept : (c : Card) (i : ℕ) (p : Phase) → Phased p c → Phased p (keeping c i)
phase-unkept c i Quiet h = h
phase-unkept c i (Trial q l n) h = h
phase-unkept c i (Back l n) h = h
phase-unkept c i (Fallen l n) h = h

-- only the kept place is new
pub keeps-place : (c : Card) (i : ℕ) → Sound c → kept_ok (keeping c i) ≡ true → Sound (keeping c i)
keeps-place c i s h =
    let z = s.placed in
    let r = s.roles in
    record {
      sizes = record { named = s.sizes.named; full = s.sizes.full; numbered = s.sizes.numbered; some = s.sizes.some; most = s.sizes.most };
      placed = record { each = z.each; apart = z.apart; room = z.room };
      roles = record { one = r.one; resort = r.resort; listing = h };
      phased = phase-unkept c i c.phase s.phased;
    }

pub forgets : (c : Card) → Sound c → Sound (forgotten c)
forgets c s = keeps-place c no_place s refl

-- a place that has a life cycle is enabled, and a phase opens that asks nothing more than that
pub moves : (c : Card) (i : ℕ) (p : Phase) → Sound c → ((at c.places i).life ≡ 0 → ⊥) → Phased p (switched c i p) → Sound (switched c i p)
moves c i p s n h =
    let k = within c.places i n in
    let r = enable-lives c.places i in
    let z = s.placed in
    record {
      sizes = resized c c.free (next_number c.last) p (enable_at c.places i) s.sizes (next_small c.last s.sizes.numbered) (lives-length r);
      placed = record { each = enable-ok c.capacity c.places i (ne_eqb _ _ n) z.each; apart = lives-distinct r ∙ z.apart; room = rw (lives-quotas r) z.room };
      roles = record { one = enable-one c.places i k; resort = enable-resort c.places i c.fallback k s.roles.resort; listing = refl };
      phased = h;
    }

fresh : (n : ℕ) → Open wait n n
fresh n = record { low = omega arith; high = omega arith; issued = refl }

less : (l n m : ℕ) → ltb 1 l ≡ true → Open l n m → Open (l - 1) n m
less l n m h o = let k = ltb-true 1 l h in record { low = omega arith; high = let u = o.high in omega arith; issued = o.issued }

pub nonzero : (v w : ℕ) → v ≡ suc w → v ≡ 0 → ⊥
nonzero v w e z = omega arith

done-nonzero : (v : ℕ) → is_finished v ≡ true → v ≡ 0 → ⊥
done-nonzero v d z = false≢true (rw z at d)

-- the fall-back is DISABLED or ENABLED and has the mark; so it has a life cycle
pub resort-done : (c : Card) → Sound c → is_finished (at c.places c.fallback).life ≡ true
resort-done c s = and_l _ _ s.roles.resort

held-there : (a b : Bool) → (a || b) ≡ true → a ≡ false → b ≡ true
held-there true b e n = absurd (false≢true (sym n))
held-there false b e n = e

pub kept-held : KeptHeld
kept-held c e n = held-there (eqb c.kept no_place) _ (parts c e).roles.listing (ne_eqb c.kept no_place n)

pub fall-back-marked : FallBackMarked
fall-back-marked c e = eqb-true _ _ (and_r (is_finished (at c.places c.fallback).life) _ (parts c e).roles.resort)

pub resort-nonzero : (c : Card) → Sound c → (at c.places c.fallback).life ≡ 0 → ⊥
resort-nonzero c s = done-nonzero (at c.places c.fallback).life (resort-done c s)

-- the fall-back is enabled
pub falls : (c : Card) → Sound c → Sound (switched c c.fallback (Fallen wait (next_number c.last)))
falls c s =
    let n = resort-nonzero c s in
    moves c c.fallback (Fallen wait (next_number c.last)) s n
    (fresh (next_number c.last), enable-at c.places c.fallback (within c.places c.fallback n))

tick-case : (c : Card) (p : Phase) → Sound c → Phased p c → Sound (tick_in p c)
tick-case c Quiet s h = forgets c s
tick-case c (Trial q l n) s h =
    cond_both (ltb 1 l) _ _ Sound (λ b. rephased c (Trial q (l - 1) n) s (less l n c.last b h.0, h.1))
    (λ b. moves c q (Back wait (next_number c.last)) s (nonzero _ 30 h.1) (fresh (next_number c.last)))
tick-case c (Back l n) s h =
    cond_both (ltb 1 l) _ _ Sound (λ b. rephased c (Back (l - 1) n) s (less l n c.last b h))
    (λ b. cond_both (on_fallback c) _ _ Sound (λ e. rephased c Quiet s tt) (λ e. falls c s))
tick-case c (Fallen l n) s h =
    cond_both (ltb 1 l) _ _ Sound (λ b. rephased c (Fallen (l - 1) n) s (less l n c.last b h.0, h.1))
    (λ b. rephased c Quiet s tt)

pub tick-sound : (c : Card) → sound c ≡ true → sound (tick_of c) ≡ true
unfolding tick_of
tick-sound c e = whole (tick_in c.phase c) (tick-case c c.phase (parts c e) (parts c e).phased)

pub lost-sound : (c : Card) → sound c ≡ true → sound (without_network c) ≡ true
unfolding without_network
lost-sound c e =
    let s = parts c e in
    whole _ (cond_both (is_quiet c.phase) _ _ Sound (λ q. cond_both (on_fallback c) _ _ Sound (λ v. forgets c s) (λ v. falls c s)) (λ q. forgets c s))
