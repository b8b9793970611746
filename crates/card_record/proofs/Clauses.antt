-- Soundness and its clauses in numbers, both ways: by the parts of a sound card, group by group; what is tested of all places is said of each by its number.
use mathlib.Core.Path.{◌≡◌, refl}
use Prim.Native.Nat.{ℕ, suc, ◌≤◌, ◌<◌}
use native.Mathlib.Omega.{arith}
use mathlib.Core.List.{List, [], ◌∷◌}
use mathlib.Core.Logic.{◌⊎◌, inl, inr}
use mathlib.Core.Bool.{Bool, true, false, not, ◌||◌, false≢true, or-true}
use lib.ListN.{length}
use lib.Dec.{eqb}
use borrow.Author.Tests.{eq-eqb, ne_eqb, eqb-true, eqb-false, not-true}
use Rattle.std.proofs.lemmas.Bool.{and_from}
use Rattle.card_isdp.specs.LifeCycle.{is_enabled, is_finished}
use Rattle.card_isdp.specs.Place.{held, place_ok}
use Rattle.card_isdp.specs.declared.Isdp.{Isdp}
use Rattle.card_isdp.specs.Clauses.{RightPlace}
use Rattle.card_isdp.proofs.Bools.{and_l, and_r}
use Rattle.card_isdp.proofs.Clauses.{place-clauses}
use Rattle.card_places.specs.Places.{quotas}
use Rattle.card_places.proofs.Sets.{all-at}
use Rattle.card_places.proofs.Seeks.{enabled-at}
use Rattle.card_places.proofs.Lives.{within}
use Rattle.card_places.proofs.Numbered.{all-by, count-one, only, distinct-at, distinct-by}
use Rattle.card_record.specs.Cards.{enabled_place}
use Rattle.card_record.specs.Sound.{kept_ok}
use Rattle.card_record.specs.Clauses.{place_at, HeldAt, quotas_together, OpenClauses, PhaseClauses, Clauses, SoundClauses}
use Rattle.card_record.specs.declared.Card.{Card}
use Rattle.card_record.specs.declared.Phase.{Phase}
use Rattle.card_record.specs.declared.Phase.TheVariants.{Quiet, Trial, Back, Fallen}
use Rattle.card_record.proofs.Sounds.{Open, Phased, Sound, parts, whole, nonzero}

-- ---- by name and in numbers: a place held, the quotas, the life cycles, the kept place, an open phase

has-aid : (n : ℕ) → not (eqb n 0) ≡ true → 1 ≤ n
has-aid n e = let h : n ≡ 0 → ⊥ = eqb-false n 0 (not-true _ e) in omega arith

aid-had : (n : ℕ) → 1 ≤ n → not (eqb n 0) ≡ true
aid-had n h = rw (ne_eqb n 0 (λ z. omega arith)) refl

together : (l : List Isdp) → quotas l ≡ quotas_together l
unfolding quotas quotas_together
together [] = refl
together (p ∷ rest) = rw (together rest) refl

finished-of : (v : ℕ) (a b : Bool) → eqb v 0x1F ≡ a → eqb v 0x3F ≡ b → (a || b) ≡ true → (v ≡ 0x1F) ⊎ (v ≡ 0x3F)
finished-of v true b p q e = inl (eqb-true v 0x1F p)
finished-of v false true p q e = inr (eqb-true v 0x3F q)
finished-of v false false p q e = absurd (false≢true e)

of-finished : (v : ℕ) → (v ≡ 0x1F) ⊎ (v ≡ 0x3F) → is_finished v ≡ true
of-finished v (inl e) = rw e refl
of-finished v (inr e) = rw e refl

kept_of : (c : Card) (b : Bool) → eqb c.kept 255 ≡ b → (b || held (place_at c c.kept)) ≡ true → (c.kept ≡ 255) ⊎ HeldAt c c.kept
kept_of c true p e = inl (eqb-true c.kept 255 p)
kept_of c false p e = inr (has-aid _ e)

of-kept : (c : Card) → (c.kept ≡ 255) ⊎ HeldAt c c.kept → kept_ok c ≡ true
of-kept c (inl e) = rw (eq-eqb c.kept 255 e) refl
of-kept c (inr h) = rw (aid-had _ h) (or-true (eqb c.kept 255))

open_of : (l n m : ℕ) → Open l n m → OpenClauses l n m
open_of l n m o = record { ticks-least = o.low; ticks-most = o.high; number-last = o.issued }

of-open : (l n m : ℕ) → OpenClauses l n m → Open l n m
of-open l n m o = record { low = o.ticks-least; high = o.ticks-most; issued = o.number-last }

-- ---- asked

-- a place with a life cycle is held: it is not zero
lived-held : (k : ℕ) (p : Isdp) (v : ℕ) → p.life ≡ suc v → RightPlace k p → 1 ≤ p.aid.len
lived-held k p v e (inl h) = let five = h.aid-least in omega arith
lived-held k p v e (inr z) = let none = z.life-zero in absurd (omega arith)

module _ (c : Card) (s : Sound c) where
  right : (i : ℕ) → i < length c.places → RightPlace c.capacity (place_at c i)
  right i h = place-clauses.asked c.capacity (place_at c i) (all-at (place_ok c.capacity) c.places i h s.placed.each)

  phase-asked : (p : Phase) → Phased p c → PhaseClauses c p
  phase-asked Quiet h = tt
  phase-asked (Trial q l n) h =
      record {
        waiting = open_of l n c.last h.0;
        previous-held = lived-held c.capacity (place_at c q) 30 h.1 (right q (within c.places q (nonzero _ 30 h.1)));
        previous-disabled = h.1;
      }
  phase-asked (Back l n) h = open_of l n c.last h
  phase-asked (Fallen l n) h = record { waiting = open_of l n c.last h.0; fall-back-enabled = h.1 }

  clauses : Clauses c
  clauses =
      let life = (place_at c c.fallback).life in
      let count = s.sizes.full in
      record {
        eid-size = s.sizes.named;
        place-count = s.sizes.full;
        number-most = s.sizes.numbered;
        capacity-least = s.sizes.some;
        capacity-most = s.sizes.most;
        each-place = λ i h. right i (omega arith);
        aids-distinct = λ i j h k e. distinct-at c.places s.placed.apart i j (aid-had _ h) (aid-had _ k) e;
        quotas-and-free = rw (← together c.places) s.placed.room;
        one-enabled = (enabled_place c, eqb-true _ 0x3F (enabled-at c.places s.roles.one));
        no_other = λ i j e f. only c.places i j s.roles.one (eq-eqb _ 0x3F e) (eq-eqb _ 0x3F f);
        fall-back-finished = finished-of life _ _ refl refl (and_l (is_finished life) _ s.roles.resort);
        fall-back-marked = eqb-true _ 1 (and_r (is_finished life) _ s.roles.resort);
        kept-held = kept_of c _ refl s.roles.listing;
        phase-clauses = phase-asked c.phase s.phased;
      }

-- ---- enough

module _ (c : Card) (s : Clauses c) where
  phase-enough : (p : Phase) → PhaseClauses c p → Phased p c
  phase-enough Quiet h = tt
  phase-enough (Trial q l n) h = (of-open l n c.last h.waiting, h.previous-disabled)
  phase-enough (Back l n) h = of-open l n c.last h
  phase-enough (Fallen l n) h = (of-open l n c.last h.waiting, h.fall-back-enabled)

  sound-parts : Sound c
  sound-parts =
      let e = s.one-enabled in
      let count = s.place-count in
      record {
        sizes = record { named = s.eid-size; full = s.place-count; numbered = s.number-most; some = s.capacity-least; most = s.capacity-most };
        placed = record {
          each = all-by (place_ok c.capacity) c.places (λ i h. place-clauses.enough c.capacity (place_at c i) (s.each-place i (omega arith)));
          apart = distinct-by c.places (λ i j h k q. s.aids-distinct i j (has-aid _ h) (has-aid _ k) q);
          room = rw (together c.places) s.quotas-and-free;
        };
        roles = record {
          one = count-one is_enabled refl c.places e.0 (eq-eqb _ 0x3F e.1) (λ i j v w. s.no_other i j (eqb-true _ 0x3F v) (eqb-true _ 0x3F w));
          resort = and_from _ _ (of-finished _ s.fall-back-finished) (eq-eqb _ 1 s.fall-back-marked);
          listing = of-kept c s.kept-held;
        };
        phased = phase-enough c.phase s.phase-clauses;
      }

pub sound-clauses : SoundClauses
sound-clauses = record { asked = λ c e. clauses c (parts c e); enough = λ c s. whole c (sound-parts c s) }
