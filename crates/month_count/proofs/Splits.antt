-- The splits of a list of calls, the cards reached, and a figure one call at a time: the first call is counted on the card at hand, the others from the card
-- that it leads to. By induction over the calls. Assumes nothing.
use mathlib.Core.Path.{◌≡◌, refl, ap, ◌∙◌}
use Prim.Native.Nat.{ℕ, zero, suc, ◌+◌, ◌<◌}
use native.Mathlib.Omega.{arith}
use mathlib.Core.List.{List, [], ◌∷◌, ◌++◌, map}
use mathlib.Core.Bool.{Bool, cond, ◌&&◌}
use lib.ListN.{length, get_or, length-map, length-append}
use Rattle.card_isdp.specs.declared.Aid.{Aid}
use Rattle.card_record.specs.Cards.{enabled_aid}
use Rattle.card_record.specs.declared.Card.{Card}
use Rattle.rule_run.specs.Calls.{Call}
use Rattle.rule_run.specs.Step.{step, run}
use Rattle.rule_run.specs.Runs.{is_tick}
use Rattle.month_count.specs.Statements.{how_many, Split, whole_split, behind, splits, EverySplit, counts_for, figure, cards_reached, EveryCard}

as_many : (calls : List Call) → length (splits calls) ≡ length calls
unfolding splits
as_many [] = refl
as_many (call ∷ calls) = ap suc (length-map (splits calls) (behind call) ∙ as_many calls)

-- what is mapped, at a place that is there
map_at : (call : Call) (l : List Split) (i : ℕ) (none : Split) → i < length l → get_or (map (behind call) l) i none ≡ behind call (get_or l i none)
map_at call [] i none h = absurd (omega arith)
map_at call (s ∷ l) zero none h = refl
map_at call (s ∷ l) (suc i) none h = map_at call l i none (omega arith)

place : (calls : List Call) (i : ℕ) → suc i < suc (length calls) → i < length (splits calls)
place calls i h = let e = as_many calls in omega arith

joins : (calls : List Call) (i : ℕ) (none : Split) → i < length calls → whole_split (get_or (splits calls) i none) ≡ calls
unfolding splits
joins [] i none h = absurd (omega arith)
joins (call ∷ calls) zero none h = refl
joins (call ∷ calls) (suc i) none h =
    ap whole_split (map_at call (splits calls) i none (place calls i h)) ∙ ap (λ (l : List Call). call ∷ l) (joins calls i none (omega arith))

once : (calls : List Call) (i : ℕ) (none : Split) → i < length calls → length (get_or (splits calls) i none).before ≡ i
unfolding splits
once [] i none h = absurd (omega arith)
once (call ∷ calls) zero none h = refl
once (call ∷ calls) (suc i) none h =
    ap (λ (s : Split). length s.before) (map_at call (splits calls) i none (place calls i h)) ∙ ap suc (once calls i none (omega arith))

all-place : (before : List Call) (this : Call) (after : List Call) → length before < length (splits (before ++ this ∷ after))
all-place before this after =
    let e = as_many (before ++ this ∷ after) in
    let f = length-append before (this ∷ after) in
    omega arith

all_from : (before : List Call) (this : Call) (after : List Call) (none : Split) → get_or (splits (before ++ this ∷ after)) (length before) none ≡ record { before = before; this = this; after = after }
unfolding splits
all_from [] this after none = refl
all_from (call ∷ before) this after none =
    map_at call (splits (before ++ this ∷ after)) (length before) none (all-place before this after) ∙ ap (behind call) (all_from before this after none)

pub every-split : EverySplit
every-split =
    record {
      as_many = as_many;
      joins = joins;
      once = once;
      all = λ s none. all_from s.before s.this s.after none;
    }

-- the cards reached
cards-as-many : (c : Card) (calls : List Call) → length (cards_reached c calls) ≡ length calls + 1
unfolding cards_reached
cards-as-many c [] = refl
cards-as-many c (call ∷ calls) = let e = cards-as-many (step c call).card calls in omega arith

cards-first : (c none : Card) (calls : List Call) → get_or (cards_reached c calls) 0 none ≡ c
unfolding cards_reached
cards-first c none [] = refl
cards-first c none (call ∷ calls) = refl

cards-all : (c none : Card) (before after : List Call) → get_or (cards_reached c (before ++ after)) (length before) none ≡ run c before
unfolding cards_reached run
cards-all c none [] after = cards-first c none after
cards-all c none (call ∷ before) after = cards-all (step c call).card none before after

pub every-card : EveryCard
every-card = record { as_many = cards-as-many; all = cards-all }

-- counting what is mapped, and by two tests that agree
pub many-map : {A B : Type 0} (f : A → B) (t : B → Bool) (l : List A) → how_many t (map f l) ≡ how_many (λ x. t (f x)) l
unfolding how_many
many-map f t [] = refl
many-map f t (x ∷ xs) = ap (λ (n : ℕ). cond (t (f x)) 1 0 + n) (many-map f t xs)

pub many-same : {A : Type 0} (t u : A → Bool) → ((x : A) → t x ≡ u x) → (l : List A) → how_many t l ≡ how_many u l
unfolding how_many
many-same t u e [] = refl
many-same t u e (x ∷ xs) = rw (e x, many-same t u e xs)

pub figure-none : (c : Card) (test : Aid → Bool) → figure c [] test ≡ 0
unfolding how_many splits
figure-none c test = refl

pub figure-next : (c : Card) (call : Call) (calls : List Call) (test : Aid → Bool) → figure c (call ∷ calls) test ≡ cond (is_tick call && test (enabled_aid c)) 1 0 + figure (step c call).card calls test
unfolding how_many splits run
figure-next c call calls test =
    ap (λ (n : ℕ). cond (is_tick call && test (enabled_aid c)) 1 0 + n) (many-map (behind call) (counts_for c test) (splits calls))

-- tests that agree have one figure
pub figure-same : (c : Card) (calls : List Call) (test other : Aid → Bool) → ((a : Aid) → test a ≡ other a) → figure c calls test ≡ figure c calls other
figure-same c calls test other e =
    many-same (counts_for c test) (counts_for c other) (λ s. ap (λ (b : Bool). is_tick s.this && b) (e (enabled_aid (run c s.before)))) (splits calls)
