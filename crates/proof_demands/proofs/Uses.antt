-- Other used bytes at one place: what a list of places and a card show of them. Every other field, every search and the step of the
-- clock go past them. By induction over the places. Assumes nothing.
use mathlib.Core.Path.{◌≡◌, refl, ap, ◌∙◌}
use Prim.Native.Nat.{ℕ, zero, suc, ◌-◌}
use mathlib.Core.List.{List, [], ◌∷◌}
use mathlib.Core.Bool.{Bool, true, false, cond}
use lib.ListN.{set, drop}
use lib.Dec.{ltb}
use Rattle.card_isdp.specs.declared.Aid.{Aid}
use Rattle.card_isdp.specs.LifeCycle.{enabled, is_enabled, with_life, with_used}
use Rattle.card_isdp.specs.Place.{held, is_for}
use Rattle.card_isdp.specs.declared.Isdp.{Isdp}
use Rattle.card_places.specs.Places.{at, seek, is_free, count_of, all_off, enable_at}
use Rattle.card_record.specs.Cards.{is_quiet, place_of, enabled_place, free_place, on_fallback, over, enabled_aid}
use Rattle.card_record.specs.Clock.{switched, dropped, tick_in, tick_of, without_network}
use Rattle.card_record.specs.Ticks.{steps_in, ticks_to_come}
use Rattle.card_record.specs.Notifications.{issued, notice_since, notice_kind}
use Rattle.card_record.specs.declared.Card.{Card}
use Rattle.card_record.specs.declared.Phase.{Phase}
use Rattle.card_record.specs.declared.Phase.TheVariants.{Quiet, Trial, Back, Fallen}
use Rattle.rule_responses.specs.Responses.{attribute_of, status_body, status_row, row_of, row_size, most_response, part_from, next_row_from, part_given, next_row_after, one_status, data_response}

-- the places, and the card, with u used bytes at place i
unfoldable pub use_at : List Isdp → ℕ → ℕ → List Isdp
use_at l i u = set l i (with_used (at l i) u)

abbrev pub reuse_at : ℕ → ℕ → Card → Card
reuse_at i u c = over c (use_at c.places i u)

-- a place, but for its used bytes
pub use-at : (l : List Isdp) (i u j : ℕ) → at (use_at l i u) j ≡ with_used (at l j) (at (use_at l i u) j).used
unfolding use_at
use-at [] i u j = refl
use-at (p ∷ ps) zero u zero = refl
use-at (p ∷ ps) zero u (suc j) = refl
use-at (p ∷ ps) (suc i) u zero = refl
use-at (p ∷ ps) (suc i) u (suc j) = use-at ps i u j

pub use-other : (l : List Isdp) (i u j : ℕ) → (j ≡ i → ⊥) → at (use_at l i u) j ≡ at l j
unfolding use_at
use-other [] i u j n = refl
use-other (p ∷ ps) zero u zero n = absurd (n refl)
use-other (p ∷ ps) zero u (suc j) n = refl
use-other (p ∷ ps) (suc i) u zero n = refl
use-other (p ∷ ps) (suc i) u (suc j) n = use-other ps i u j (λ e. n (ap suc e))

-- the same number again
pub use-same : (l : List Isdp) (i : ℕ) → use_at l i (at l i).used ≡ l
unfolding use_at
use-same [] i = refl
use-same (p ∷ ps) zero = refl
use-same (p ∷ ps) (suc i) = rw (use-same ps i)

-- a test that does not ask for used bytes
pub use-seek : (t : Isdp → Bool) → ((p : Isdp) (u : ℕ) → t (with_used p u) ≡ t p) → (l : List Isdp) (i u : ℕ) → seek t (use_at l i u) ≡ seek t l
unfolding seek use_at
use-seek t b [] i u = refl
use-seek t b (p ∷ ps) zero u = rw (b p u)
use-seek t b (p ∷ ps) (suc i) u = rw (use-seek t b ps i u)

pub use-count : (t : Isdp → Bool) → ((p : Isdp) (u : ℕ) → t (with_used p u) ≡ t p) → (l : List Isdp) (i u : ℕ) → count_of t (use_at l i u) ≡ count_of t l
unfolding count_of use_at
use-count t b [] i u = refl
use-count t b (p ∷ ps) zero u = rw (b p u)
use-count t b (p ∷ ps) (suc i) u = rw (use-count t b ps i u)

use-off : (l : List Isdp) (i u : ℕ) → all_off (use_at l i u) ≡ use_at (all_off l) i u
unfolding use_at all_off
use-off [] i u = refl
use-off (p ∷ ps) zero u = refl
use-off (p ∷ ps) (suc i) u = rw (use-off ps i u)

use-enable : (l : List Isdp) (i u j : ℕ) → enable_at (use_at l i u) j ≡ use_at (enable_at l j) i u
unfolding use_at enable_at
use-enable [] i u j = refl
use-enable (p ∷ ps) zero u zero = refl
use-enable (p ∷ ps) zero u (suc j) = refl
use-enable (p ∷ ps) (suc i) u zero = ap (λ (m : List Isdp). with_life p enabled ∷ m) (use-off ps i u)
use-enable (p ∷ ps) (suc i) u (suc j) = rw (use-enable ps i u j)

-- one place set anew: another one, the same one but for its used bytes, the same one altogether
pub set_other : (l : List Isdp) (i u j : ℕ) (x : Isdp) → (j ≡ i → ⊥) → set (use_at l i u) j x ≡ use_at (set l j x) i u
unfolding use_at
set_other [] i u j x n = refl
set_other (p ∷ ps) zero u zero x n = absurd (n refl)
set_other (p ∷ ps) zero u (suc j) x n = refl
set_other (p ∷ ps) (suc i) u zero x n = refl
set_other (p ∷ ps) (suc i) u (suc j) x n = rw (set_other ps i u j x (λ e. n (ap suc e)))

-- a profile rewritten whatever its used bytes
pub set-used : (f : Isdp → Isdp) → ((p : Isdp) (v : ℕ) → f (with_used p v) ≡ with_used (f p) v) → (l : List Isdp) (i u : ℕ) → set (use_at l i u) i (f (at (use_at l i u) i)) ≡ use_at (set l i (f (at l i))) i u
unfolding use_at
set-used f h [] i u = refl
set-used f h (p ∷ ps) zero u = rw (h p u)
set-used f h (p ∷ ps) (suc i) u = rw (set-used f h ps i u)

pub set-over : (l : List Isdp) (i u : ℕ) (x : Isdp) → set (use_at l i u) i x ≡ set l i x
unfolding use_at
set-over [] i u x = refl
set-over (p ∷ ps) zero u x = refl
set-over (p ∷ ps) (suc i) u x = rw (set-over ps i u x)

-- a choice between two cards, each with other used bytes
reuse-cond : (i u : ℕ) (b : Bool) (x y x' y' : Card) → x' ≡ reuse_at i u x → y' ≡ reuse_at i u y → cond b x' y' ≡ reuse_at i u (cond b x y)
reuse-cond i u true x y x' y' e f = e
reuse-cond i u false x y x' y' e f = f

module _ (i u : ℕ) where
  pub reuse-moved : (c : Card) (j : ℕ) (p : Phase) → switched (reuse_at i u c) j p ≡ reuse_at i u (switched c j p)
  reuse-moved c j p = rw (use-enable c.places i u j)

  pub enabled-reuse : (c : Card) → enabled_place (reuse_at i u c) ≡ enabled_place c
  enabled-reuse c = use-seek is_enabled (λ p v. refl) c.places i u

  pub place-reuse : (c : Card) (aid : List ℕ) → place_of (reuse_at i u c) aid ≡ place_of c aid
  unfolding is_for
  place-reuse c aid = use-seek (is_for aid) (λ p v. refl) c.places i u

  pub free-reuse : (c : Card) → free_place (reuse_at i u c) ≡ free_place c
  free-reuse c = use-seek is_free (λ p v. refl) c.places i u

  pub on-reuse : (c : Card) → on_fallback (reuse_at i u c) ≡ on_fallback c
  on-reuse c = rw (use-at c.places i u c.fallback)

  pub drops-reuse : (c : Card) (q : ℕ) → dropped (reuse_at i u c) q ≡ dropped c q
  drops-reuse c q = rw (use-at c.places i u q)

  tick-case : (c : Card) (p : Phase) → tick_in p (reuse_at i u c) ≡ reuse_at i u (tick_in p c)
  tick-case c Quiet = refl
  tick-case c (Trial q l n) = reuse-cond i u (ltb 1 l) _ _ _ _ refl (reuse-moved c q _)
  tick-case c (Back l n) =
      reuse-cond i u (ltb 1 l) _ _ _ _ refl
      (rw (on-reuse c) (reuse-cond i u (on_fallback c) _ _ _ _ refl (reuse-moved c c.fallback _)))
  tick-case c (Fallen l n) = reuse-cond i u (ltb 1 l) _ _ _ _ refl refl

  pub tick-reuse : (c : Card) → tick_of (reuse_at i u c) ≡ reuse_at i u (tick_of c)
  unfolding tick_of
  tick-reuse c = tick-case c c.phase

  pub lost-reuse : (c : Card) → without_network (reuse_at i u c) ≡ reuse_at i u (without_network c)
  unfolding without_network
  lost-reuse c =
      reuse-cond i u (is_quiet c.phase) _ _ _ _
      (rw (on-reuse c) (reuse-cond i u (on_fallback c) _ _ _ _ refl (reuse-moved c c.fallback _)))
      refl

  -- the ticks still to come
  steps-reuse : (k : ℕ) (c : Card) → steps_in k (reuse_at i u c) ≡ steps_in k c
  unfolding steps_in
  steps-reuse zero c = refl
  steps-reuse (suc k) c = rw (tick-reuse c, steps-reuse k (tick_of c))

  pub ticks-reuse : (c : Card) → ticks_to_come (reuse_at i u c) ≡ ticks_to_come c
  unfolding ticks_to_come
  ticks-reuse c = steps-reuse 300 c

  -- the notification
  named-reuse : (c : Card) → enabled_aid (reuse_at i u c) ≡ enabled_aid c
  named-reuse c =
      ap (λ (j : ℕ). (at (use_at c.places i u) j).aid) (enabled-reuse c)
      ∙ ap (λ (p : Isdp). p.aid) (use-at c.places i u (enabled_place c))

  pub issued-reuse : (c : Card) → issued (reuse_at i u c) ≡ issued c
  issued-reuse c = ap (λ (a : Aid). record { kind = notice_kind c.phase; number = c.last; eid = c.eid; aid = a }) (named-reuse c)

  -- the responses
  row-reuse : (p : Isdp) (v attribute : ℕ) (life fallback : Bool) → row_of (with_used p v) attribute life fallback ≡ row_of p attribute life fallback
  unfolding row_of status_row status_body
  row-reuse p v attribute life fallback = refl

  -- a part of a listing, over the places themselves and over those from one on; so too the place that is left
  module _ (holder : ℕ) (life fallback : Bool) where
    parts-reuse : (l : List Isdp) (j room place : ℕ) → part_from room holder place life fallback (use_at l j u) ≡ part_from room holder place life fallback l
    unfolding part_from use_at
    parts-reuse [] j room place = refl
    parts-reuse (p ∷ ps) zero room place = rw (row-reuse p u (attribute_of holder place) life fallback)
    parts-reuse (p ∷ ps) (suc j) room place = rw (parts-reuse ps j (room - row_size p life fallback) (suc place))

    lefts-reuse : (l : List Isdp) (j room place : ℕ) → next_row_from room holder place life fallback (use_at l j u) ≡ next_row_from room holder place life fallback l
    unfolding next_row_from use_at
    lefts-reuse [] j room place = refl
    lefts-reuse (p ∷ ps) zero room place = refl
    lefts-reuse (p ∷ ps) (suc j) room place = rw (lefts-reuse ps j (room - row_size p life fallback) (suc place))

  -- what holds of the places holds of those from one on
  from-reuse : (X : Type 0) (f : List Isdp → X) → ((l : List Isdp) (j : ℕ) → f (use_at l j u) ≡ f l) → (l : List Isdp) (j n : ℕ) → f (drop n (use_at l j u)) ≡ f (drop n l)
  unfolding use_at
  from-reuse X f h l j zero = h l j
  from-reuse X f h [] j (suc n) = refl
  from-reuse X f h (p ∷ ps) zero (suc n) = refl
  from-reuse X f h (p ∷ ps) (suc j) (suc n) = from-reuse X f h ps j n

  pub part-reuse : (c : Card) (from : ℕ) (life fallback : Bool) → part_given (reuse_at i u c) from life fallback ≡ part_given c from life fallback
  unfolding part_given
  part-reuse c from life fallback =
      from-reuse (List ℕ) (part_from most_response c.fallback from life fallback) (λ l j. parts-reuse c.fallback life fallback l j most_response from) c.places i from

  pub left-reuse : (c : Card) (from : ℕ) (life fallback : Bool) → next_row_after (reuse_at i u c) from life fallback ≡ next_row_after c from life fallback
  unfolding next_row_after
  left-reuse c from life fallback =
      from-reuse ℕ (next_row_from most_response c.fallback from life fallback) (λ l j. lefts-reuse c.fallback life fallback l j most_response from) c.places i from

  pub one-reuse : (c : Card) (j : ℕ) (life fallback : Bool) → one_status (reuse_at i u c) j life fallback ≡ one_status c j life fallback
  unfolding one_status
  one-reuse c j life fallback = rw (use-at c.places i u j, row-reuse (at c.places j) (at (use_at c.places i u) j).used (attribute_of c.fallback j) life fallback)

  pub data-reuse : (c : Card) → data_response (reuse_at i u c) ≡ data_response c
  unfolding data_response
  data-reuse c = rw (use-count held (λ p v. refl) c.places i u)

pub notice-reuse : (i u v : ℕ) (c d : Card) → notice_since c.last (reuse_at i v d) ≡ notice_since c.last d
unfolding notice_since
notice-reuse i u v c d = rw (issued-reuse i v d)
