-- The used bytes of one profile influence no call that does not store or finish it. Every condition of the table, every step and every
-- response goes past them; where the profile is deleted the cards are equal from then on. Assumes nothing.
use mathlib.Core.Path.{◌≡◌, refl, ap, sym, ◌∙◌}
use Prim.Native.Nat.{ℕ, ◌-◌}
use mathlib.Core.List.{List}
use mathlib.Core.Bool.{Bool, true, false, not, cond, false≢true}
use lib.ListN.{set}
use lib.Seq.{get_or-set_same, get_or-set_other}
use lib.Dec.{eqb}
use borrow.Author.Tests.{eqb-true, eqb-false, not-true}
use Rattle.base_bytes.specs.Bytes.{same_bytes}
use Rattle.base_bytes.proofs.Alike.{same_true, same_self}
use Rattle.card_isdp.specs.Aids.{aid_of}
use Rattle.card_isdp.specs.LifeCycle.{personalized, with_life, with_used, with_policy}
use Rattle.card_isdp.specs.Place.{vacant, held, is_for}
use Rattle.card_isdp.specs.declared.Isdp.{Isdp}
use Rattle.card_isdp.proofs.Bools.{and_r}
use Rattle.card_places.specs.Places.{at}
use Rattle.card_places.proofs.Seeks.{seek-below, bears}
use Rattle.card_places.proofs.Lives.{Lives, enable-lives, lives_at}
use Rattle.card_record.specs.Cards.{place_of, profile_of, free_place, in_state, with_phase, with_places, cleared}
use Rattle.card_record.specs.Clock.{switched, dropped, confirm_in, confirm_of}
use Rattle.card_record.specs.Ticks.{ticks_to_come}
use Rattle.card_record.specs.Notifications.{notice_since}
use Rattle.card_record.specs.Steps.{tick_step, lost_step, confirm_step, gone_in}
use Rattle.card_record.specs.declared.Card.{Card}
use Rattle.card_record.specs.declared.Phase.{Phase}
use Rattle.card_record.specs.declared.Phase.TheVariants.{Quiet, Trial, Back, Fallen}
use Rattle.rule_steps.specs.Asked.{Act, Act.enable, Act.disable, Act.delete, Act.master_delete, Act.set_fall_back, Act.status, Act.keyed, Act.stored, Act.finished, Act.set_policy, Asked, Asked.unread, Asked.create, Asked.on, Asked.confirm, Asked.status_of_all, Asked.get_data, Asked.tick, Asked.lost}
use Rattle.rule_steps.specs.Conditions.{card_rows}
use Rattle.rule_steps.specs.Steps.{begins_at, part_word, success_of, step_of, act_step, response_of, act_response}
use Rattle.rule_steps.proofs.Laws.Places.{held-within}
use Rattle.proof_demands.proofs.Others.{free_other, tick-lives, lost-lives}
use Rattle.proof_demands.proofs.Uses.{use_at, reuse_at, use-at, use-other, set_other, set-used, set-over, reuse-moved, enabled-reuse, place-reuse, free-reuse, drops-reuse, tick-reuse, lost-reuse, ticks-reuse, part-reuse, left-reuse, one-reuse, data-reuse, notice-reuse}

-- the cards are equal, or place i still bears the AID and they differ in its used bytes
pub data Near (a : List ℕ) (i : ℕ) (c d : Card) : Type 0 where
  same : d ≡ c → Near a i c d
  apart : (u : ℕ) → d ≡ reuse_at i u c → is_for a (at c.places i) ≡ true → Near a i c d

-- the call asked for does not store or finish the profile
abbrev pub spares_act : List ℕ → List ℕ → Act → Bool
spares_act a aid enable = true
spares_act a aid disable = true
spares_act a aid delete = true
spares_act a aid (master_delete verdict) = true
spares_act a aid set_fall_back = true
spares_act a aid (status life fallback) = true
spares_act a aid keyed = true
spares_act a aid (stored n) = not (same_bytes aid a)
spares_act a aid (finished policy mark) = not (same_bytes aid a)
spares_act a aid (set_policy policy) = true

abbrev pub spares : List ℕ → Asked → Bool
spares a unread = true
spares a (create aid quota) = true
spares a (on aid act) = spares_act a aid act
spares a (confirm number) = true
spares a (status_of_all next life fallback) = true
spares a get_data = true
spares a tick = true
spares a lost = true

-- a place that bears one AID bears no other
one-aid : (a b : List ℕ) (p : Isdp) → is_for a p ≡ true → is_for b p ≡ true → b ≡ a
unfolding is_for
one-aid a b p e f = sym (same_true (aid_of p) b (and_r (held p) _ f)) ∙ same_true (aid_of p) a (and_r (held p) _ e)

is-for-life : (a : List ℕ) (p : Isdp) (v : ℕ) → is_for a (with_life p v) ≡ is_for a p
unfolding is_for
is-for-life a p v = refl

is-for-policy : (a : List ℕ) (p : Isdp) (v : ℕ) → is_for a (with_policy p v) ≡ is_for a p
unfolding is_for
is-for-policy a p v = refl

lives-for : {l m : List Isdp} (a : List ℕ) (i : ℕ) → Lives l m → is_for a (at l i) ≡ true → is_for a (at m i) ≡ true
lives-for {l} {m} a i r b = ap (is_for a) (lives_at r i) ∙ is-for-life a (at l i) (at m i).life ∙ b

module _ (a : List ℕ) (i u : ℕ) (c : Card) (b : is_for a (at c.places i) ≡ true) where
  held-there : held (at c.places i) ≡ true
  held-there = bears a (at c.places i) b

  -- a profile with another AID stands elsewhere
  elsewhere : (aid : List ℕ) → not (same_bytes aid a) ≡ true → place_of c aid ≡ i → ⊥
  elsewhere aid n e =
      let k = held-within c.places i held-there in
      let f : is_for aid (at c.places (place_of c aid)) ≡ true = seek-below (is_for aid) c.places (rw e k) in
      let g : is_for aid (at c.places i) ≡ true = rw e at f in
      let s : same_bytes aid a ≡ true = rw (one-aid a aid (at c.places i) b g) (same_self a) in
      false≢true (sym (not-true _ n) ∙ s)

  profile : (aid : List ℕ) → profile_of (reuse_at i u c) aid ≡ with_used (profile_of c aid) (at (use_at c.places i u) (place_of c aid)).used
  profile aid = ap (at (use_at c.places i u)) (place-reuse i u c aid) ∙ use-at c.places i u (place_of c aid)

  profile-other : (aid : List ℕ) → not (same_bytes aid a) ≡ true → profile_of (reuse_at i u c) aid ≡ profile_of c aid
  profile-other aid n = ap (at (use_at c.places i u)) (place-reuse i u c aid) ∙ use-other c.places i u (place_of c aid) (elsewhere aid n)

  -- the rows of the table that look at the card
  act-rows : (aid : List ℕ) (x : Act) → spares_act a aid x ≡ true → card_rows (reuse_at i u c) (on aid x) ≡ card_rows c (on aid x)
  act-rows aid enable n = rw (profile aid, enabled-reuse i u c, use-at c.places i u)
  act-rows aid disable n = rw (profile aid, place-reuse i u c aid)
  act-rows aid delete n = rw (profile aid, place-reuse i u c aid)
  act-rows aid (master_delete verdict) n = rw (profile aid, place-reuse i u c aid)
  act-rows aid set_fall_back n = rw (profile aid)
  act-rows aid (status life fallback) n = rw (profile aid)
  act-rows aid keyed n = rw (profile aid)
  act-rows aid (stored m) n = rw (profile-other aid n)
  act-rows aid (finished policy mark) n = rw (profile-other aid n)
  act-rows aid (set_policy policy) n = rw (profile aid)

  pub rows-near : (x : Asked) → spares a x ≡ true → card_rows (reuse_at i u c) x ≡ card_rows c x
  rows-near unread n = refl
  rows-near (create aid quota) n = rw (profile aid, free-reuse i u c)
  rows-near (on aid x) n = act-rows aid x n
  rows-near (confirm number) n = refl
  rows-near (status_of_all next life fallback) n = refl
  rows-near get_data n = refl
  rows-near tick n = refl
  rows-near lost n = refl

  -- what a place set anew leaves of the difference
  set-for : (j : ℕ) (x : Isdp) → (j ≡ i → ⊥) → is_for a (at (set c.places j x) i) ≡ true
  set-for j x n = rw (get_or-set_other c.places j i x vacant (λ e. n (sym e))) b

  moved-near : (j : ℕ) (p : Phase) → Near a i (switched c j p) (switched (reuse_at i u c) j p)
  moved-near j p = apart u (reuse-moved i u c j p) (lives-for a i (enable-lives c.places j) b)

  -- these places, so much free and this phase
  abbrev written : ℕ → Phase → List Isdp → Card
  written r p l = in_state c r c.last c.fallback p l

  -- another place
  other-near : (j : ℕ) (x : Isdp) (r : ℕ) (p : Phase) → (j ≡ i → ⊥) → Near a i (written r p (set c.places j x)) (written r p (set (use_at c.places i u) j x))
  other-near j x r p n = apart u (ap (written r p) (set_other c.places i u j x n)) (set-for j x n)

  -- a deletion, of this place or of another
  cleared-case : (j r : ℕ) (p : Phase) (t : Bool) → eqb j i ≡ t → Near a i (written r p (set c.places j vacant)) (written r p (set (use_at c.places i u) j vacant))
  cleared-case j r p true e = same (rw (eqb-true j i e) (ap (written r p) (set-over c.places i u vacant)))
  cleared-case j r p false e = other-near j vacant r p (eqb-false j i e)

  cleared-near : (j : ℕ) (p : Phase) → Near a i (cleared (with_phase c p) j) (cleared (with_phase (reuse_at i u c) p) j)
  cleared-near j p = rw (use-at c.places i u j) (cleared-case j _ p (eqb j i) refl)

  -- a profile rewritten with its AID whatever its used bytes, at this place or at another
  rewritten-case : (f : Isdp → Isdp) → ((p : Isdp) (v : ℕ) → f (with_used p v) ≡ with_used (f p) v) → ((p : Isdp) → is_for a (f p) ≡ is_for a p) → (j : ℕ) (t : Bool) → eqb j i ≡ t → Near a i (with_places c (set c.places j (f (at c.places j)))) (with_places c (set (use_at c.places i u) j (f (at (use_at c.places i u) j))))
  rewritten-case f h k j true e =
      rw (eqb-true j i e)
      (apart u (ap (with_places c) (set-used f h c.places i u))
      (rw (get_or-set_same c.places i (f (at c.places i)) vacant (held-within c.places i held-there)) (k (at c.places i) ∙ b)))
  rewritten-case f h k j false e = rw (use-other c.places i u j (eqb-false j i e)) (other-near j _ c.free c.phase (eqb-false j i e))

  choose-near : (t : Bool) (x y x' y' : Card) → Near a i x x' → Near a i y y' → Near a i (cond t x y) (cond t x' y')
  choose-near true x y x' y' p q = p
  choose-near false x y x' y' p q = q

  calm : Near a i (with_phase c Quiet) (with_phase (reuse_at i u c) Quiet)
  calm = apart u refl b

  confirm-near : (p : Phase) → Near a i (confirm_in p c) (confirm_in p (reuse_at i u c))
  confirm-near Quiet = calm
  confirm-near (Trial q l n) = rw (drops-reuse i u c q) (choose-near (dropped c q) _ _ _ _ (cleared-near q Quiet) calm)
  confirm-near (Back l n) = calm
  confirm-near (Fallen l n) = calm

  act-near : (aid : List ℕ) (x : Act) → spares_act a aid x ≡ true → Near a i (act_step c aid x).card (act_step (reuse_at i u c) aid x).card
  act-near aid enable n = rw (place-reuse i u c aid, enabled-reuse i u c) (moved-near (place_of c aid) _)
  act-near aid disable n = rw (enabled-reuse i u c) (moved-near c.fallback _)
  act-near aid delete n = rw (place-reuse i u c aid) (cleared-near (place_of c aid) c.phase)
  act-near aid (master_delete verdict) n = rw (place-reuse i u c aid) (cleared-near (place_of c aid) c.phase)
  act-near aid set_fall_back n = rw (place-reuse i u c aid) (apart u refl b)
  act-near aid (status life fallback) n = apart u refl b
  act-near aid keyed n = rw (place-reuse i u c aid) (rewritten-case (λ p. with_life p personalized) (λ p v. refl) (λ p. is-for-life a p personalized) (place_of c aid) (eqb (place_of c aid) i) refl)
  act-near aid (stored m) n = rw (profile-other aid n, place-reuse i u c aid) (other-near (place_of c aid) _ c.free c.phase (elsewhere aid n))
  act-near aid (finished policy mark) n = rw (profile-other aid n, place-reuse i u c aid) (other-near (place_of c aid) _ c.free c.phase (elsewhere aid n))
  act-near aid (set_policy policy) n = rw (place-reuse i u c aid) (rewritten-case (λ p. with_policy p policy) (λ p v. refl) (λ p. is-for-policy a p policy) (place_of c aid) (eqb (place_of c aid) i) refl)

  pub card-near : (x : Asked) → spares a x ≡ true → Near a i (step_of c x).card (step_of (reuse_at i u c) x).card
  unfolding tick_step lost_step confirm_step confirm_of
  card-near unread n = apart u refl b
  card-near (create aid quota) n = rw (free-reuse i u c) (other-near (free_place c) _ (c.free - quota) c.phase (free_other c.places i held-there))
  card-near (on aid x) n = act-near aid x n
  card-near (confirm number) n = confirm-near c.phase
  card-near (status_of_all next life fallback) n = rw (left-reuse i u c (begins_at c next) life fallback) (apart u refl b)
  card-near get_data n = apart u refl b
  card-near tick n = apart u (tick-reuse i u c) (lives-for a i (tick-lives c) b)
  card-near lost n = apart u (lost-reuse i u c) (lives-for a i (lost-lives c) b)

  -- the responses
  gone-near : (p : Phase) → gone_in p (reuse_at i u c) ≡ gone_in p c
  gone-near Quiet = refl
  gone-near (Trial q l n) = rw (drops-reuse i u c q, use-at c.places i u q)
  gone-near (Back l n) = refl
  gone-near (Fallen l n) = refl

  act-response : (aid : List ℕ) (x : Act) → act_response (reuse_at i u c) aid x ≡ act_response c aid x
  act-response aid enable = refl
  act-response aid disable = refl
  act-response aid delete = refl
  act-response aid (master_delete verdict) = refl
  act-response aid set_fall_back = refl
  act-response aid (status life fallback) = rw (place-reuse i u c aid) (one-reuse i u c (place_of c aid) life fallback)
  act-response aid keyed = refl
  act-response aid (stored n) = refl
  act-response aid (finished policy mark) = refl
  act-response aid (set_policy policy) = refl

  pub response-near : (x : Asked) → response_of (reuse_at i u c) x ≡ response_of c x
  unfolding confirm_step
  response-near unread = refl
  response-near (create aid quota) = refl
  response-near (on aid x) = act-response aid x
  response-near (confirm number) = rw (gone-near c.phase)
  response-near (status_of_all next life fallback) = part-reuse i u c (begins_at c next) life fallback
  response-near get_data = data-reuse i u c
  response-near tick = refl
  response-near lost = refl

  pub success-near : (x : Asked) → success_of (reuse_at i u c) x ≡ success_of c x
  success-near unread = refl
  success-near (create aid quota) = refl
  success-near (on aid x) = refl
  success-near (confirm number) = refl
  success-near (status_of_all next life fallback) = ap part_word (left-reuse i u c (begins_at c next) life fallback)
  success-near get_data = refl
  success-near tick = refl
  success-near lost = refl

-- every step notes its notification by the two cards
act-notice : (c : Card) (aid : List ℕ) (x : Act) → (act_step c aid x).notification ≡ notice_since c.last (act_step c aid x).card
act-notice c aid enable = refl
act-notice c aid disable = refl
act-notice c aid delete = refl
act-notice c aid (master_delete verdict) = refl
act-notice c aid set_fall_back = refl
act-notice c aid (status life fallback) = refl
act-notice c aid keyed = refl
act-notice c aid (stored n) = refl
act-notice c aid (finished policy mark) = refl
act-notice c aid (set_policy policy) = refl

pub step-notice : (c : Card) (x : Asked) → (step_of c x).notification ≡ notice_since c.last (step_of c x).card
unfolding tick_step lost_step confirm_step
step-notice c unread = refl
step-notice c (create aid quota) = refl
step-notice c (on aid x) = act-notice c aid x
step-notice c (confirm number) = refl
step-notice c (status_of_all next life fallback) = refl
step-notice c get_data = refl
step-notice c tick = refl
step-notice c lost = refl

pub near-notice : (a : List ℕ) (i u : ℕ) (c x y : Card) → Near a i x y → notice_since c.last y ≡ notice_since c.last x
unfolding notice_since
near-notice a i u c x y (same e) = rw e
near-notice a i u c x y (apart v e b) = rw e (notice-reuse i u v c x)

pub near-ticks : (a : List ℕ) (i : ℕ) (x y : Card) → Near a i x y → ticks_to_come y ≡ ticks_to_come x
near-ticks a i x y (same e) = rw e
near-ticks a i x y (apart v e b) = rw e (ticks-reuse i v x)
