-- A step touches AID, quota, used, policy and mark of no other profile. Tick, lost, enable and disable change life cycles alone; every
-- other step sets one place: the target's, a free one, or at confirmation the previous one. Assumes nothing.
use mathlib.Core.Path.{◌≡◌, refl, ap, sym, ◌∙◌}
use Prim.Native.Nat.{ℕ, ◌<◌}
use mathlib.Core.List.{List, [], ◌∷◌}
use mathlib.Core.Bool.{Bool, true, false, ◌&&◌, false≢true}
use lib.ListN.{length, set}
use lib.Seq.{get_or-set_other}
use lib.Dec.{ltb, eqb}
use borrow.Author.Tests.{eqb-true, eqb-false, eq-eqb}
use Rattle.std.proofs.lemmas.Bool.{cond_both}
use Rattle.base_status.specs.StatusWords.{is_done}
use Rattle.card_isdp.specs.LifeCycle.{with_life}
use Rattle.card_isdp.specs.Place.{vacant, held}
use Rattle.card_isdp.specs.declared.Isdp.{Isdp}
use Rattle.card_isdp.proofs.Bools.{and_l, and_r}
use Rattle.card_places.specs.Places.{at, seek, is_free}
use Rattle.card_places.proofs.Seeks.{seek-below}
use Rattle.card_places.proofs.Lives.{Lives, Lives.ended, Lives.place, enable-lives, lives_at}
use Rattle.card_places.proofs.Sets.{clear_at}
use Rattle.card_record.specs.Cards.{is_quiet, place_of, free_place, on_fallback}
use Rattle.card_record.specs.Clock.{tick_in, tick_of, without_network, dropped, confirm_in, confirm_of}
use Rattle.card_record.specs.Steps.{tick_step, lost_step, confirm_step}
use Rattle.card_record.specs.declared.Card.{Card}
use Rattle.card_record.specs.declared.Phase.{Phase}
use Rattle.card_record.specs.declared.Phase.TheVariants.{Quiet, Trial, Back, Fallen}
use Rattle.card_record.proofs.Outcomes.{accepted-card}
use Rattle.rule_steps.specs.Asked.{Act, Act.enable, Act.disable, Act.delete, Act.master_delete, Act.set_fall_back, Act.status, Act.keyed, Act.stored, Act.finished, Act.set_policy, Asked, Asked.unread, Asked.create, Asked.on, Asked.confirm, Asked.status_of_all, Asked.get_data, Asked.tick, Asked.lost}
use Rattle.rule_steps.specs.Steps.{step_of, act_step, response_of}
use Rattle.rule_steps.proofs.Laws.Places.{held-within}
use Rattle.rule_run.specs.Calls.{asked}
use Rattle.rule_run.specs.Step.{step, work}
use Rattle.proof_demands.specs.Others.{AsItWas, targets, leaves, leaves_in, OthersUntouched, SaveTheDeletion}
use Rattle.rule_run.proofs.Taken.{hands-back, takes_step}

pub lives-same : (l : List Isdp) → Lives l l
lives-same [] = ended
lives-same (p ∷ ps) = place p p.life (lives-same ps)

-- tick and lost change life cycles alone
module _ (c : Card) where
  abbrev pub From : Card → Type 0
  From d = Lives c.places d.places

  tick-case : (p : Phase) → From (tick_in p c)
  tick-case Quiet = lives-same c.places
  tick-case (Trial q l n) = cond_both (ltb 1 l) _ _ From (λ b. lives-same c.places) (λ b. enable-lives c.places q)
  tick-case (Back l n) =
      cond_both (ltb 1 l) _ _ From (λ b. lives-same c.places)
      (λ b. cond_both (on_fallback c) _ _ From (λ e. lives-same c.places) (λ e. enable-lives c.places c.fallback))
  tick-case (Fallen l n) = cond_both (ltb 1 l) _ _ From (λ b. lives-same c.places) (λ b. lives-same c.places)

  pub tick-lives : From (tick_of c)
  unfolding tick_of
  tick-lives = tick-case c.phase

  pub lost-lives : From (without_network c)
  unfolding without_network
  lost-lives =
      cond_both (is_quiet c.phase) _ _ From
      (λ q. cond_both (on_fallback c) _ _ From (λ e. lives-same c.places) (λ e. enable-lives c.places c.fallback))
      (λ q. lives-same c.places)

-- no search for a free place finds a held one
pub not_found : (t : Isdp → Bool) (l : List Isdp) (i : ℕ) → i < length l → t (at l i) ≡ false → seek t l ≡ i → ⊥
not_found t l i h n e = false≢true (sym n ∙ rw e at (seek-below t l (rw e h)))

pub free_other : (l : List Isdp) (i : ℕ) → held (at l i) ≡ true → seek is_free l ≡ i → ⊥
free_other l i h = not_found is_free l i (held-within l i h) (rw h)

same : (p : Isdp) → AsItWas p p
same p = record { aid = refl; quota = refl; used = refl; policy = refl; mark = refl }

equal : (p q : Isdp) → q ≡ p → AsItWas p q
equal p q e = rw e (same p)

lively : {l m : List Isdp} (j : ℕ) → Lives l m → AsItWas (at l j) (at m j)
lively {l} {m} j r =
    let e : at m j ≡ with_life (at l j) (at m j).life = lives_at r j in
    record {
      aid = ap (λ (x : Isdp). x.aid) e;
      quota = ap (λ (x : Isdp). x.quota) e;
      used = ap (λ (x : Isdp). x.used) e;
      policy = ap (λ (x : Isdp). x.policy) e;
      mark = ap (λ (x : Isdp). x.mark) e;
    }

module _ (c : Card) (j : ℕ) where
  abbrev Kept : Card → Type 0
  Kept d = AsItWas (at c.places j) (at d.places j)

  sets-other : (i : ℕ) (x : Isdp) → (i ≡ j → ⊥) → AsItWas (at c.places j) (at (set c.places i x) j)
  sets-other i x n = equal _ _ (get_or-set_other c.places i j x vacant (λ e. n (sym e)))

  act : (aid : List ℕ) (a : Act) → eqb (place_of c aid) j ≡ false → Kept (act_step c aid a).card
  act aid enable n = lively j (enable-lives c.places (place_of c aid))
  act aid disable n = lively j (enable-lives c.places c.fallback)
  act aid delete n = sets-other _ _ (eqb-false _ _ n)
  act aid (master_delete verdict) n = sets-other _ _ (eqb-false _ _ n)
  act aid set_fall_back n = same _
  act aid (status life fallback) n = same _
  act aid keyed n = sets-other _ _ (eqb-false _ _ n)
  act aid (stored m) n = sets-other _ _ (eqb-false _ _ n)
  act aid (finished policy mark) n = sets-other _ _ (eqb-false _ _ n)
  act aid (set_policy policy) n = sets-other _ _ (eqb-false _ _ n)

  apart : (i : ℕ) → (eqb i j && dropped c i) ≡ false → dropped c i ≡ true → i ≡ j → ⊥
  apart i n d e = false≢true (sym n ∙ (rw (eq-eqb i j e, d)))

  confirms : (p : Phase) → leaves_in p c j ≡ false → Kept (confirm_in p c)
  confirms Quiet n = same _
  confirms (Trial q l m) n = cond_both (dropped c q) _ _ Kept (λ b. sets-other q vacant (apart q n b)) (λ b. same _)
  confirms (Back l m) n = same _
  confirms (Fallen l m) n = same _

  asks : (a : Asked) → held (at c.places j) ≡ true → targets c a j ≡ false → leaves c a j ≡ false → Kept (step_of c a).card
  unfolding tick_step lost_step confirm_step confirm_of
  asks unread h t n = same _
  asks (create aid quota) h t n = sets-other (free_place c) _ (free_other c.places j h)
  asks (on aid a) h t n = act aid a t
  asks (confirm number) h t n = confirms c.phase n
  asks (status_of_all next life fallback) h t n = same _
  asks get_data h t n = same _
  asks tick h t n = lively j (tick-lives c)
  asks lost h t n = lively j (lost-lives c)

  gone : (p : Phase) → leaves_in p c j ≡ true → at (confirm_in p c).places j ≡ vacant
  gone Quiet e = absurd (false≢true e)
  gone (Trial q l m) e =
      rw (and_r (eqb q j) _ e, eqb-true q j (and_l (eqb q j) _ e)) (clear_at c.places j)
  gone (Back l m) e = absurd (false≢true e)
  gone (Fallen l m) e = absurd (false≢true e)

  asks-gone : (a : Asked) → leaves c a j ≡ true → at (step_of c a).card.places j ≡ vacant
  unfolding confirm_step confirm_of
  asks-gone unread e = absurd (false≢true e)
  asks-gone (create aid quota) e = absurd (false≢true e)
  asks-gone (on aid a) e = absurd (false≢true e)
  asks-gone (confirm number) e = gone c.phase e
  asks-gone (status_of_all next life fallback) e = absurd (false≢true e)
  asks-gone get_data e = absurd (false≢true e)
  asks-gone tick e = absurd (false≢true e)
  asks-gone lost e = absurd (false≢true e)

and_false_r : (a b : Bool) → (a && b) ≡ false → a ≡ true → b ≡ false
and_false_r true b e f = e
and_false_r false b e f = absurd (false≢true f)

pub others-untouched : OthersUntouched
others-untouched c call j h t n =
    hands-back c call (Kept c j)
    (λ e. asks c j (asked c call) h t (and_false_r (is_done (step c call).status) _ n e))
    (same _)

pub save-the-deletion : SaveTheDeletion
save-the-deletion c call j e =
    let d = and_l (is_done (step c call).status) _ e in
    let r = and_r (is_done (step c call).status) (leaves c (asked c call) j) e in
    rw (takes_step c call d, accepted-card (work c call).success (step_of c (asked c call)) (response_of c (asked c call))) (asks-gone c j (asked c call) r)
