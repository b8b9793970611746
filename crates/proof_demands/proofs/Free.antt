-- Free is capacity less the quotas of the history. Each accepted call does to the profiles counted what it does to the places, a refused
-- one nothing; capacity is never changed; and of a sound card the quotas counted are those held. Assumes nothing.
use mathlib.Core.Path.{◌≡◌, refl, ap, sym, subst, ◌∙◌}
use Prim.Native.Nat.{ℕ, ◌-◌, ◌≤◌, ◌<◌}
use native.Mathlib.Omega.{arith}
use mathlib.Core.List.{List, [], ◌∷◌}
use mathlib.Core.Bool.{Bool, true, false, not, cond, false≢true}
use lib.ListN.{length, set}
use lib.Dec.{ltb, eqb}
use borrow.Author.Tests.{ne_eqb, not-true, not-false, ltb-true}
use Rattle.std.proofs.lemmas.Bool.{cond_both}
use Rattle.base_status.specs.StatusWords.{is_done}
use Rattle.base_status.specs.Rows.{row, word_of}
use Rattle.base_status.specs.declared.Status.TheVariants.{DataWrong, Done}
use Rattle.base_status.proofs.Tables.{passed}
use Rattle.card_isdp.specs.Sizes.{most_places, eid_size}
use Rattle.card_isdp.specs.Aids.{aid_ok, aid_of, no_aid}
use Rattle.card_isdp.specs.LifeCycle.{selectable, disabled, enabled}
use Rattle.card_isdp.specs.Place.{vacant, held, is_for, place_ok}
use Rattle.card_isdp.specs.declared.Isdp.{Isdp}
use Rattle.card_isdp.proofs.Bools.{and_l, and_r, or_l}
use Rattle.card_isdp.proofs.Placed.{placed}
use Rattle.card_places.specs.Places.{at, is_free}
use Rattle.card_places.proofs.Seeks.{seek-below}
use Rattle.card_places.proofs.Lives.{enable-lives, within}
use Rattle.card_places.proofs.Sets.{all-at}
use Rattle.card_record.specs.Cards.{free_in, is_quiet, place_of, profile_of, free_place, on_fallback, with_phase, cleared}
use Rattle.card_record.specs.Sound.{sound}
use Rattle.card_record.specs.Clock.{tick_in, tick_of, without_network, dropped, confirm_in, confirm_of}
use Rattle.card_record.specs.Steps.{step_to, tick_step, lost_step, confirm_step, gone_in}
use Rattle.card_record.specs.Answers.{accepted}
use Rattle.card_record.specs.Fresh.{zero_card, fresh_card, fresh_ok, fresh_outcome}
use Rattle.card_record.specs.declared.Card.{Card}
use Rattle.card_record.specs.declared.Phase.{Phase}
use Rattle.card_record.specs.declared.Phase.TheVariants.{Quiet, Trial, Back, Fallen}
use Rattle.card_record.proofs.Sounds.{Sound, Phased, parts, nonzero}
use Rattle.card_record.proofs.Outcomes.{took, accepted-card}
use Rattle.card_record.proofs.Freshness.{fresh-sound}
use Rattle.rule_responses.specs.Responses.{deleted_response}
use Rattle.rule_steps.proofs.Rows.{Passed}
use Rattle.rule_steps.specs.Asked.{Act, Act.enable, Act.disable, Act.delete, Act.master_delete, Act.set_fall_back, Act.status, Act.keyed, Act.stored, Act.finished, Act.set_policy, Asked, Asked.unread, Asked.create, Asked.on, Asked.confirm, Asked.status_of_all, Asked.get_data, Asked.tick, Asked.lost}
use Rattle.rule_steps.specs.Steps.{step_of, act_step, response_of, success_of}
use Rattle.rule_steps.proofs.Kept.{Legal}
use Rattle.rule_steps.proofs.Laws.Places.{held-within}
use Rattle.rule_run.specs.Calls.{Call, asked, asked_of}
use Rattle.rule_run.specs.Step.{step, run, work}
use Rattle.rule_run.proofs.Kept.{rows-accepted, legal, step-sound}
use Rattle.rule_run.specs.Inputs.{Inputs, fresh_of}
use Rattle.proof_demands.specs.Said.{said, Exchange, exchanges}
use Rattle.proof_demands.specs.Free.{Made, without, after_confirm, after_act, after_asked, made_after, history, room, first, FreeIsCounted}
use Rattle.rule_run.proofs.Words.{done-as}
use Rattle.rule_run.proofs.Taken.{hands-back, takes_step}
use Rattle.proof_demands.proofs.Others.{tick-lives, lost-lives}
use Rattle.proof_demands.proofs.Tallies.{sum_made, sum_held, Tally, lives-tally, alike-tally, made-weight, create-tally, delete-tally, tally-room, bears-own}

-- no step changes the capacity
module _ (c : Card) where
  abbrev As : Card → Type 0
  As d = d.capacity ≡ c.capacity

  tick-capacity : (p : Phase) → As (tick_in p c)
  tick-capacity Quiet = refl
  tick-capacity (Trial q l n) = cond_both (ltb 1 l) _ _ As (λ b. refl) (λ b. refl)
  tick-capacity (Back l n) = cond_both (ltb 1 l) _ _ As (λ b. refl) (λ b. cond_both (on_fallback c) _ _ As (λ e. refl) (λ e. refl))
  tick-capacity (Fallen l n) = cond_both (ltb 1 l) _ _ As (λ b. refl) (λ b. refl)

  confirm-capacity : (p : Phase) → As (confirm_in p c)
  confirm-capacity Quiet = refl
  confirm-capacity (Trial q l n) = cond_both (dropped c q) _ _ As (λ b. refl) (λ b. refl)
  confirm-capacity (Back l n) = refl
  confirm-capacity (Fallen l n) = refl

  act-capacity : (aid : List ℕ) (a : Act) → As (act_step c aid a).card
  act-capacity aid enable = refl
  act-capacity aid disable = refl
  act-capacity aid delete = refl
  act-capacity aid (master_delete verdict) = refl
  act-capacity aid set_fall_back = refl
  act-capacity aid (status life fallback) = refl
  act-capacity aid keyed = refl
  act-capacity aid (stored n) = refl
  act-capacity aid (finished policy mark) = refl
  act-capacity aid (set_policy policy) = refl

  asks-capacity : (a : Asked) → As (step_of c a).card
  unfolding tick_step lost_step confirm_step tick_of without_network confirm_of
  asks-capacity unread = refl
  asks-capacity (create aid quota) = refl
  asks-capacity (on aid a) = act-capacity aid a
  asks-capacity (confirm number) = confirm-capacity c.phase
  asks-capacity (status_of_all next life fallback) = refl
  asks-capacity get_data = refl
  asks-capacity tick = tick-capacity c.phase
  asks-capacity lost = cond_both (is_quiet c.phase) _ _ As (λ q. cond_both (on_fallback c) _ _ As (λ e. refl) (λ e. refl)) (λ q. refl)

  pub capacity-kept : (call : Call) → As (step c call).card
  capacity-kept call = hands-back c call As (λ e. asks-capacity (asked c call)) refl

-- what an accepted call does to the places it does to the profiles counted
module _ (c : Card) (s : Sound c) (ms : List Made) (t : Tally ms c.places) where
  target-for : (aid : List ℕ) → not (held (profile_of c aid)) ≡ false → is_for aid (profile_of c aid) ≡ true
  target-for aid e = seek-below (is_for aid) c.places (held-within c.places (place_of c aid) (not-false _ e))

  act-tally : (aid : List ℕ) (a : Act) → not (held (profile_of c aid)) ≡ false → Tally (after_act aid a ms) (act_step c aid a).card.places
  act-tally aid enable h = lives-tally ms (enable-lives c.places (place_of c aid)) t
  act-tally aid disable h = lives-tally ms (enable-lives c.places c.fallback) t
  act-tally aid delete h = delete-tally ms c.places (place_of c aid) aid (target-for aid h) s.placed.apart t
  act-tally aid (master_delete verdict) h = delete-tally ms c.places (place_of c aid) aid (target-for aid h) s.placed.apart t
  act-tally aid set_fall_back h = t
  act-tally aid (status life fallback) h = t
  act-tally aid keyed h = alike-tally ms _ c.places (place_of c aid) refl refl t
  act-tally aid (stored n) h = alike-tally ms _ c.places (place_of c aid) refl refl t
  act-tally aid (finished policy mark) h = alike-tally ms _ c.places (place_of c aid) refl refl t
  act-tally aid (set_policy policy) h = alike-tally ms _ c.places (place_of c aid) refl refl t

  -- the response to a confirmation names the profile that it deletes
  gone-named : (p : Isdp) → held p ≡ true → after_confirm (deleted_response p.aid) ms ≡ without (aid_of p) ms
  unfolding deleted_response
  gone-named p h = rw (not-true (eqb p.aid.len 0) h)

  previous-held : (q : ℕ) → (at c.places q).life ≡ disabled → held (at c.places q) ≡ true
  previous-held q h =
      let n = nonzero (at c.places q).life 30 h in
      (placed c.capacity (at c.places q) (ne_eqb _ _ n)
      (all-at (place_ok c.capacity) c.places q (within c.places q n) s.placed.each)).there

  trial-case : (q : ℕ) (b : Bool) → dropped c q ≡ b → (at c.places q).life ≡ disabled → Tally (after_confirm (deleted_response (cond b (at c.places q).aid no_aid)) ms) (cond b (cleared (with_phase c Quiet) q) (with_phase c Quiet)).places
  trial-case q true e h =
      let k = previous-held q h in
      subst (λ l. Tally l (set c.places q vacant)) (sym (gone-named (at c.places q) k))
      (delete-tally ms c.places q (aid_of (at c.places q)) (bears-own (at c.places q) k) s.placed.apart t)
  trial-case q false e h = unfold deleted_response in t

  confirm-tally : (p : Phase) → Phased p c → Tally (after_confirm (deleted_response (gone_in p c)) ms) (confirm_in p c).places
  unfolding deleted_response
  confirm-tally Quiet h = t
  confirm-tally (Trial q l n) h = trial-case q (dropped c q) refl h.1
  confirm-tally (Back l n) h = t
  confirm-tally (Fallen l n) h = t

  asks-tally : (a : Asked) → Legal c a → Passed c a → Tally (after_asked a (response_of c a) ms) (step_of c a).card.places
  unfolding tick_step lost_step confirm_step confirm_of
  asks-tally unread g p = t
  asks-tally (create aid quota) g p =
      let k : free_place c < length c.places = rw s.sizes.full (ltb-true _ _ (not-false _ (or_l (not (ltb (free_place c) most_places)) _ p.room))) in
      create-tally ms c.places (free_place c) aid selectable quota 0 g.named k (not-true _ (seek-below is_free c.places k)) t
  asks-tally (on aid a) g p = act-tally aid a p.target
  asks-tally (confirm number) g p = confirm-tally c.phase s.phased
  asks-tally (status_of_all next life fallback) g p = t
  asks-tally get_data g p = t
  asks-tally tick g p = lives-tally ms (tick-lives c) t
  asks-tally lost g p = lives-tally ms (lost-lives c) t

accepted-response : (c : Card) (a : Asked) → (accepted (success_of c a) (step_of c a) (response_of c a)).response ≡ response_of c a
unfolding accepted
accepted-response c a = refl

-- one call with its answer
abbrev exchanged : Card → Call → Exchange
exchanged c call = record { call = call; answer = said (step c call) }

done-tally : (c : Card) (call : Call) (ms : List Made) (b : Bool) → is_done (step c call).status ≡ b → sound c ≡ true → Tally ms c.places → Tally (cond b (after_asked (asked_of c.capacity call) (step c call).response ms) ms) (step c call).card.places
done-tally c call ms true e s t =
    let p = rows-accepted c call (work c call).success (done-as c call true e) in
    let x = asked c call in
    rw (takes_step c call e, accepted-card (success_of c x) (step_of c x) (response_of c x), accepted-response c x)
    (asks-tally c (parts c s) ms t x (legal c call p.values) p.card)
done-tally c call ms false e s t =
    hands-back c call (λ d. Tally ms d.places) (λ f. absurd (false≢true (sym e ∙ f))) t

pub step-tally : (c : Card) (call : Call) (ms : List Made) → sound c ≡ true → Tally ms c.places → Tally (made_after c.capacity (exchanged c call) ms) (step c call).card.places
step-tally c call ms s t = done-tally c call ms (is_done (step c call).status) refl s t

run-free : (calls : List Call) (c : Card) (capacity : ℕ) (ms : List Made) → c.capacity ≡ capacity → sound c ≡ true → Tally ms c.places → (free_in (run c calls) ≡ capacity - room (history capacity ms (exchanges c calls))) × (room (history capacity ms (exchanges c calls)) ≤ capacity)
unfolding run exchanges history
run-free [] c capacity ms e s t =
    let r = tally-room c.capacity ms c.places (parts c s).placed.each t in
    let q = (parts c s).placed.room in
    (omega arith, omega arith)
run-free (call ∷ calls) c capacity ms e s t =
    run-free calls (step c call).card capacity (made_after capacity (exchanged c call) ms) (capacity-kept c call ∙ e) (step-sound c call s)
    (subst (λ k. Tally (made_after k (exchanged c call) ms) (step c call).card.places) e (step-tally c call ms s t))

-- the card that fresh makes
abbrev card_of : Inputs → Card
card_of x = fresh_card x.eid x.aid x.capacity x.quota x.used x.volatile

fresh-tally : (x : Inputs) → aid_ok x.aid ≡ true → Tally (first x) (card_of x).places
unfolding sum_made sum_held
fresh-tally x ok w = rw (made-weight x.aid enabled x.quota x.used ok w)

pub fresh-is : (x : Inputs) → is_done (fresh_of x).status ≡ true → (aid_ok x.aid ≡ true) × ((fresh_of x).card ≡ card_of x)
unfolding fresh_outcome
fresh-is x h =
    let rows = row (not (fresh_ok x.eid x.aid x.capacity x.quota x.used)) DataWrong ∷ [] in
    let t = took zero_card (word_of Done rows) (step_to zero_card (card_of x) no_aid) [] h in
    let p = passed Done rows refl t.0 in
    let f = and_r (eqb (length x.eid) eid_size) _ (not-false _ p.0) in
    (and_l (aid_ok x.aid) _ f, rw t.1 (accepted-card (word_of Done rows) (step_to zero_card (card_of x) no_aid) []))

pub free-is-counted : FreeIsCounted
free-is-counted x calls h =
    let f = fresh-is x h in
    run-free calls (fresh_of x).card x.capacity (first x) (ap (λ (d : Card). d.capacity) f.1)
    (fresh-sound x.eid x.aid x.capacity x.quota x.used x.volatile h)
    (subst (λ d. Tally (first x) d.places) (sym f.1) (fresh-tally x f.0))
