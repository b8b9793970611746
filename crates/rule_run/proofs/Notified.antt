-- Every answer is a refusal, which hands nothing out, or a step. What tick, lost, the confirmation and an opening tell is card's law; every
-- other step rewrites a place that is not enabled, or the policy of one, or no place. By what is asked, with the facts of the passed rows. Assumes nothing.
use mathlib.Core.Path.{◌≡◌, refl, ap, ◌∙◌}
use Prim.Native.Nat.{ℕ, ◌<◌}
use mathlib.Core.List.{List}
use mathlib.Core.Bool.{Bool, true, false, not}
use lib.ListN.{set, length}
use lib.Dec.{ltb, eqb}
use borrow.Author.Tests.{eqb-true, ltb-true, not-true, not-false}
use Rattle.base_status.specs.StatusWords.{is_done}
use Rattle.base_status.specs.declared.Status.{Status}
use Rattle.card_isdp.specs.Sizes.{most_places}
use Rattle.card_isdp.specs.Aids.{no_aid}
use Rattle.card_isdp.specs.LifeCycle.{selectable, personalized, enabled, is_enabled, with_policy}
use Rattle.card_isdp.specs.Place.{vacant, made, held, place_ok}
use Rattle.card_isdp.specs.declared.Isdp.{Isdp}
use Rattle.card_isdp.proofs.Bools.{and_l, or_l}
use Rattle.card_isdp.proofs.Placed.{vacant-is}
use Rattle.card_places.specs.Places.{at, seek, is_free}
use Rattle.card_places.proofs.Seeks.{seek-below}
use Rattle.card_places.proofs.Sets.{all-at, set-unseen, set-seek}
use Rattle.card_record.specs.Cards.{no_place, keeping, place_of, profile_of, free_place, enabled_aid, may_be_deleted, with_room, rewritten, with_fallback}
use Rattle.card_record.specs.Sound.{sound}
use Rattle.card_record.specs.Noticed.{Noticed, silently, announced}
use Rattle.card_record.specs.Steps.{step_to}
use Rattle.card_record.specs.Answers.{accepted}
use Rattle.card_record.specs.declared.Card.{Card}
use Rattle.card_record.specs.declared.Step.{Step}
use Rattle.card_record.proofs.Sounds.{parts}
use Rattle.card_record.proofs.Deletions.{deletable, by-delete-too}
use Rattle.card_record.proofs.Noticed.{found-kept, unmoved, steps-noticed}
use Rattle.rule_steps.proofs.Rows.{Passed}
use Rattle.rule_steps.specs.Asked.{Act, Act.enable, Act.disable, Act.delete, Act.master_delete, Act.set_fall_back, Act.status, Act.keyed, Act.stored, Act.finished, Act.set_policy, Asked, Asked.unread, Asked.create, Asked.on, Asked.confirm, Asked.status_of_all, Asked.get_data, Asked.tick, Asked.lost}
use Rattle.rule_steps.specs.Steps.{goes_on_at, step_of, response_of}
use Rattle.rule_run.specs.Calls.{Call, asked}
use Rattle.rule_run.specs.Step.{step}
use Rattle.rule_run.specs.Notified.{Notified, CallsNotify}
use Rattle.rule_run.proofs.Taken.{card-passed, takes_step, refusal}
use Rattle.rule_run.proofs.Words.{done-as}

-- an accepted step is told as the step is
retold : (c : Card) (w : Status) (s : Step) (response : List ℕ) → Noticed c s → Notified c (accepted w s response)
unfolding accepted
retold c w s response (silently x) = silently (record { none = x.none; same-profile = x.same-profile; same_number = x.same_number })
retold c w s response (announced x) = announced (record { phase = x.phase; number = x.number; last = x.last; eid = x.eid; profile = x.profile })

module _ (c : Card) (s : sound c ≡ true) where
  -- a place of another life cycle is not enabled
  other-life : (i v : ℕ) → eqb v enabled ≡ false → (at c.places i).life ≡ v → is_enabled (at c.places i) ≡ false
  other-life i v n e = rw e n

  -- one place that is not enabled is rewritten, and is not enabled then; whatever is free
  rewrites : (i : ℕ) (x : Isdp) {free : ℕ} → is_enabled x ≡ false → is_enabled (at c.places i) ≡ false → Noticed c (step_to c (with_room c free (set c.places i x)) no_aid)
  rewrites i x e f = unmoved c _ no_aid refl (ap (λ (p : Isdp). p.aid) (found-kept x e c.places i f))

  -- one place is rewritten with its AID, enabled or not as it was
  restates : (i : ℕ) (x : Isdp) → is_enabled x ≡ is_enabled (at c.places i) → x.aid ≡ (at c.places i).aid → Noticed c (step_to c (rewritten c i x) no_aid)
  restates i x e n =
      let l = c.places in
      unmoved c _ no_aid refl (ap (λ (j : ℕ). (at (set l i x) j).aid) (set-seek is_enabled x l i e) ∙ set-unseen (λ p. p.aid) x l i n (seek is_enabled l))

  -- only the kept place is new
  idle : (i : ℕ) → Noticed c (step_to c (keeping c i) no_aid)
  idle i = unmoved c (keeping c i) no_aid refl refl

  -- a free place is not enabled
  free_off : (i : ℕ) → i < length c.places → held (at c.places i) ≡ false → is_enabled (at c.places i) ≡ false
  free_off i k h =
      other-life i 0 refl (ap (λ (p : Isdp). p.life) (vacant-is c.capacity (at c.places i) h (all-at (place_ok c.capacity) c.places i k (parts c s).placed.each)))

  -- nor is one that may be deleted
  gone-off : (aid : List ℕ) → may_be_deleted c (place_of c aid) ≡ true → is_enabled (profile_of c aid) ≡ false
  gone-off aid e = (deletable c (place_of c aid) e).off

  acts : (aid : List ℕ) (act : Act) → Passed c (on aid act) → Noticed c (step_of c (on aid act))
  acts aid enable p = steps-noticed.opening c (place_of c aid) s
  acts aid disable p = steps-noticed.opening c c.fallback s
  acts aid delete p = rewrites (place_of c aid) vacant refl (gone-off aid (not-false _ p.state))
  acts aid (master_delete verdict) p = rewrites (place_of c aid) vacant refl (gone-off aid (by-delete-too c (place_of c aid) (not-false _ p.state)))
  acts aid set_fall_back p = unmoved c (with_fallback c (place_of c aid)) no_aid refl refl
  acts aid (status life fallback) p = idle no_place
  acts aid keyed p =
      rewrites (place_of c aid) _ refl (other-life (place_of c aid) selectable refl (eqb-true _ _ (not-false _ p.state)))
  acts aid (stored n) p =
      let e = other-life (place_of c aid) personalized refl (eqb-true _ _ (not-false _ p.state)) in
      rewrites (place_of c aid) _ e e
  acts aid (finished policy mark) p =
      rewrites (place_of c aid) _ refl (other-life (place_of c aid) personalized refl (eqb-true _ _ (and_l (eqb (profile_of c aid).life personalized) _ (not-false _ p.state))))
  acts aid (set_policy policy) p = restates (place_of c aid) (with_policy (profile_of c aid) policy) refl refl

  asks : (a : Asked) → Passed c a → Noticed c (step_of c a)
  asks unread p = idle no_place
  asks (create aid quota) p =
      let k : free_place c < length c.places = rw (parts c s).sizes.full (ltb-true _ _ (not-false _ (or_l (not (ltb (free_place c) most_places)) _ p.room))) in
      rewrites (free_place c) (made aid selectable quota 0) refl (free_off (free_place c) k (not-true _ (seek-below is_free c.places k)))
  asks (on aid act) p = acts aid act p
  asks (confirm number) p = steps-noticed.confirmation c s
  asks (status_of_all next life fallback) p = idle (goes_on_at c next life fallback)
  asks get_data p = idle no_place
  asks tick p = steps-noticed.tick c s
  asks lost p = steps-noticed.lost c s

  call-case : (call : Call) (b : Bool) → is_done (step c call).status ≡ b → Notified c (step c call)
  call-case call true e =
      rw (takes_step c call e) (retold c _ (step_of c (asked c call)) (response_of c (asked c call)) (asks (asked c call) (card-passed c call (done-as c call true e))))
  call-case call false e =
      let r = refusal c call e in
      silently (record { none = r.no-notification; same-profile = ap enabled_aid r.same-card; same_number = ap (λ (d : Card). d.last) r.same-card })

pub calls-notify : CallsNotify
calls-notify c call s = call-case c s call (is_done (step c call).status) refl
