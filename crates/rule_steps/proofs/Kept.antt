-- Every step keeps a sound card sound: each act by the facts that its passed rows give, and the law of what it does to the card.
-- What the rows do not say, that the values read are legal, is the hypothesis `Legal`.
use mathlib.Core.Path.{◌≡◌, refl, sym}
use Prim.Native.Nat.{ℕ, ◌+◌, ◌≤◌}
use native.Mathlib.Omega.{arith}
use mathlib.Core.List.{List}
use mathlib.Core.Bool.{Bool, true, false, not, ◌&&◌, false≢true, or-true}
use lib.Dec.{ltb, eqb}
use borrow.Author.Tests.{eqb-true, leb-true, ltb-true, not-true, not-false}
use Rattle.card_isdp.specs.Sizes.{most_places}
use Rattle.card_isdp.specs.Aids.{aid_ok}
use Rattle.card_isdp.specs.Policy.{policy_ok}
use Rattle.card_isdp.specs.Provisioning.{mark_ok}
use Rattle.card_isdp.specs.LifeCycle.{disabled, personalized, is_enabled}
use Rattle.card_isdp.proofs.Bools.{and_l, and_r, or_l, or_r}
use Rattle.card_places.specs.Places.{at}
use Rattle.card_record.specs.Cards.{no_place, keeping, forgotten, is_quiet, place_of, profile_of, free_place, free_in, may_be_deleted, cleared}
use Rattle.card_record.specs.Clock.{opened}
use Rattle.card_record.specs.Sound.{kept_ok, sound}
use Rattle.card_record.specs.Steps.{tick_step, lost_step, confirm_step}
use Rattle.card_record.specs.declared.Card.{Card}
use Rattle.card_record.specs.declared.Phase.{Phase}
use Rattle.card_record.specs.declared.Phase.TheVariants.{Quiet, Trial, Back, Fallen}
use Rattle.card_record.proofs.Sounds.{parts, whole, keeps-place, forgets, tick-sound, lost-sound}
use Rattle.card_record.proofs.Deletions.{by-delete-too}
use Rattle.card_record.proofs.Rewrites.{deletes, refalls, confirm-sound}
use Rattle.rule_steps.specs.Asked.{Act, Act.enable, Act.disable, Act.delete, Act.master_delete, Act.set_fall_back, Act.status, Act.keyed, Act.stored, Act.finished, Act.set_policy, Asked, Asked.unread, Asked.create, Asked.on, Asked.confirm, Asked.status_of_all, Asked.get_data, Asked.tick, Asked.lost}
use Rattle.rule_responses.specs.Responses.{next_row_after}
use Rattle.rule_responses.proofs.Parts.{Given, Given.all, Given.some, given}
use Rattle.rule_steps.specs.Steps.{step_of, begins_at, goes_on_at}
use Rattle.rule_steps.proofs.Rows.{Passed}
use Rattle.rule_steps.proofs.Inner.{keyed-at, stored_at, finished-at, policy-at}
use Rattle.rule_steps.proofs.Opens.{opens, fallback-life}
use Rattle.rule_steps.proofs.Creates.{creates}

-- a create's AID and quota keep the sizes
pub record Sizes (c : Card) (aid : List ℕ) (quota : ℕ) : Type 0 where
  pub named : aid_ok aid ≡ true
  pub some : 1 ≤ quota
  pub most : quota ≤ c.capacity

-- the values that a call brings into the card are legal
abbrev pub LegalAct : Act → Type 0
LegalAct enable = Unit {0}
LegalAct disable = Unit {0}
LegalAct delete = Unit {0}
LegalAct (master_delete verdict) = Unit {0}
LegalAct set_fall_back = Unit {0}
LegalAct (status life fallback) = Unit {0}
LegalAct keyed = Unit {0}
LegalAct (stored n) = Unit {0}
LegalAct (finished policy mark) = (policy_ok policy && mark_ok mark) ≡ true
LegalAct (set_policy policy) = policy_ok policy ≡ true

abbrev pub Legal : Card → Asked → Type 0
Legal c unread = Unit {0}
Legal c (create aid quota) = Sizes c aid quota
Legal c (on aid act) = LegalAct act
Legal c (confirm number) = Unit {0}
Legal c (status_of_all next life fallback) = Unit {0}
Legal c get_data = Unit {0}
Legal c tick = Unit {0}
Legal c lost = Unit {0}

-- no change is open
pub quietly : (p : Phase) → not (is_quiet p) ≡ false → p ≡ Quiet
quietly Quiet e = refl
quietly (Trial q l n) e = absurd (false≢true (sym e))
quietly (Back l n) e = absurd (false≢true (sym e))
quietly (Fallen l n) e = absurd (false≢true (sym e))

idle-kept : (c : Card) → sound c ≡ true → sound (forgotten c) ≡ true
idle-kept c s = whole _ (forgets c (parts c s))

-- the place that a part leaves is held, or none is
left-case : (c : Card) (life fallback : Bool) (from : ℕ) (part : List ℕ) (left : ℕ) → Given c life fallback from part left → kept_ok (keeping c left) ≡ true
left-case c life fallback from part left (all e) = refl
left-case c life fallback from part left (some w e) = rw w.there (or-true (eqb left no_place))

pub left-kept : (c : Card) (life fallback : Bool) (from : ℕ) → kept_ok (keeping c (next_row_after c from life fallback)) ≡ true
left-kept c life fallback from = left-case c life fallback from _ _ (given c life fallback from)

module _ (c : Card) (aid : List ℕ) (s : sound c ≡ true) where
  opens_kept : (t : ℕ) → (at c.places t).life ≡ disabled → sound (opened c t) ≡ true
  opens_kept t d = whole _ (opens c t (parts c s) d)

  delete-kept : not (is_quiet c.phase) ≡ false → may_be_deleted c (place_of c aid) ≡ true → sound (cleared c (place_of c aid)) ≡ true
  delete-kept q m = whole _ (deletes c (place_of c aid) (parts c s) (quietly c.phase q) m)

  act-kept : (act : Act) → LegalAct act → Passed c (on aid act) → sound (step_of c (on aid act)).card ≡ true
  act-kept enable h p = opens_kept (place_of c aid) (eqb-true _ _ (not-false _ p.state))
  act-kept disable h p =
      let h = not-false _ p.state in
      opens_kept c.fallback (fallback-life c (place_of c aid) (parts c s) (and_l (is_enabled (profile_of c aid)) _ h) (not-true _ (and_r (is_enabled (profile_of c aid)) _ h)))
  act-kept delete h p = delete-kept p.change (not-false _ p.state)
  act-kept (master_delete verdict) h p = delete-kept p.change (by-delete-too c (place_of c aid) (not-false _ p.state))
  act-kept set_fall_back h p = whole _ (refalls c (place_of c aid) (parts c s) (quietly c.phase p.change) (not-false _ p.state))
  act-kept (status life fallback) h p = idle-kept c s
  act-kept keyed h p = whole _ (keyed-at c (place_of c aid) (parts c s) (eqb-true _ _ (not-false _ p.state)))
  act-kept (stored n) h p =
      whole _ (stored_at c (place_of c aid) ((profile_of c aid).used + n) (parts c s) (eqb-true _ _ (not-false _ p.state)) (not-false _ p.room))
  act-kept (finished policy mark) h p =
      whole _ (finished-at c (place_of c aid) policy mark (parts c s) (eqb-true _ _ (and_l (eqb (profile_of c aid).life personalized) _ (not-false _ p.state))) (and_l _ _ h) (and_r (policy_ok policy) _ h))
  act-kept (set_policy policy) h p = whole _ (policy-at c (place_of c aid) policy (parts c s) (quietly c.phase p.change) (eqb-true _ _ (not-false _ p.state)) h)

  create-kept : (quota : ℕ) → Sizes c aid quota → Passed c (create aid quota) → sound (step_of c (create aid quota)).card ≡ true
  create-kept quota h p =
      let w = parts c s in
      let f = w.sizes.full in
      let k = ltb-true (free_place c) most_places (not-false _ (or_l (not (ltb (free_place c) most_places)) _ p.room)) in
      let q = leb-true quota (free_in c) (not-false _ (or_r (not (ltb (free_place c) most_places)) _ p.room)) in
      whole _ (creates c aid quota w (quietly c.phase p.change) h.named h.some q p.already (omega arith))

-- "keeps": the card after every accepted call is sound
pub step_kept : (c : Card) (a : Asked) → Legal c a → sound c ≡ true → Passed c a → sound (step_of c a).card ≡ true
unfolding tick_step lost_step confirm_step
step_kept c unread h s p = idle-kept c s
step_kept c (create aid quota) h s p = create-kept c aid s quota h p
step_kept c (on aid act) h s p = act-kept c aid s act h p
step_kept c (confirm number) h s p = confirm-sound c s
step_kept c (status_of_all next life fallback) h s p = whole _ (keeps-place c (goes_on_at c next life fallback) (parts c s) (left-kept c life fallback (begins_at c next)))
step_kept c get_data h s p = idle-kept c s
step_kept c tick h s p = tick-sound c s
step_kept c lost h s p = lost-sound c s
