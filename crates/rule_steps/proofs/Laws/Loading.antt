-- Keyed, stored and finished: a held AID has 5 to 16 bytes, so that the rows are the law's conditions; the profile was not enabled and is
-- not, so the clock runs on. Assumes nothing.
use mathlib.Core.Path.{◌≡◌, refl, sym, ap, ◌∙◌}
use Prim.Native.Nat.{ℕ, ◌+◌, ◌≤◌, ◌<◌}
use native.Mathlib.Omega.{arith}
use mathlib.Core.List.{List, []}
use mathlib.Core.Bool.{true, false, not, ◌&&◌}
use lib.ListN.{length, take, set, length-take}
use lib.Dec.{ltb, eqb}
use borrow.Author.Tests.{eqb-true, leb-true, leb-false, le-leb, lt-leb, ltb-true, lt-ltb, not-true, not-false}
use Rattle.base_status.specs.declared.Status.TheVariants.{DataWrong, StateWrong, NoRoom, Done}
use Rattle.card_isdp.specs.Sizes.{least_aid, most_aid}
use Rattle.card_isdp.specs.Policy.{policy_ok}
use Rattle.card_isdp.specs.Aids.{aid_ok, aid_of, no_aid}
use Rattle.card_isdp.specs.LifeCycle.{selectable, personalized, disabled, enabled, is_enabled, with_life, with_used, with_policy, with_mark, finish}
use Rattle.card_isdp.specs.Provisioning.{mark_ok}
use Rattle.card_isdp.specs.declared.Isdp.{Isdp}
use Rattle.card_isdp.proofs.Bools.{and_l, and_r}
use Rattle.card_isdp.proofs.Placed.{Placed}
use Rattle.card_places.specs.Places.{at}
use Rattle.card_places.proofs.Sets.{set-unseen}
use Rattle.card_record.specs.Cards.{place_of, profile_of, with_places}
use Rattle.card_record.specs.Sound.{sound}
use Rattle.card_record.specs.Steps.{step_to}
use Rattle.card_record.specs.Ticks.{ticks_in, ticks_by_phase}
use Rattle.card_record.specs.Answers.{accepted, outcome}
use Rattle.card_record.specs.declared.Card.{Card}
use Rattle.card_record.specs.declared.Phase.{Phase}
use Rattle.card_record.specs.declared.Phase.TheVariants.{Quiet, Trial, Back, Fallen}
use Rattle.card_record.proofs.Counts.{counted}
use Rattle.card_record.proofs.Sounds.{Sound, parts, whole}
use Rattle.rule_steps.specs.Asked.{Act.keyed, Act.stored, Act.finished}
use Rattle.rule_steps.specs.Steps.{inner_work}
use Rattle.rule_steps.proofs.Inner.{parted, keyed-at, stored_at, finished-at}
use Rattle.rule_steps.specs.Laws.Answer.{profile_at, Holds}
use Rattle.rule_steps.specs.Laws.Words.{InThisOrder, FiveToSixteen}
use Rattle.rule_steps.specs.Laws.Loading.{Loaded, keyed_rows, stored_rows, finished_rows, MayStore, MayFinish, KeyedLaw, StoredLaw, FinishedLaw}
use Rattle.rule_steps.proofs.Laws.Places.{held-within}
use Rattle.rule_steps.proofs.Laws.Answer.{inner-law, held-passes, rewrites}
use Rattle.rule_steps.proofs.Laws.Words.{by_rows, no_more, skip, by-unless, sized-when, sized-only, legal-when, legal-only, is_held, target-unless, target-when, in-state}

-- the clock looks at no place but whether the fall-back is enabled
clock-case : (c : Card) (l : List Isdp) (p : Phase) → is_enabled (at l c.fallback) ≡ is_enabled (profile_at c c.fallback) → ticks_in p (with_places c l) ≡ ticks_in p c
clock-case c l Quiet e = refl
clock-case c l (Trial previous left n) e = refl
clock-case c l (Back left n) e = rw e
clock-case c l (Fallen left n) e = refl

module _ (c : Card) (t : ℕ) (x : Isdp) (held_in : t < length c.places) (w : is_enabled x ≡ is_enabled (profile_at c t)) (s : Sound (with_places c (set c.places t x))) where
  clock : ticks_by_phase (with_places c (set c.places t x)) ≡ ticks_by_phase c
  unfolding ticks_by_phase
  clock = clock-case c (set c.places t x) c.phase (set-unseen is_enabled x c.places t w c.fallback)

  loads : Loaded c (λ i. x) t (accepted Done (step_to c (with_places c (set c.places t x)) no_aid) [])
  loads = rewrites c t x c.free [] (ticks_by_phase c) held_in (counted (with_places c (set c.places t x)) (whole _ s) ∙ clock)

-- the AID of a place that keeps the sizes
aid-length : (n : ℕ) (l : List ℕ) → n ≤ length l → length (take n l) ≡ n
aid-length n l h = length-take n l ∙ omega arith

sized : (k : ℕ) (p : Isdp) → Placed k p → aid_ok (aid_of p) ≡ true
sized k p h =
    let a = leb-true least_aid p.aid.len h.five in
    let b = leb-true p.aid.len most_aid h.sixteen in
    let n = h.wide in
    rw (aid-length p.aid.len p.aid.bytes (omega arith), h.five, h.sixteen)

module _ (c : Card) (aid : List ℕ) (s : sound c ≡ true) where
  abbrev t : ℕ
  t = place_of c aid

  pub aid-ok : (v : ℕ) → Holds c aid t → (profile_at c t).life ≡ v → eqb v 0 ≡ false → aid_ok aid ≡ true
  aid-ok v h e n = rw (← h.named) (sized c.capacity (profile_at c t) (parted c t v (parts c s) e n))

  pub inside : Holds c aid t → t < length c.places
  inside h = held-within c.places t h.held-there

  off : (v : ℕ) → (profile_at c t).life ≡ v → eqb v enabled ≡ false → is_enabled (profile_at c t) ≡ false
  off v e n = rw e n

keyed-refused : (c : Card) (aid : List ℕ) → sound c ≡ true → InThisOrder (keyed_rows c aid) (outcome c (inner_work c aid keyed)).status
keyed-refused c aid s =
    by_rows c (inner_work c aid keyed) s (keyed_rows c aid)
    (by-unless (aid_ok aid) DataWrong (sized-when aid) (sized-only aid) λ v. skip (is_held c aid s λ h.
    in-state c aid s selectable h λ e. skip (skip (skip (no_more refl)))))

pub keyed-law : KeyedLaw
keyed-law c aid s =
    let i = place_of c aid in
    record {
      taken =
          inner-law c aid keyed (λ j. (profile_at c j).life ≡ selectable) (Loaded c (λ j. with_life (profile_at c j) personalized)) s
          (λ v p. eqb-true _ _ (not-false _ p.state))
          (λ h m. (
            ap not (aid-ok c aid s selectable h m refl),
            held-passes c aid keyed h refl (rw m) refl refl refl,
            loads c i (with_life (profile_at c i) personalized) (inside c aid s h) (sym (off c aid s selectable m refl)) (keyed-at c i (parts c s) m),
          ));
      refused = keyed-refused c aid s;
    }

stored_refused : (c : Card) (aid : List ℕ) (n : ℕ) → sound c ≡ true → InThisOrder (stored_rows c aid n) (outcome c (inner_work c aid (stored n))).status
stored_refused c aid n s =
    by_rows c (inner_work c aid (stored n)) s (stored_rows c aid n)
    (by-unless (aid_ok aid) DataWrong (sized-when aid) (sized-only aid) λ v. skip (is_held c aid s λ h.
    in-state c aid s personalized h λ e. skip (skip (target-when c aid s (λ j. (profile_at c j).quota < (profile_at c j).used + n) NoRoom h
    (λ o. ap not (lt-leb _ _ o)) (λ o. leb-false _ _ (not-true _ o)) λ f. no_more refl))))

pub stored-law : StoredLaw
stored-law c aid n s =
    let i = place_of c aid in
    let p = profile_of c aid in
    record {
      taken =
          inner-law c aid (stored n) (MayStore c n) (Loaded c (λ j. with_used (profile_at c j) ((profile_at c j).used + n))) s
          (λ v r. record { is-personalized = eqb-true _ _ (not-false _ r.state); fits = leb-true (p.used + n) p.quota (not-false _ r.room) })
          (λ h m.
          let e = m.is-personalized in
          let f = le-leb (p.used + n) p.quota m.fits in (
            ap not (aid-ok c aid s personalized h e refl),
            held-passes c aid (stored n) h refl (rw e) refl refl (ap not f),
            loads c i (with_used p (p.used + n)) (inside c aid s h) refl (stored_at c i (p.used + n) (parts c s) e f),
          ));
      refused = stored_refused c aid n s;
    }

-- finished's two tests by their parts
values : (aid : List ℕ) (policy mark : ℕ) → (aid_ok aid && (policy_ok policy && mark_ok mark)) ≡ true → FiveToSixteen aid × (policy ≤ 4) × (mark ≤ 1)
values aid policy mark v =
    let b = and_r (aid_ok aid) _ v in
    (sized-only aid (and_l _ _ v), legal-only policy (and_l _ _ b), leb-true mark 1 (and_r (policy_ok policy) _ b))

stocked : (p : Isdp) → (eqb p.life personalized && ltb 0 p.used) ≡ true → (p.life ≡ personalized) × (0 < p.used)
stocked p a =
    (eqb-true _ _ (and_l (eqb p.life personalized) _ a), ltb-true 0 p.used (and_r (eqb p.life personalized) _ a))

finished-refused : (c : Card) (aid : List ℕ) (policy mark : ℕ) → sound c ≡ true → InThisOrder (finished_rows c aid policy mark) (outcome c (inner_work c aid (finished policy mark))).status
finished-refused c aid policy mark s =
    by_rows c (inner_work c aid (finished policy mark)) s (finished_rows c aid policy mark)
    (by-unless _ DataWrong (λ x. rw (sized-when aid x.0, legal-when policy x.1, le-leb mark 1 x.2)) (values aid policy mark) λ v. skip (is_held c aid s λ h.
    target-unless c aid s (λ j. ((profile_at c j).life ≡ personalized) × (0 < (profile_at c j).used)) _ StateWrong h
    (λ x. rw (x.0, lt-ltb 0 (profile_of c aid).used x.1)) (stocked (profile_of c aid)) λ x. skip (skip (skip (no_more refl)))))

pub finished-law : FinishedLaw
finished-law c aid policy mark s =
    let i = place_of c aid in
    let p = profile_of c aid in
    record {
      taken =
          inner-law c aid (finished policy mark) (MayFinish c policy mark) (Loaded c (λ j. with_mark (with_policy (with_life (profile_at c j) disabled) policy) mark)) s
          (λ v r.
          let b = values aid policy mark (not-false _ v) in
          let a = stocked p (not-false _ r.state) in
          record { legal = legal-when policy b.1; zero-or-one = b.2; is-personalized = a.0; used-over-0 = a.1 })
          (λ h m.
          let e = m.is-personalized in
          let o = le-leb mark 1 m.zero-or-one in (
            rw (aid-ok c aid s personalized h e refl, m.legal, o),
            held-passes c aid (finished policy mark) h refl (rw (e, lt-ltb 0 p.used m.used-over-0)) refl refl refl,
            loads c i (finish p policy mark) (inside c aid s h) (sym (off c aid s personalized e refl)) (finished-at c i policy mark (parts c s) e m.legal o),
          ));
      refused = finished-refused c aid policy mark s;
    }
