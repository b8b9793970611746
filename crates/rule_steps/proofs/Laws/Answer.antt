-- Where a call is taken its answer is its step's, and each kind of step that stands in the laws has the answer that they tell: a place set
-- anew, another phase, a profile enabled over another, nothing. Assumes nothing.
use mathlib.Core.Path.{◌≡◌, refl, sym, ap, subst, ◌∙◌}
use Prim.Native.Nat.{ℕ, ◌+◌, ◌<◌}
use native.Mathlib.Omega.{arith}
use mathlib.Core.List.{List, [], ◌∷◌}
use mathlib.Core.Bool.{Bool, true, false, not, cond}
use lib.ListN.{length, set, length-set}
use lib.Dec.{eqb}
use borrow.Author.Tests.{eqb-true, eq-eqb, ne_eqb, not-false}
use Rattle.base_status.specs.StatusWords.{is_done}
use Rattle.base_status.specs.Rows.{word_of}
use Rattle.base_status.specs.declared.Status.{Status}
use Rattle.base_status.specs.declared.Status.TheVariants.{Done}
use Rattle.base_status.proofs.Tables as rows
use Rattle.base_status.proofs.Tables.{proper, passed, no_row}
use Rattle.card_isdp.specs.Sizes.{last_number}
use Rattle.card_isdp.specs.Aids.{no_aid}
use Rattle.card_isdp.specs.LifeCycle.{is_enabled}
use Rattle.card_isdp.specs.declared.Aid.{Aid}
use Rattle.card_isdp.specs.declared.Isdp.{Isdp}
use Rattle.card_places.specs.Places.{at, seek, enable_at}
use Rattle.card_places.proofs.Lives.{enable-lives, lives_at, lives-length, enable-at, enable-one}
use Rattle.card_places.proofs.Seeks.{enabled-at}
use Rattle.card_places.proofs.Numbered.{only}
use Rattle.card_record.specs.Cards.{no_place, keeping, forgotten, place_of, in_state, with_room, with_phase}
use Rattle.card_record.specs.Clock.{next_number, switched}
use Rattle.card_record.specs.Sound.{kept_ok, sound}
use Rattle.card_record.specs.Steps.{step_to}
use Rattle.card_record.specs.Ticks.{steps_in, ticks_to_come, ticks_in, ticks_by_phase}
use Rattle.card_record.specs.Notifications.{notice_kind, silent, notice_since}
use Rattle.card_record.specs.Answers.{Outcome, Work, accepted, settle, sound_row, outcome}
use Rattle.card_record.specs.declared.Card.{Card}
use Rattle.card_record.specs.declared.Phase.{Phase}
use Rattle.card_record.specs.declared.Phase.TheVariants.{Quiet, Trial, Back, Fallen}
use Rattle.card_record.proofs.Counts.{counted}
use Rattle.card_record.proofs.Noticed.{unissued}
use Rattle.card_record.proofs.Outcomes.{took}
use Rattle.card_record.proofs.Sounds.{Sound, parts, whole, keeps-place}
use Rattle.rule_steps.specs.Asked.{Act, Asked, Asked.on}
use Rattle.rule_steps.specs.Conditions.{inner_wrong, change_wrong, state_wrong, policy_forbids, verdict_wrong, no_room, card_rows}
use Rattle.rule_steps.specs.Steps.{act_step, act_response, step_of, response_of, success_of, asked_work, inner_work}
use Rattle.rule_steps.specs.Laws.Answer.{Result, profile_at, Holds, Enabled, Answers, Still, OnPlace, only_at, replaced, rephased, entered}
use Rattle.rule_steps.proofs.Rows.{Passed, named}
use Rattle.rule_steps.proofs.Laws.Places.{place_is, holds, set-places, trade-places}

-- a call is taken exactly where its rows pass
module _ (c : Card) (w : Work) where
  work-passed : proper w.rows ≡ true → is_done (outcome c w).status ≡ true → rows.Passed w.rows
  work-passed p e =
      (passed w.success (sound_row c ∷ w.rows) p (took c (word_of w.success (sound_row c ∷ w.rows)) w.step w.response e).0).1

  step-taken : (word : Status) → is_done word ≡ true → sound c ≡ true → w.success ≡ word → rows.Passed w.rows → outcome c w ≡ accepted word w.step w.response
  step-taken word q s d p =
      ap (λ (x : Status). settle c x w.step w.response) (no_row w.success (sound_row c ∷ w.rows) (ap not s, p) ∙ d) ∙ rw q

module _ (c : Card) (a : Asked) where
  pub asked-passed : is_done (outcome c (asked_work c a)).status ≡ true → Passed c a
  asked-passed e = named c a (work-passed c (asked_work c a) refl e)

  unnamed : Passed c a → rows.Passed (card_rows c a)
  unnamed p = (p.change, (p.target, (p.already, (p.state, (p.policy, (p.verdict, (p.room, tt)))))))

  -- with its word of success
  pub asked-taken-as : (word : Status) → is_done word ≡ true → success_of c a ≡ word → sound c ≡ true → Passed c a → outcome c (asked_work c a) ≡ accepted word (step_of c a) (response_of c a)
  asked-taken-as word q d s p = step-taken c (asked_work c a) word q s d (unnamed p)

  pub asked-taken : success_of c a ≡ Done → sound c ≡ true → Passed c a → outcome c (asked_work c a) ≡ accepted Done (step_of c a) (response_of c a)
  asked-taken d s p = asked-taken-as Done refl d s p

-- a call on one target: its rows ask that the AID is held, so its place is the one that the search finds
module _ (c : Card) (aid : List ℕ) (act : Act) (May : ℕ → Type 0) (Answered : ℕ → Outcome → Type 0) (s : sound c ≡ true) where
  abbrev t : ℕ
  t = place_of c aid

  target : (o : Outcome) → (is_done o.status ≡ true → Passed c (on aid act) × May t) → (Holds c aid t → May t → Answered t o) → OnPlace (Holds c aid) May Answered o
  target o f g =
      record {
        some-place = λ e. (t, holds c aid (not-false _ (f e).0.target));
        exactly =
            λ i h.
            let q = place_is c aid i (parts c s) h in
            record {
              only-where = λ e. subst May q (f e).1;
              where-may = λ m. subst (λ (j : ℕ). Answered j o) q (g (subst (Holds c aid) (sym q) h) (subst May (sym q) m));
            };
      }

  -- the law of a command, from its rows: they pass exactly where the law allows it
  pub command-law : (Passed c (on aid act) → May t) → (Holds c aid t → May t → Passed c (on aid act) × Answered t (accepted Done (act_step c aid act) (act_response c aid act))) → OnPlace (Holds c aid) May Answered (outcome c (asked_work c (on aid act)))
  command-law f g =
      target (outcome c (asked_work c (on aid act))) (λ e. let p = asked-passed c (on aid act) e in (p, f p))
      (λ h m. let r = g h m in subst (Answered t) (sym (asked-taken c (on aid act) refl s r.0)) r.1)

  -- of an inner call: the row of its values stands before them
  pub inner-law : (inner_wrong aid act ≡ false → Passed c (on aid act) → May t) → (Holds c aid t → May t → (inner_wrong aid act ≡ false) × Passed c (on aid act) × Answered t (accepted Done (act_step c aid act) (act_response c aid act))) → OnPlace (Holds c aid) May Answered (outcome c (inner_work c aid act))
  inner-law f g =
      target (outcome c (inner_work c aid act))
      (λ e. let r = work-passed c (inner_work c aid act) refl e in let p = named c (on aid act) r.1 in (p, f r.0 p))
      (λ h m. let r = g h m in subst (Answered t) (sym (step-taken c (inner_work c aid act) Done refl s refl (r.0, unnamed c (on aid act) r.1))) r.2)

-- the rows of a call whose target is held
pub held-passes : (c : Card) (aid : List ℕ) (act : Act) → Holds c aid (place_of c aid) → change_wrong c (on aid act) ≡ false → state_wrong c (on aid act) ≡ false → policy_forbids c (on aid act) ≡ false → verdict_wrong (on aid act) ≡ false → no_room c (on aid act) ≡ false → Passed c (on aid act)
held-passes c aid act h change state policy verdict room =
    record { change = change; target = ap not h.held-there; already = refl; state = state; policy = policy; verdict = verdict; room = room }

-- no number, no notification
pub no-notice : (c d : Card) → d.last ≡ c.last → notice_since c.last d ≡ silent
no-notice c d e = unissued c.last d e

-- in Quiet nothing is to come
pub none-to-come : (c : Card) → c.phase ≡ Quiet → ticks_to_come c ≡ 0
unfolding ticks_to_come steps_in
none-to-come c e = rw e

-- the answer of a step: the places, the notification and the ticks are left to show
abbrev after : Card → Result → List Isdp → Card
after c r l = in_state c r.free r.last r.fallback r.phase l

pub answers : (c : Card) (r : Result) (l : List Isdp) (gone : Aid) → length l ≡ length c.places → ((i : ℕ) → at l i ≡ r.place i) → notice_since c.last (after c r l) ≡ r.notification → ticks_to_come (after c r l) ≡ r.ticks → Answers c r (accepted Done (step_to c (after c r l) gone) r.response)
unfolding accepted
answers c r l gone m f n q =
    record {
      status = refl;
      eid = refl;
      capacity = refl;
      volatile = refl;
      free = refl;
      last = refl;
      fallback = refl;
      phase = refl;
      forgets = refl;
      as_many = m;
      places = f;
      response = refl;
      notification = n;
      ticks = q;
    }

-- the ticks to come ask nothing of the kept place
ticks-unkept : (c : Card) (i : ℕ) (p : Phase) → ticks_in p (keeping c i) ≡ ticks_in p c
ticks-unkept c i Quiet = refl
ticks-unkept c i (Trial previous left number) = refl
ticks-unkept c i (Back left number) = refl
ticks-unkept c i (Fallen left number) = refl

module _ (c : Card) where
  -- only the kept place is new: the ticks are those of the card as it was
  pub same-ticks : (i : ℕ) → Sound c → kept_ok (keeping c i) ≡ true → ticks_to_come (keeping c i) ≡ ticks_by_phase c
  unfolding ticks_by_phase
  same-ticks i s k = counted (keeping c i) (whole _ (keeps-place c i s k)) ∙ ticks-unkept c i c.phase

  pub still : (bytes : List ℕ) → sound c ≡ true → Still c bytes (accepted Done (step_to c (forgotten c) no_aid) bytes)
  unfolding accepted
  still bytes s =
      record { status = refl; card = refl; response = refl; notification = no-notice c (forgotten c) refl; ticks = same-ticks no_place (parts c s) refl }

  pub rewrites : (t : ℕ) (p : Isdp) (free : ℕ) (bytes : List ℕ) (ticks : ℕ) → t < length c.places → ticks_to_come (with_room c free (set c.places t p)) ≡ ticks → Answers c (replaced c free (only_at c t p) bytes ticks) (accepted Done (step_to c (with_room c free (set c.places t p)) no_aid) bytes)
  rewrites t p free bytes ticks h q =
      answers c (replaced c free (only_at c t p) bytes ticks) (set c.places t p) no_aid (length-set c.places t p) (set-places c t p h) (no-notice c (with_room c free (set c.places t p)) refl) q

  pub rephases : (p : Phase) (ticks : ℕ) → ticks_to_come (with_phase c p) ≡ ticks → Answers c (rephased c p ticks) (accepted Done (step_to c (with_phase c p) no_aid) [])
  rephases p ticks q = answers c (rephased c p ticks) c.places no_aid refl (λ i. refl) (no-notice c (with_phase c p) refl) q

-- the next number is another one
new-case : (n : ℕ) (b : Bool) → eqb n last_number ≡ b → cond b 0 (n + 1) ≡ n → ⊥
new-case n true e q = let h = eqb-true n last_number e in omega arith
new-case n false e q = omega arith

new-number : (n : ℕ) → eqb (next_number n) n ≡ false
new-number n = ne_eqb _ _ (new-case n (eqb n last_number) refl)

module _ (c : Card) (t : ℕ) (h : t < length c.places) where
  found : seek is_enabled (enable_at c.places t) ≡ t
  found =
      let one = enable-one c.places t h in
      only (enable_at c.places t) (seek is_enabled (enable_at c.places t)) t one (enabled-at (enable_at c.places t) one) (eq-eqb _ _ (enable-at c.places t h))

  same-aid : (at (enable_at c.places t) t).aid ≡ (profile_at c t).aid
  same-aid = ap (λ (p : Isdp). p.aid) (lives_at (enable-lives c.places t) t)

  notice : (p : Phase) → notice_since c.last (switched c t p) ≡ record { kind = notice_kind p; number = next_number c.last; eid = c.eid; aid = (profile_at c t).aid }
  unfolding notice_since
  notice p =
      rw (new-number c.last)
      (ap (λ (a : Aid). record { kind = notice_kind p; number = next_number c.last; eid = c.eid; aid = a }) (ap (λ (i : ℕ). (at (enable_at c.places t) i).aid) found ∙ same-aid))

  pub enters : (e : ℕ) (p : Phase) (ticks : ℕ) → Sound c → Enabled c e → ticks_to_come (switched c t p) ≡ ticks → Answers c (entered c e t p (notice_kind p) ticks) (accepted Done (step_to c (switched c t p) no_aid) [])
  enters e p ticks s v q =
      answers c (entered c e t p (notice_kind p) ticks) (enable_at c.places t) no_aid (lives-length (enable-lives c.places t)) (trade-places c e t s v h) (notice p) q
