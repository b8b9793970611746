-- Create: the search for a free place ends at the lowest one, an AID that no place holds is not found, and in Quiet nothing is to come.
-- By induction over the places. Assumes nothing.
use mathlib.Core.Path.{◌≡◌, refl, sym, ap, subst, ◌∙◌}
use Prim.Native.Nat.{ℕ, zero, suc, ◌-◌, ◌<◌}
use native.Mathlib.Omega.{arith}
use mathlib.Core.List.{List, [], ◌∷◌}
use mathlib.Core.Logic.{◌⊎◌, inl, inr}
use mathlib.Core.Bool.{Bool, true, false, not, cond, ◌||◌, or-true, false≢true}
use lib.ListN.{length}
use lib.Dec.{ltb, leb}
use borrow.Author.Tests.{ltb-true, ltb-false, lt-ltb, le-ltb, leb-true, leb-false, le-leb, lt-leb, not-true, not-false}
use Rattle.std.proofs.lemmas.Bool.{false_from_ne_true}
use Rattle.base_status.specs.declared.Status.TheVariants.{DataWrong, NoRoom}
use Rattle.card_isdp.specs.Sizes.{most_places}
use Rattle.card_isdp.specs.LifeCycle.{selectable}
use Rattle.card_isdp.specs.Place.{held, made}
use Rattle.card_isdp.specs.declared.Isdp.{Isdp}
use Rattle.card_isdp.proofs.Bools.{or_l, or_r}
use Rattle.card_places.specs.Places.{at, seek, is_free}
use Rattle.card_places.proofs.Seeks.{seek-below}
use Rattle.card_record.specs.Cards.{place_of, profile_of, free_place, free_in}
use Rattle.card_record.specs.Sound.{sound}
use Rattle.card_record.specs.Answers.{outcome}
use Rattle.card_record.specs.declared.Card.{Card}
use Rattle.card_record.proofs.Sounds.{parts}
use Rattle.rule_steps.specs.Asked.{Asked.create}
use Rattle.rule_steps.specs.Steps.{asked_work}
use Rattle.rule_steps.specs.Laws.Answer.{Answers, only_at, replaced}
use Rattle.rule_steps.specs.Laws.Words.{InThisOrder}
use Rattle.rule_steps.specs.Laws.Create.{LowestFree, MayCreate, NoneFree, OverFree, create_rows, CreateLaw}
use Rattle.rule_steps.proofs.Rows.{Passed}
use Rattle.rule_steps.proofs.Kept.{quietly}
use Rattle.rule_steps.proofs.Laws.Places.{place_is, holds}
use Rattle.rule_steps.proofs.Laws.Answer.{asked-passed, asked-taken, none-to-come, rewrites}
use Rattle.rule_steps.proofs.Laws.Words.{by_rows, no_more, skip, by-when, none_open, held-when}

-- a search passes over no place that passes its test
lower-case : (t : Isdp → Bool) (p : Isdp) (ps : List Isdp) (i : ℕ) (b : Bool) → t p ≡ b → i < cond b 0 (suc (seek t ps)) → ((j : ℕ) → j < seek t ps → t (at ps j) ≡ false) → t (at (p ∷ ps) i) ≡ false
lower-case t p ps i true e h f = absurd (omega arith)
lower-case t p ps zero false e h f = e
lower-case t p ps (suc i) false e h f = f i (omega arith)

lower : (t : Isdp → Bool) (l : List Isdp) (i : ℕ) → i < seek t l → t (at l i) ≡ false
unfolding seek
lower t [] i h = absurd (omega arith)
lower t (p ∷ ps) i h = lower-case t p ps i (t p) refl h (lower t ps)

-- so two places that pass, each with none below, are one
first-is : (t : Isdp → Bool) (l : List Isdp) (i : ℕ) → i < length l → t (at l i) ≡ true → ((j : ℕ) → j < i → t (at l j) ≡ false) → seek t l ≡ i
first-is t l i h e f =
    let below : i < seek t l → ⊥ = λ k. false≢true (sym (lower t l i k) ∙ e) in
    let above : seek t l < i → ⊥ = λ k. false≢true (sym (f (seek t l) k) ∙ seek-below t l (omega arith)) in
    omega arith

module _ (c : Card) (aid : List ℕ) (quota : ℕ) (s : sound c ≡ true) where
  rows-say : Passed c (create aid quota) → (free_place c < length c.places) × MayCreate c aid quota
  rows-say p =
      let w = parts c s in
      let f = w.sizes.full in
      let m = w.placed.room in
      let r = p.room in
      let k = ltb-true (free_place c) most_places (not-false _ (or_l (not (ltb (free_place c) most_places)) _ r)) in
      let q = leb-true quota (free_in c) (not-false _ (or_r (not (ltb (free_place c) most_places)) _ r)) in (
        omega arith,
        record {
          none_open = quietly c.phase p.change;
          not-held = λ i h. false≢true (sym p.already ∙ rw (place_is c aid i w h) h.held-there);
          room = omega arith;
        },
      )

  rows_pass : free_place c < length c.places → MayCreate c aid quota → Passed c (create aid quota)
  rows_pass k m =
      let f = (parts c s).sizes.full in
      let e = (parts c s).placed.room in
      let r = m.room in
      record {
        change = rw m.none_open;
        target = refl;
        already = false_from_ne_true (held (profile_of c aid)) (λ h. m.not-held (place_of c aid) (holds c aid h));
        state = refl;
        policy = refl;
        verdict = refl;
        room = rw (lt-ltb (free_place c) most_places (omega arith), le-leb quota (free_in c) (omega arith));
      }

  lowest-free : free_place c < length c.places → LowestFree c (free_place c)
  lowest-free k =
      record { a-place = k; free = not-true _ (seek-below is_free c.places k); lowest = λ i h. not-false _ (lower is_free c.places i h) }

  place_found : (t : ℕ) → LowestFree c t → free_place c ≡ t
  place_found t h = first-is is_free c.places t h.a-place (ap not h.free) (λ j k. ap not (h.lowest j k))

-- the row 6A 84: no place is free, or the quota is over free
module _ (c : Card) (quota : ℕ) (s : sound c ≡ true) where
  no_room : NoneFree c ⊎ OverFree c quota → (not (ltb (free_place c) most_places) || not (leb quota (free_in c))) ≡ true
  no_room (inl n) =
      let f = (parts c s).sizes.full in
      let k : free_place c < 32 → ⊥ = λ h. false≢true (sym (not-true _ (seek-below is_free c.places (omega arith))) ∙ n (free_place c) h) in
      rw (le-ltb (free_place c) most_places (omega arith))
  no_room (inr o) = let e = (parts c s).placed.room in rw (lt-leb quota (free_in c) (omega arith)) (or-true (not (ltb (free_place c) most_places)))

  room-only : (b : Bool) → ltb (free_place c) most_places ≡ b → (not b || not (leb quota (free_in c))) ≡ true → NoneFree c ⊎ OverFree c quota
  room-only true e h =
      let k = leb-false quota (free_in c) (not-true _ h) in
      let m = (parts c s).placed.room in
      inr (omega arith)
  room-only false e h = let k = ltb-false (free_place c) most_places e in inl (λ i l. not-false _ (lower is_free c.places i (omega arith)))

create-refused : (c : Card) (aid : List ℕ) (quota : ℕ) → sound c ≡ true → InThisOrder (create_rows c aid quota) (outcome c (asked_work c (create aid quota))).status
create-refused c aid quota s =
    by_rows c (asked_work c (create aid quota)) s (create_rows c aid quota)
    (none_open c λ q. skip (by-when DataWrong (held-when c aid s) (λ e. (place_of c aid, holds c aid e)) λ e.
    skip (skip (skip (by-when NoRoom (no_room c quota s) (room-only c quota s (ltb (free_place c) most_places) refl) λ r. no_more refl)))))

pub create-law : CreateLaw
create-law c aid quota s =
    record {
      taken =
          record {
            some-place = λ e. (free_place c, lowest-free c aid quota s (rows-say c aid quota s (asked-passed c (create aid quota) e)).0);
            exactly =
                λ t h.
                let q = place_found c aid quota s t h in
                let k = h.a-place in
                record {
                  only-where = λ e. (rows-say c aid quota s (asked-passed c (create aid quota) e)).1;
                  where-may =
                      λ m.
                      let new = made aid selectable quota 0 in
                      let r = asked-taken c (create aid quota) refl s (rows_pass c aid quota s (omega arith) m) in
                      subst (Answers c (replaced c (c.free - quota) (only_at c t new) (0x00 ∷ []) 0)) (sym r)
                      (rw q (rewrites c t new (c.free - quota) (0x00 ∷ []) 0 k (none-to-come _ m.none_open)));
                };
          };
      refused = create-refused c aid quota s;
    }
