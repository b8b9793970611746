-- Set fall-back: the rows are the law's conditions; of the holder they pass on every sound Quiet card, and the card is as it was.
-- Assumes nothing.
use mathlib.Core.Path.{◌≡◌, refl, sym, subst}
use Prim.Native.Nat.{ℕ}
use mathlib.Core.List.{List, []}
use mathlib.Core.Logic.{◌⊎◌, inl, inr, ⊎_elim}
use mathlib.Core.Bool.{Bool, true, false, ◌||◌}
use lib.Dec.{eqb}
use borrow.Author.Tests.{eqb-true, not-false}
use Rattle.base_status.specs.declared.Status.TheVariants.{StateWrong, Done}
use Rattle.card_isdp.specs.Aids.{no_aid}
use Rattle.card_isdp.specs.LifeCycle.{disabled, enabled, is_finished}
use Rattle.card_isdp.specs.Provisioning.{may_be_fall_back}
use Rattle.card_isdp.proofs.Bools.{and_l, and_r}
use Rattle.card_record.specs.Cards.{place_of, profile_of, with_fallback}
use Rattle.card_record.specs.Sound.{sound}
use Rattle.card_record.specs.Steps.{step_to}
use Rattle.card_record.specs.Answers.{accepted, outcome}
use Rattle.card_record.specs.declared.Card.{Card}
use Rattle.card_record.specs.declared.Phase.TheVariants.{Quiet}
use Rattle.card_record.proofs.Sounds.{parts}
use Rattle.rule_steps.specs.Asked.{Act.set_fall_back, Asked.on}
use Rattle.rule_steps.specs.Steps.{asked_work}
use Rattle.rule_steps.specs.Laws.Answer.{profile_at, Holds, Answers, Still}
use Rattle.rule_steps.specs.Laws.Words.{InThisOrder}
use Rattle.rule_steps.specs.Laws.FallBack.{set_fall_back_rows, MayBeFallBack, falls_back_to, SetFallBackLaw}
use Rattle.rule_steps.proofs.Rows.{Passed}
use Rattle.rule_steps.proofs.Kept.{quietly}
use Rattle.rule_steps.proofs.Laws.Places.{place_is}
use Rattle.rule_steps.proofs.Laws.Answer.{asked-taken, command-law, held-passes, no-notice, none-to-come, answers, still}
use Rattle.rule_steps.proofs.Laws.Words.{by_rows, no_more, skip, none_open, is_held, target-unless}

falls-back : (c : Card) (t : ℕ) → c.phase ≡ Quiet → Answers c (falls_back_to c t) (accepted Done (step_to c (with_fallback c t) no_aid) [])
falls-back c t q =
    answers c (falls_back_to c t) c.places no_aid refl (λ i. refl) (no-notice c (with_fallback c t) refl) (none-to-come (with_fallback c t) q)

-- the test by its two parts
may-be : (c : Card) (t : ℕ) → c.phase ≡ Quiet → may_be_fall_back (profile_at c t) ≡ true → MayBeFallBack c t
may-be c t q m =
    record { none_open = q; disabled-or-enabled = and_l _ _ m; is-marked = eqb-true _ _ (and_r (is_finished (profile_at c t).life) _ m) }

passes : (c : Card) (aid : List ℕ) → Holds c aid (place_of c aid) → MayBeFallBack c (place_of c aid) → Passed c (on aid set_fall_back)
passes c aid h m = held-passes c aid set_fall_back h (rw m.none_open) (rw (m.disabled-or-enabled, m.is-marked)) refl refl refl

-- DISABLED or ENABLED, as the test and as the paper has it
finished-when : (v : ℕ) → (v ≡ disabled) ⊎ (v ≡ enabled) → is_finished v ≡ true
finished-when v = ⊎_elim (λ e. rw e) (λ e. rw e)

finished-either : (v : ℕ) (x : Bool) → eqb v disabled ≡ x → (x || eqb v enabled) ≡ true → (v ≡ disabled) ⊎ (v ≡ enabled)
finished-either v true e h = inl (eqb-true _ _ e)
finished-either v false e h = inr (eqb-true _ _ h)

set-fall-back-refused : (c : Card) (aid : List ℕ) → sound c ≡ true → InThisOrder (set_fall_back_rows c aid) (outcome c (asked_work c (on aid set_fall_back))).status
set-fall-back-refused c aid s =
    by_rows c (asked_work c (on aid set_fall_back)) s (set_fall_back_rows c aid)
    (none_open c λ q. is_held c aid s λ h.
    target-unless c aid s (λ i. (((profile_at c i).life ≡ disabled) ⊎ ((profile_at c i).life ≡ enabled)) × ((profile_at c i).mark ≡ 1)) (may_be_fall_back (profile_of c aid)) StateWrong h
    (λ x. rw (finished-when _ x.0, x.1))
    (λ m. let f = may-be c (place_of c aid) q m in (finished-either _ _ refl f.disabled-or-enabled, f.is-marked)) λ x.
    skip (skip (skip (no_more refl))))

pub set-fall-back-law : SetFallBackLaw
set-fall-back-law c aid s =
    record {
      taken =
          record {
            target =
                command-law c aid set_fall_back (MayBeFallBack c) (λ t. Answers c (falls_back_to c t)) s
                (λ p. may-be c (place_of c aid) (quietly c.phase p.change) (not-false _ p.state))
                (λ h m. (passes c aid h m, falls-back c (place_of c aid) m.none_open));
            holder =
                λ q h.
                let e = place_is c aid c.fallback (parts c s) h in
                let m = may-be c c.fallback q (parts c s).roles.resort in
                let r = asked-taken c (on aid set_fall_back) refl s (passes c aid (subst (Holds c aid) (sym e) h) (subst (MayBeFallBack c) (sym e) m)) in
                subst (Still c []) (sym r) (rw e (still c [] s));
          };
      refused = set-fall-back-refused c aid s;
    }
