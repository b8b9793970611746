-- Delete and master delete: the rows that look at the card are the law's conditions, and the place is cleared in Quiet. A held place of a
-- sound card has one of four life cycles, so one that is not ENABLED is one that delete takes. Assumes nothing.
use mathlib.Core.Path.{◌≡◌, refl, sym, ap, ◌∙◌}
use Prim.Native.Nat.{ℕ}
use mathlib.Core.List.{List, [], ◌∷◌}
use mathlib.Core.Logic.{◌⊎◌, inl, inr, ⊎_elim}
use mathlib.Core.Bool.{Bool, true, false, not, false≢true}
use lib.Dec.{eqb}
use borrow.Author.Tests.{eqb-true, eqb-false, eq-eqb, ne_eqb, not-true, not-false}
use Rattle.std.proofs.lemmas.Bool.{false_from_ne_true}
use Rattle.base_status.specs.declared.Status.TheVariants.{StateWrong, PolicyForbids, VerdictWrong, Done}
use Rattle.card_isdp.specs.Aids.{no_aid}
use Rattle.card_isdp.specs.LifeCycle.{disabled, enabled}
use Rattle.card_isdp.specs.Policy.{forbids_deletion}
use Rattle.card_isdp.specs.Place.{vacant, place_ok}
use Rattle.card_isdp.proofs.Bools.{and_l}
use Rattle.card_isdp.proofs.Placed.{lived}
use Rattle.card_places.proofs.Sets.{all-at}
use Rattle.card_record.specs.Cards.{cleared, place_of, profile_of, may_be_deleted, may_be_master_deleted}
use Rattle.card_record.specs.Sound.{sound}
use Rattle.card_record.specs.Steps.{step_to}
use Rattle.card_record.specs.Answers.{accepted, outcome}
use Rattle.card_record.specs.declared.Card.{Card}
use Rattle.card_record.specs.declared.Phase.TheVariants.{Quiet}
use Rattle.card_record.proofs.Sounds.{parts}
use Rattle.card_record.proofs.Deletions.{deletable, may-be-deleted, by-delete-too}
use Rattle.card_record.proofs.Free.{given_back_lem}
use Rattle.rule_steps.specs.Asked.{Act.delete, Act.master_delete, Asked.on}
use Rattle.rule_steps.specs.Steps.{asked_work}
use Rattle.rule_steps.specs.Laws.Answer.{profile_at, Holds}
use Rattle.rule_steps.specs.Laws.Words.{InThisOrder}
use Rattle.rule_steps.specs.Laws.Deletion.{delete_rows, master_delete_rows, MayDelete, MayMasterDelete, Deleted, DeleteLaw, MasterDeleteLaw}
use Rattle.rule_steps.proofs.Kept.{quietly}
use Rattle.rule_steps.proofs.Laws.Places.{held-within}
use Rattle.rule_steps.proofs.Laws.Answer.{command-law, held-passes, none-to-come, rewrites}
use Rattle.rule_steps.proofs.Laws.Words.{by_rows, no_more, skip, by-unless, none_open, is_held, target-unless, target-when}

module _ (c : Card) (aid : List ℕ) where
  abbrev t : ℕ
  t = place_of c aid

  may-be-taken : sound c ≡ true → Holds c aid t → ((profile_of c aid).life ≡ enabled → ⊥) → (t ≡ c.fallback → ⊥) → may_be_deleted c t ≡ true
  may-be-taken s h n f =
      let k = held-within c.places t h.held-there in
      may-be-deleted c t (lived c.capacity (profile_of c aid) h.held-there (all-at (place_ok c.capacity) c.places t k (parts c s).placed.each)) n f

  -- what delete does not take is ENABLED or the fall-back
  left_over : (x y : Bool) → eqb (profile_of c aid).life enabled ≡ x → eqb t c.fallback ≡ y → sound c ≡ true → Holds c aid t → not (may_be_deleted c t) ≡ true → ((profile_of c aid).life ≡ enabled) ⊎ (t ≡ c.fallback)
  left_over true y e f s h n = inl (eqb-true _ _ e)
  left_over false true e f s h n = inr (eqb-true _ _ f)
  left_over false false e f s h n = absurd (false≢true (sym (not-true _ n) ∙ may-be-taken s h (eqb-false _ _ e) (eqb-false _ _ f)))

  master-may-be-taken : (profile_of c aid).life ≡ disabled → (t ≡ c.fallback → ⊥) → may_be_master_deleted c t ≡ true
  master-may-be-taken d n = rw (d, ne_eqb _ _ n)

  -- and its test by its two parts
  master-takes : may_be_master_deleted c t ≡ true → ((profile_of c aid).life ≡ disabled) × (t ≡ c.fallback → ⊥)
  master-takes e = (eqb-true _ _ (and_l (eqb (profile_of c aid).life disabled) _ e), (deletable c t (by-delete-too c t e)).apart)

  clears : sound c ≡ true → Holds c aid t → c.phase ≡ Quiet → Deleted c t (accepted Done (step_to c (cleared c t) no_aid) (0x00 ∷ []))
  clears s h q = rw (given_back_lem t c (parts c s).placed.room) (rewrites c t vacant _ (0x00 ∷ []) 0 (held-within c.places t h.held-there) (none-to-come _ q))

delete-refused : (c : Card) (aid : List ℕ) → sound c ≡ true → InThisOrder (delete_rows c aid) (outcome c (asked_work c (on aid delete))).status
delete-refused c aid s =
    let t = place_of c aid in
    by_rows c (asked_work c (on aid delete)) s (delete_rows c aid)
    (none_open c λ q. is_held c aid s λ h.
    target-when c aid s (λ i. ((profile_at c i).life ≡ enabled) ⊎ (i ≡ c.fallback)) StateWrong h
    (λ x. ap not (false_from_ne_true (may_be_deleted c t) λ m. let d = deletable c t m in ⊎_elim (eqb-false _ _ d.off) d.apart x))
    (left_over c aid (eqb (profile_of c aid).life enabled) (eqb t c.fallback) refl refl s h) λ m.
    target-when c aid s (λ i. forbids_deletion (profile_at c i).policy ≡ true) PolicyForbids h (λ f. f) (λ f. f) λ f. skip (skip (no_more refl)))

pub delete-law : DeleteLaw
delete-law c aid s =
    let t = place_of c aid in
    record {
      taken =
          command-law c aid delete (MayDelete c) (Deleted c) s
          (λ p. let d = deletable c t (not-false _ p.state) in record { none_open = quietly c.phase p.change; not-enabled = eqb-false _ _ d.off; not-fallback = d.apart; allows = p.policy })
          (λ h m. (held-passes c aid delete h (rw m.none_open) (ap not (may-be-taken c aid s h m.not-enabled m.not-fallback)) m.allows refl refl, clears c aid s h m.none_open));
      refused = delete-refused c aid s;
    }

master-delete-refused : (c : Card) (aid : List ℕ) (verdict : ℕ) → sound c ≡ true → InThisOrder (master_delete_rows c aid verdict) (outcome c (asked_work c (on aid (master_delete verdict)))).status
master-delete-refused c aid verdict s =
    by_rows c (asked_work c (on aid (master_delete verdict))) s (master_delete_rows c aid verdict)
    (none_open c λ q. is_held c aid s λ h.
    target-unless c aid s (λ i. ((profile_at c i).life ≡ disabled) × (i ≡ c.fallback → ⊥)) _ StateWrong h (λ x. master-may-be-taken c aid x.0 x.1) (master-takes c aid) λ x.
    skip (by-unless (eqb verdict 1) VerdictWrong (eq-eqb _ _) (eqb-true _ _) λ v. skip (no_more refl)))

pub master-delete-law : MasterDeleteLaw
master-delete-law c aid verdict s =
    record {
      taken =
          command-law c aid (master_delete verdict) (MayMasterDelete c verdict) (Deleted c) s
          (λ p. let d = master-takes c aid (not-false _ p.state) in record { none_open = quietly c.phase p.change; is-disabled = d.0; not-fallback = d.1; verified = eqb-true _ _ (not-false _ p.verdict) })
          (λ h m. (held-passes c aid (master_delete verdict) h (rw m.none_open) (ap not (master-may-be-taken c aid m.is-disabled m.not-fallback)) refl (rw m.verified) refl, clears c aid s h m.none_open));
      refused = master-delete-refused c aid verdict s;
    }
