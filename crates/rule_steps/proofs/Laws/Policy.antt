-- The policy update: a held AID has 5 to 16 bytes, so that the rows are the law's conditions; in Quiet nothing is to come. Assumes nothing.
use mathlib.Core.Path.{◌≡◌, refl}
use Prim.Native.Nat.{ℕ}
use mathlib.Core.List.{List, []}
use mathlib.Core.Bool.{true}
use borrow.Author.Tests.{eqb-true, not-false}
use Rattle.base_status.specs.declared.Status.TheVariants.{DataWrong}
use Rattle.card_isdp.specs.Aids.{aid_ok}
use Rattle.card_isdp.specs.LifeCycle.{enabled, with_policy}
use Rattle.card_isdp.proofs.Bools.{and_l, and_r}
use Rattle.card_record.specs.Cards.{place_of, profile_of, rewritten}
use Rattle.card_record.specs.Sound.{sound}
use Rattle.card_record.specs.Answers.{outcome}
use Rattle.card_record.specs.declared.Card.{Card}
use Rattle.rule_steps.specs.Asked.{Act.set_policy}
use Rattle.rule_steps.specs.Steps.{inner_work}
use Rattle.rule_steps.specs.Laws.Answer.{Answers}
use Rattle.rule_steps.specs.Laws.Words.{InThisOrder}
use Rattle.rule_steps.specs.Laws.Policy.{set_policy_rows, MaySetPolicy, ruled, SetPolicyLaw}
use Rattle.rule_steps.proofs.Kept.{quietly}
use Rattle.rule_steps.proofs.Laws.Answer.{inner-law, held-passes, none-to-come, rewrites}
use Rattle.rule_steps.proofs.Laws.Words.{by_rows, no_more, skip, by-unless, sized-when, sized-only, legal-when, legal-only, none_open, is_held, in-state}
use Rattle.rule_steps.proofs.Laws.Loading.{aid-ok, inside}

set-policy-refused : (c : Card) (speaker : List ℕ) (policy : ℕ) → sound c ≡ true → InThisOrder (set_policy_rows c speaker policy) (outcome c (inner_work c speaker (set_policy policy))).status
set-policy-refused c speaker policy s =
    by_rows c (inner_work c speaker (set_policy policy)) s (set_policy_rows c speaker policy)
    (by-unless _ DataWrong (λ x. rw (sized-when speaker x.0, legal-when policy x.1))
    (λ v. (sized-only speaker (and_l _ _ v), legal-only policy (and_r (aid_ok speaker) _ v))) λ v.
    none_open c λ q. is_held c speaker s λ h. in-state c speaker s enabled h λ e. skip (skip (skip (no_more refl))))

pub set-policy-law : SetPolicyLaw
set-policy-law c speaker policy s =
    let i = place_of c speaker in
    let p = with_policy (profile_of c speaker) policy in
    record {
      taken =
          inner-law c speaker (set_policy policy) (MaySetPolicy c policy) (λ t. Answers c (ruled c policy t)) s
          (λ v r.
          record {
            legal = and_r (aid_ok speaker) _ (not-false _ v);
            none_open = quietly c.phase r.change;
            is-enabled = eqb-true _ _ (not-false _ r.state);
          })
          (λ h m. (
            rw (aid-ok c speaker s enabled h m.is-enabled refl, m.legal),
            held-passes c speaker (set_policy policy) h (rw m.none_open) (rw m.is-enabled) refl refl refl,
            rewrites c i p c.free [] 0 (inside c speaker s h) (none-to-come (rewritten c i p) m.none_open),
          ));
      refused = set-policy-refused c speaker policy s;
    }
