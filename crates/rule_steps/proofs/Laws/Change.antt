-- Enable and disable: the rows are the law's conditions, and a DISABLED profile is enabled over the enabled one, which is one. Assumes nothing.
use mathlib.Core.Path.{◌≡◌, refl, subst, ◌∙◌}
use Prim.Native.Nat.{ℕ, ◌+◌}
use mathlib.Core.List.{List, []}
use mathlib.Core.Bool.{Bool, true, false, not, ◌&&◌, cond}
use lib.Dec.{eqb}
use borrow.Author.Tests.{eqb-true, eqb-false, eq-eqb, ne_eqb, not-true, not-false}
use Rattle.base_status.specs.declared.Status.TheVariants.{StateWrong, PolicyForbids, Done}
use Rattle.card_isdp.specs.Sizes.{wait}
use Rattle.card_isdp.specs.Aids.{no_aid}
use Rattle.card_isdp.specs.LifeCycle.{disabled, enabled, is_enabled}
use Rattle.card_isdp.specs.Policy.{forbids_disabling}
use Rattle.card_isdp.proofs.Bools.{and_l, and_r}
use Rattle.card_places.proofs.Lives.{within}
use Rattle.card_places.proofs.Seeks.{enabled-at}
use Rattle.card_places.proofs.Numbered.{only}
use Rattle.card_record.specs.Cards.{place_of, enabled_place}
use Rattle.card_record.specs.Clock.{next_number, opened}
use Rattle.card_record.specs.Sound.{sound}
use Rattle.card_record.specs.Steps.{step_to}
use Rattle.card_record.specs.Ticks.{ticks_by_phase}
use Rattle.card_record.specs.Answers.{accepted, outcome}
use Rattle.card_record.specs.declared.Card.{Card}
use Rattle.card_record.specs.declared.Phase.TheVariants.{Trial}
use Rattle.card_record.proofs.Counts.{counted}
use Rattle.card_record.proofs.Sounds.{Sound, parts, whole, nonzero}
use Rattle.rule_steps.specs.Asked.{Act.enable, Act.disable, Asked.on}
use Rattle.rule_steps.specs.Steps.{asked_work}
use Rattle.rule_steps.specs.Laws.Answer.{profile_at, Holds, Enabled, OnPlace}
use Rattle.rule_steps.specs.Laws.Words.{InThisOrder}
use Rattle.rule_steps.specs.Laws.Change.{enable_rows, disable_rows, TrialEntered, MayEnable, EnableLaw, MayDisable, DisableLaw}
use Rattle.rule_steps.proofs.Kept.{quietly}
use Rattle.rule_steps.proofs.Opens.{opens, enabled-life, fallback-life}
use Rattle.rule_steps.proofs.Laws.Answer.{command-law, held-passes, enters}
use Rattle.rule_steps.proofs.Laws.Words.{by_rows, no_more, skip, by-when, none_open, is_held, target-unless, target-when, in-state}

-- the enabled place is one
enabled-is : (c : Card) (e : ℕ) → Sound c → Enabled c e → enabled_place c ≡ e
enabled-is c e s v = only c.places (enabled_place c) e s.roles.one (enabled-at c.places s.roles.one) (eq-eqb _ _ v)

ticks-case : (b : Bool) → wait + wait + cond b 0 wait ≡ cond b 20 30
ticks-case true = refl
ticks-case false = refl

trial : (c : Card) (t : ℕ) → sound c ≡ true → (profile_at c t).life ≡ disabled → TrialEntered c (enabled_place c) t (accepted Done (step_to c (opened c t) no_aid) [])
unfolding ticks_by_phase
trial c t s d =
    let w = parts c s in
    enters c t (within c.places t (nonzero _ 30 d)) (enabled_place c) (Trial (enabled_place c) wait (next_number c.last)) (cond (eqb (enabled_place c) c.fallback) 20 30) w (enabled-life c w)
    (counted (opened c t) (whole _ (opens c t w d)) ∙ ticks-case (eqb (enabled_place c) c.fallback))

enable-refused : (c : Card) (aid : List ℕ) → sound c ≡ true → InThisOrder (enable_rows c aid) (outcome c (asked_work c (on aid enable))).status
enable-refused c aid s =
    by_rows c (asked_work c (on aid enable)) s (enable_rows c aid)
    (none_open c λ q. is_held c aid s λ h. in-state c aid s disabled h λ d.
    by-when PolicyForbids (λ x. rw (enabled-is c x.0 (parts c s) x.1) x.2) (λ f. (enabled_place c, enabled-life c (parts c s), f)) λ f.
    skip (skip (no_more refl)))

pub enable-law : EnableLaw
enable-law c aid s =
    let w = parts c s in
    record {
      taken =
          λ e v.
          subst (λ (i : ℕ). OnPlace (Holds c aid) (MayEnable c i) (TrialEntered c i) (outcome c (asked_work c (on aid enable)))) (enabled-is c e w v)
          (command-law c aid enable (MayEnable c (enabled_place c)) (TrialEntered c (enabled_place c)) s
          (λ p. record { none_open = quietly c.phase p.change; is-disabled = eqb-true _ _ (not-false _ p.state); enabled-allows = p.policy })
          (λ h m. (held-passes c aid enable h (rw m.none_open) (rw m.is-disabled) m.enabled-allows refl refl, trial c (place_of c aid) s m.is-disabled)));
      refused = enable-refused c aid s;
    }

-- disable's test by its two parts
apart : (c : Card) (i : ℕ) → (is_enabled (profile_at c i) && not (eqb i c.fallback)) ≡ true → ((profile_at c i).life ≡ enabled) × (i ≡ c.fallback → ⊥)
apart c i e = (eqb-true _ _ (and_l (is_enabled (profile_at c i)) _ e), eqb-false _ _ (not-true _ (and_r (is_enabled (profile_at c i)) _ e)))

disable-refused : (c : Card) (aid : List ℕ) → sound c ≡ true → InThisOrder (disable_rows c aid) (outcome c (asked_work c (on aid disable))).status
disable-refused c aid s =
    by_rows c (asked_work c (on aid disable)) s (disable_rows c aid)
    (none_open c λ q. is_held c aid s λ h.
    target-unless c aid s (λ i. ((profile_at c i).life ≡ enabled) × (i ≡ c.fallback → ⊥)) _ StateWrong h (λ x. rw (x.0, ne_eqb _ _ x.1)) (apart c (place_of c aid)) λ x.
    target-when c aid s (λ i. forbids_disabling (profile_at c i).policy ≡ true) PolicyForbids h (λ f. f) (λ f. f) λ f. skip (skip (no_more refl)))

pub disable-law : DisableLaw
disable-law c aid s =
    let t = place_of c aid in
    let w = parts c s in
    record {
      taken =
          command-law c aid disable (MayDisable c) (λ i. TrialEntered c i c.fallback) s
          (λ p. let h = apart c t (not-false _ p.state) in record { none_open = quietly c.phase p.change; is-enabled = h.0; not-fallback = h.1; allows = p.policy })
          (λ h m.
          let n = ne_eqb t c.fallback m.not-fallback in (
            held-passes c aid disable h (rw m.none_open) (rw (m.is-enabled, n)) m.allows refl refl,
            subst (λ (i : ℕ). TrialEntered c i c.fallback (accepted Done (step_to c (opened c c.fallback) no_aid) [])) (enabled-is c t w m.is-enabled)
                (trial c c.fallback s (fallback-life c t w (eq-eqb _ _ m.is-enabled) n)),
          ));
      refused = disable-refused c aid s;
    }
