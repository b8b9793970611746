-- Tick and lost: no row refuses them. A tick by cases on the phase, and on whether its wait runs out; the ticks to come are the closed form
-- of a sound card. Assumes nothing.
use mathlib.Core.Path.{◌≡◌, refl, sym, ap, subst, ◌∙◌}
use Prim.Native.Nat.{ℕ, ◌+◌, ◌-◌}
use native.Mathlib.Omega.{arith}
use mathlib.Core.List.{[]}
use mathlib.Core.Bool.{Bool, true, false, cond}
use lib.Dec.{ltb, eqb}
use borrow.Author.Tests.{eqb-true, eqb-false, eq-eqb, ne_eqb, lt-ltb, le-ltb}
use Rattle.base_status.specs.declared.Status.TheVariants.{Done}
use Rattle.card_isdp.specs.Sizes.{wait}
use Rattle.card_isdp.specs.Aids.{no_aid}
use Rattle.card_isdp.specs.LifeCycle.{disabled}
use Rattle.card_places.proofs.Lives.{within}
use Rattle.card_places.proofs.Numbered.{only}
use Rattle.card_record.specs.Cards.{is_quiet, on_fallback, forgotten, with_phase}
use Rattle.card_record.specs.Clock.{next_number, switched, fallen, tick_in, tick_of, without_network}
use Rattle.card_record.specs.Sound.{sound}
use Rattle.card_record.specs.Steps.{step_to, tick_step, lost_step}
use Rattle.card_record.specs.Ticks.{ticks_to_come, ticks_by_phase}
use Rattle.card_record.specs.Answers.{Outcome, accepted, outcome}
use Rattle.card_record.specs.declared.Card.{Card}
use Rattle.card_record.specs.declared.Kind.TheVariants.{RolledBack}
use Rattle.card_record.specs.declared.Phase.{Phase}
use Rattle.card_record.specs.declared.Phase.TheVariants.{Quiet, Trial, Back, Fallen}
use Rattle.card_record.proofs.Counts.{after, counted}
use Rattle.card_record.proofs.Sounds.{Phased, Sound, parts, whole, nonzero, resort-nonzero, falls, tick-sound}
use Rattle.rule_steps.specs.Asked.{Asked.tick, Asked.lost}
use Rattle.rule_steps.specs.Steps.{asked_work}
use Rattle.rule_steps.specs.Laws.Answer.{profile_at, Enabled, Answers, Still, rephased, entered}
use Rattle.rule_steps.specs.Laws.Clock.{further_wait, FallenEntered, TickedIn, TickLaw, LostLaw}
use Rattle.rule_steps.proofs.Laws.Answer.{asked-taken, none-to-come, still, rephases, enters}

-- the fall-back is enabled exactly where it is at the enabled place
on-case : (c : Card) (e : ℕ) (b : Bool) → eqb e c.fallback ≡ b → (d : Bool) → on_fallback c ≡ d → Sound c → Enabled c e → d ≡ b
on-case c e true q d r s v = sym r ∙ rw (← (eqb-true e c.fallback q)) (eq-eqb _ _ v)
on-case c e false q true r s v = absurd (eqb-false e c.fallback q (only c.places e c.fallback s.roles.one (eq-eqb _ _ v) r))
on-case c e false q false r s v = refl

on-is : (c : Card) (e : ℕ) → Sound c → Enabled c e → on_fallback c ≡ eqb e c.fallback
on-is c e s v = on-case c e (eqb e c.fallback) refl (on_fallback c) refl s v

-- a phase of a card that is sound in it: its ticks to come
to-come : (d : Card) (ticks : ℕ) → sound d ≡ true → ticks_by_phase d ≡ ticks → ticks_to_come d ≡ ticks
to-come d ticks s q = counted d s ∙ q

-- the fall-back is enabled over the profile at e
fallen-entered : (c : Card) (e : ℕ) → Sound c → Enabled c e → FallenEntered c e (accepted Done (step_to c (fallen c) no_aid) [])
unfolding ticks_by_phase
fallen-entered c e s v =
    let n = within c.places c.fallback (resort-nonzero c s) in
    enters c c.fallback n e (Fallen wait (next_number c.last)) 10 s v (counted (fallen c) (whole _ (falls c s)))

module _ (c : Card) (e : ℕ) (s : sound c ≡ true) (v : Enabled c e) where
  abbrev answer : Card → Outcome
  answer d = accepted Done (step_to c d no_aid) []

  -- a wait goes on
  goes_on : (p : Phase) (ticks : ℕ) → sound (with_phase c p) ≡ true → ticks_by_phase (with_phase c p) ≡ ticks → Answers c (rephased c p ticks) (answer (with_phase c p))
  goes_on p ticks h q = rephases c p ticks (to-come (with_phase c p) ticks h q)

  closes : Answers c (rephased c Quiet 0) (answer (with_phase c Quiet))
  closes = rephases c Quiet 0 (none-to-come (with_phase c Quiet) refl)

  rolled-back : (previous : ℕ) → (profile_at c previous).life ≡ disabled → sound (switched c previous (Back wait (next_number c.last))) ≡ true → Answers c (entered c e previous (Back 10 (next_number c.last)) RolledBack (10 + further_wait c previous)) (answer (switched c previous (Back wait (next_number c.last))))
  unfolding ticks_by_phase
  rolled-back previous d h =
      let k = within c.places previous (nonzero _ 30 d) in
      enters c previous k e (Back wait (next_number c.last)) (10 + further_wait c previous) (parts c s) v
      (counted (switched c previous (Back wait (next_number c.last))) h ∙ rw (after c.places previous c.fallback k))

  ticked : (p : Phase) → c.phase ≡ p → Phased p c → sound (tick_in p c) ≡ true → TickedIn p c e (answer (tick_in p c))
  unfolding ticks_by_phase
  ticked Quiet q h w = still c [] s
  ticked (Trial previous left n) q h w =
      record {
        falls-by-one = λ k. let b = lt-ltb 1 left k in rw b (goes_on (Trial previous (left - 1) n) (left - 1 + 10 + further_wait c previous) (rw b at w) refl);
        at_zero = λ k. let b : ltb 1 left ≡ false = le-ltb 1 left (omega arith) in rw b (rolled-back previous h.1 (rw b at w));
      }
  ticked (Back left n) q h w =
      record {
        falls-by-one = λ k. let b = lt-ltb 1 left k in rw b (goes_on (Back (left - 1) n) (left - 1 + further_wait c e) (rw b at w) (rw (on-is c e (parts c s) v)));
        at_zero =
            λ k f.
            let b : ltb 1 left ≡ false = le-ltb 1 left (omega arith) in
            rw (b, on-is c e (parts c s) v, ne_eqb e c.fallback f) (fallen-entered c e (parts c s) v);
        at-zero-on-fallback =
            λ k f.
            let b : ltb 1 left ≡ false = le-ltb 1 left (omega arith) in
            rw (b, on-is c e (parts c s) v, eq-eqb e c.fallback f) closes;
      }
  ticked (Fallen left n) q h w =
      record {
        falls-by-one = λ k. let b = lt-ltb 1 left k in rw b (goes_on (Fallen (left - 1) n) (left - 1) (rw b at w) refl);
        at_zero = λ k. let b : ltb 1 left ≡ false = le-ltb 1 left (omega arith) in rw b closes;
      }

pub tick-law : TickLaw
unfolding tick_step tick_of accepted
tick-law c s =
    let r = asked-taken c tick refl s (record { change = refl; target = refl; already = refl; state = refl; policy = refl; verdict = refl; room = refl }) in
    record {
      status = ap (λ (o : Outcome). o.status) r;
      ticked = λ e v. subst (TickedIn c.phase c e) (sym r) (ticked c e s v c.phase refl (parts c s).phased (tick-sound c s));
    }

-- lost, where the phase and the enabled profile are known
lost_as : (c : Card) (quiet on : Bool) → is_quiet c.phase ≡ quiet → on_fallback c ≡ on → without_network c ≡ cond quiet (cond on (forgotten c) (fallen c)) (forgotten c)
unfolding without_network
lost_as c quiet on q f = rw (q, f)

open_is : (p : Phase) → (p ≡ Quiet → ⊥) → is_quiet p ≡ false
open_is Quiet n = absurd (n refl)
open_is (Trial previous left number) n = refl
open_is (Back left number) n = refl
open_is (Fallen left number) n = refl

either : (c : Card) (b : Bool) → is_quiet c.phase ≡ b → on_fallback c ≡ true → without_network c ≡ forgotten c
either c true q f = lost_as c true true q f
either c false q f = lost_as c false true q f

pub lost-law : LostLaw
unfolding lost_step accepted
lost-law c s =
    let w = parts c s in
    let r = asked-taken c lost refl s (record { change = refl; target = refl; already = refl; state = refl; policy = refl; verdict = refl; room = refl }) in
    let nothing : without_network c ≡ forgotten c → Still c [] (outcome c (asked_work c lost)) = λ q. subst (Still c []) (sym r) (rw q (still c [] s)) in
    record {
      status = ap (λ (o : Outcome). o.status) r;
      away =
          λ e v q n.
          let f = on-is c e w v ∙ ne_eqb e c.fallback n in
          subst (FallenEntered c e) (sym r) (rw (lost_as c true false (ap is_quiet q) f) (fallen-entered c e w v));
      on-fallback = λ v. nothing (either c (is_quiet c.phase) refl (eq-eqb _ _ v));
      while-open = λ n. nothing (lost_as c false (on_fallback c) (open_is c.phase n) refl);
    }
