-- What a step tells: where no number was issued there is no notification, and the enabled profile is the same, since nothing but the
-- phase, or a place that is not enabled, was written; where a phase was opened its number is new, so there is one. Assumes nothing.
use mathlib.Core.Path.{◌≡◌, refl, ap, sym, ◌∙◌}
use Prim.Native.Nat.{ℕ, zero, suc}
use mathlib.Core.List.{List, [], ◌∷◌}
use mathlib.Core.Bool.{Bool, true, false, cond, false≢true}
use lib.ListN.{set}
use lib.Dec.{ltb, eqb}
use borrow.Author.Tests.{eq-eqb, ne_eqb}
use Rattle.std.proofs.lemmas.Bool.{cond_both}
use Rattle.card_isdp.specs.Sizes.{wait}
use Rattle.card_isdp.specs.Aids.{no_aid}
use Rattle.card_isdp.specs.LifeCycle.{disabled, is_enabled}
use Rattle.card_isdp.specs.declared.Aid.{Aid}
use Rattle.card_isdp.specs.declared.Isdp.{Isdp}
use Rattle.card_places.specs.Places.{at, seek}
use Rattle.card_record.specs.Cards.{is_quiet, on_fallback, enabled_aid, forgotten, with_phase, cleared}
use Rattle.card_record.specs.Clock.{next_number, switched, opened, fallen, tick_in, tick_of, without_network, dropped, confirm_in, confirm_of}
use Rattle.card_record.specs.Notifications.{silent, notice_kind, notice_since}
use Rattle.card_record.specs.Noticed.{Entered, JustOpened, Noticed, Noticed.silently, Noticed.announced, StepsNoticed}
use Rattle.card_record.specs.Steps.{step_to, tick_step, lost_step, gone_in, confirm_step}
use Rattle.card_record.specs.declared.Card.{Card}
use Rattle.card_record.specs.declared.Phase.{Phase}
use Rattle.card_record.specs.declared.Phase.TheVariants.{Quiet, Trial, Back, Fallen}
use Rattle.card_record.proofs.Numbers.{next-differs}
use Rattle.card_record.proofs.Sounds.{Phased, Sound, parts}

-- where neither the old nor the new profile at a place is enabled, the search finds the same one
skip-case : (x p : Isdp) (ps : List Isdp) (a b : Bool) → is_enabled x ≡ a → is_enabled x ≡ false → is_enabled p ≡ b → is_enabled p ≡ false → at (x ∷ ps) (cond a 0 (suc (seek is_enabled ps))) ≡ at (p ∷ ps) (cond b 0 (suc (seek is_enabled ps)))
skip-case x p ps true b e n f m = absurd (false≢true (sym n ∙ e))
skip-case x p ps false true e n f m = absurd (false≢true (sym m ∙ f))
skip-case x p ps false false e n f m = refl

step_case : (p : Isdp) (ps qs : List Isdp) (b : Bool) → at qs (seek is_enabled qs) ≡ at ps (seek is_enabled ps) → at (p ∷ qs) (cond b 0 (suc (seek is_enabled qs))) ≡ at (p ∷ ps) (cond b 0 (suc (seek is_enabled ps)))
step_case p ps qs true e = refl
step_case p ps qs false e = e

pub found-kept : (x : Isdp) → is_enabled x ≡ false → (l : List Isdp) (i : ℕ) → is_enabled (at l i) ≡ false → at (set l i x) (seek is_enabled (set l i x)) ≡ at l (seek is_enabled l)
unfolding seek
found-kept x n [] i e = refl
found-kept x n (p ∷ ps) zero e = skip-case x p ps (is_enabled x) (is_enabled p) refl n refl e
found-kept x n (p ∷ ps) (suc i) e = step_case p ps (set ps i x) (is_enabled p) (found-kept x n ps i e)

-- no number, no notification
pub unissued : (last : ℕ) (d : Card) → d.last ≡ last → notice_since last d ≡ silent
unfolding notice_since
unissued last d n = rw (eq-eqb d.last last n)

-- the same number, and the same profile enabled
pub unmoved : (c d : Card) (gone : Aid) → d.last ≡ c.last → enabled_aid d ≡ enabled_aid c → Noticed c (step_to c d gone)
unfolding notice_since
unmoved c d gone n e = silently (record { none = rw (eq-eqb _ _ n); same-profile = e; same_number = n })

module _ (c : Card) (s : Sound c) (gone : Aid) where
  abbrev After : Card → Type 0
  After d = Noticed c (step_to c d gone)

  new : eqb (next_number c.last) c.last ≡ false
  new = ne_eqb (next_number c.last) c.last (next-differs c.last s.sizes.numbered)

  -- a phase is opened: its whole wait, its number and its kind
  entered : (i : ℕ) (p : Phase) → Entered wait (next_number c.last) (notice_kind p) (step_to c (switched c i p) gone).notification
  unfolding notice_since
  entered i p = record { whole-wait = refl; its-number = rw new; its-kind = rw new }

  tells : (i : ℕ) (p : Phase) → JustOpened p (step_to c (switched c i p) gone).notification → After (switched c i p)
  unfolding notice_since
  tells i p o = announced (record { phase = o; number = rw new; last = refl; eid = rw new; profile = rw new })

  pub opens : (t : ℕ) → After (opened c t)
  opens t = tells t _ (entered t _)

  falls : After (fallen c)
  falls = tells c.fallback _ (entered c.fallback _)

  idle : After (forgotten c)
  idle = unmoved c (forgotten c) gone refl refl

  rephases : (p : Phase) → After (with_phase c p)
  rephases p = unmoved c (with_phase c p) gone refl refl

  ticks : (p : Phase) → After (tick_in p c)
  ticks Quiet = idle
  ticks (Trial q l n) = cond_both (ltb 1 l) _ _ After (λ b. rephases _) (λ b. tells q _ (entered q _))
  ticks (Back l n) =
      cond_both (ltb 1 l) _ _ After (λ b. rephases _) (λ b. cond_both (on_fallback c) _ _ After (λ e. rephases _) (λ e. falls))
  ticks (Fallen l n) = cond_both (ltb 1 l) _ _ After (λ b. rephases _) (λ b. rephases _)

  loses : After (cond (is_quiet c.phase) (cond (on_fallback c) (forgotten c) (fallen c)) (forgotten c))
  loses =
      cond_both (is_quiet c.phase) _ _ After
      (λ q. cond_both (on_fallback c) _ _ After (λ e. idle) (λ e. falls)) (λ q. idle)

  clears : (i : ℕ) → (at c.places i).life ≡ disabled → After (cleared (with_phase c Quiet) i)
  clears i h = unmoved c _ gone refl (ap (λ (p : Isdp). p.aid) (found-kept _ refl c.places i (rw h)))

  closes : (p : Phase) → Phased p c → After (confirm_in p c)
  closes Quiet h = rephases _
  closes (Trial q l n) h = cond_both (dropped c q) _ _ After (λ b. clears q h.1) (λ b. rephases _)
  closes (Back l n) h = rephases _
  closes (Fallen l n) h = rephases _

pub steps-noticed : StepsNoticed
unfolding tick_step tick_of lost_step without_network confirm_step confirm_of
steps-noticed =
    record {
      tick = λ c e. ticks c (parts c e) no_aid c.phase;
      lost = λ c e. loses c (parts c e) no_aid;
      confirmation = λ c e. closes c (parts c e) (gone_in c.phase c) c.phase (parts c e).phased;
      opening = λ c t e. opens c (parts c e) no_aid t;
    }
