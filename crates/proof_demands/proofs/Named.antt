-- The same by AIDs: while a change is open no place changes its AID, and at its close the enabled one does not; one place is enabled,
-- so the AID enabled is that of the place that the course of the change tells. Assumes nothing.
use mathlib.Core.Path.{◌≡◌, refl, ap, ◌∙◌}
use Prim.Native.Nat.{ℕ}
use mathlib.Core.List.{List, [], ◌∷◌, ◌++◌}
use mathlib.Core.Bool.{Bool, true, false, not, cond, ◌&&◌, ◌||◌, false≢true}
use lib.Dec.{ltb}
use Rattle.std.proofs.lemmas.Bool.{cond_both}
use Rattle.card_isdp.specs.Aids.{aid_of, bytes_of}
use Rattle.card_isdp.proofs.Bools.{and_l, and_r}
use Rattle.card_isdp.specs.declared.Isdp.{Isdp}
use Rattle.card_places.specs.Places.{at}
use Rattle.card_places.proofs.Lives.{enable-lives, lives_at}
use Rattle.card_places.proofs.Seeks.{enabled-at}
use Rattle.card_record.specs.Cards.{is_quiet, enabled_place, on_fallback}
use Rattle.card_record.specs.Sound.{sound}
use Rattle.card_record.specs.Clock.{tick_in, tick_of}
use Rattle.card_record.specs.declared.Card.{Card}
use Rattle.card_record.specs.declared.Phase.{Phase}
use Rattle.card_record.specs.declared.Phase.TheVariants.{Quiet, Trial, Back, Fallen}
use Rattle.card_record.proofs.Sounds.{parts}
use Rattle.card_places.proofs.Numbered.{only}
use Rattle.rule_run.specs.Calls.{Call, Call.Tick, asked}
use Rattle.rule_run.specs.Step.{step, run}
use Rattle.rule_run.proofs.Kept.{step-sound, run_sound}
use Rattle.rule_run.proofs.Runs.{run-parts}
use Rattle.rule_run.specs.Runs.{enabled_bytes, is_tick, is_confirmation, confirms, ticks_among}
use Rattle.proof_demands.specs.Change.{stays_open, heir, Unmoved, Change, LostChange}
use Rattle.proof_demands.proofs.Frames.{frame, by-tick, tick-step, confirm-does}
use Rattle.proof_demands.proofs.Changes.{Holds, closing_tick, Course, LostCourse}

-- every place of d bears the AID that it bears in c
abbrev pub Named : Card → Card → Type 0
Named c d = (i : ℕ) → (at d.places i).aid ≡ (at c.places i).aid

tick-case : (c : Card) (q : Phase) → Named c (tick_in q c)
tick-case c Quiet = λ i. refl
tick-case c (Trial q l n) = cond_both (ltb 1 l) _ _ (Named c) (λ b i. refl) (λ b i. ap (λ (p : Isdp). p.aid) (lives_at (enable-lives c.places q) i))
tick-case c (Back l n) =
    cond_both (ltb 1 l) _ _ (Named c) (λ b i. refl)
    (λ b. cond_both (on_fallback c) _ _ (Named c) (λ e i. refl) (λ e i. ap (λ (p : Isdp). p.aid) (lives_at (enable-lives c.places c.fallback) i)))
tick-case c (Fallen l n) = cond_both (ltb 1 l) _ _ (Named c) (λ b i. refl) (λ b i. refl)

tick-named : (c : Card) → Named c (tick_of c)
unfolding tick_of
tick-named c = tick-case c c.phase

other-named : (c : Card) (call : Call) → sound c ≡ true → is_quiet c.phase ≡ false → is_tick call ≡ false → confirms c call ≡ false → Named c (step c call).card
other-named c call s o t e = (frame c call s o (rw (t, e))).named

-- a call that does not confirm
step-named : (c : Card) (call : Call) → sound c ≡ true → is_quiet c.phase ≡ false → confirms c call ≡ false → Named c (step c call).card
step-named c call k o e =
    by-tick (λ x. confirms c x ≡ false → Named c (step c x).card) (λ x t. other-named c x k o t) (λ _. rw (tick-step c k) (tick-named c)) call e

-- one that does closes
quiet-case : (c : Card) (call : Call) (b r : Bool) → confirms c call ≡ b → sound c ≡ true → (not (is_quiet (step c call).card.phase) && r) ≡ true → b ≡ false
quiet-case c call true r e s h =
    let q = (confirm-does c call s (and_l (is_confirmation (asked c call)) _ e) (and_r (is_confirmation (asked c call)) _ e)).quiet in
    absurd (false≢true (rw q at h))
quiet-case c call false r e s h = refl

not-quiet : (b r : Bool) → (not b && r) ≡ true → b ≡ false
not-quiet true r e = absurd (false≢true e)
not-quiet false r e = refl

-- while the change is open
open-named : (calls : List Call) (c : Card) → sound c ≡ true → is_quiet c.phase ≡ false → stays_open (run c) calls ≡ true → Named c (run c calls)
unfolding stays_open run
open-named [] c s o e i = refl
open-named (call ∷ calls) c s o e i =
    let d = (step c call).card in
    let r = stays_open (run d) calls in
    let n = quiet-case c call (confirms c call) r refl s e in
    open-named calls d (step-sound c call s) (not-quiet (is_quiet d.phase) r e) (and_r (not (is_quiet d.phase)) r e) i
    ∙ step-named c call s o n i

pub still_open : (calls : List Call) (c : Card) → is_quiet c.phase ≡ false → stays_open (run c) calls ≡ true → is_quiet (run c calls).phase ≡ false
unfolding stays_open run
still_open [] c o e = o
still_open (call ∷ calls) c o e =
    let d = (step c call).card in
    let r = stays_open (run d) calls in
    still_open calls d (not-quiet (is_quiet d.phase) r e) (and_r (not (is_quiet d.phase)) r e)

-- at its close, of the enabled place
close-case : (c : Card) (call : Call) (b : Bool) → confirms c call ≡ b → sound c ≡ true → is_quiet c.phase ≡ false → (i : ℕ) → Holds (step c call).card i → (at (step c call).card.places i).aid ≡ (at c.places i).aid
close-case c call true e s o i h =
    (confirm-does c call s (and_l (is_confirmation (asked c call)) _ e) (and_r (is_confirmation (asked c call)) _ e)).named i h
close-case c call false e s o i h = step-named c call s o e i

-- the AID that a place has, and the AID that is enabled
pub aid-enabled : (c d : Card) (i : ℕ) → sound d ≡ true → Holds d i → (at d.places i).aid ≡ (at c.places i).aid → enabled_bytes d ≡ aid_of (at c.places i)
aid-enabled c d i s h n =
    ap (λ (j : ℕ). aid_of (at d.places j)) (only d.places (enabled_place d) i (parts d s).roles.one (enabled-at d.places (parts d s).roles.one) h)
    ∙ ap bytes_of n

-- told of places, told of their AIDs
holder-aid : (t : ℕ → List ℕ) (g p f : ℕ) (a b : Bool) → t (cond a g (cond b p f)) ≡ cond a (t g) (cond b (t p) (t f))
holder-aid t g p f true b = refl
holder-aid t g p f false true = refl
holder-aid t g p f false false = refl

heir-aid : (t : ℕ → List ℕ) (g p f k : ℕ) (b : Bool) → t (heir g p f b k) ≡ heir (t g) (t p) (t f) b k
heir-aid t g p f k true = holder-aid t g p f (ltb k 10) (ltb k 20)
heir-aid t g p f k false = refl

-- the card after one call more
pub run-snoc : (calls : List Call) (call : Call) (c : Card) → run c (calls ++ call ∷ []) ≡ (step (run c calls) call).card
unfolding run
run-snoc calls call c = run-parts c calls (call ∷ [])

-- c is the card before the opening, d the one after it
module _ (c d : Card) (s : sound d ≡ true) (o : is_quiet d.phase ≡ false) (n : Named c d) where
  abbrev t : ℕ → List ℕ
  t i = aid_of (at c.places i)

  after-aid : (calls : List Call) (i : ℕ) → stays_open (run d) calls ≡ true → Holds (run d calls) i → enabled_bytes (run d calls) ≡ t i
  after-aid calls i e h =
      aid-enabled c (run d calls) i (run_sound d calls s) h (open-named calls d s o e i ∙ n i)

  close-aid : (calls : List Call) (call : Call) (i : ℕ) → stays_open (run d) calls ≡ true → Holds (step (run d calls) call).card i → enabled_bytes (step (run d calls) call).card ≡ t i
  close-aid calls call i e h =
      let k = run_sound d calls s in
      aid-enabled c (step (run d calls) call).card i (step-sound (run d calls) call k) h
      (close-case (run d calls) call (confirms (run d calls) call) refl k (still_open calls d o e) i h ∙ open-named calls d s o e i ∙ n i)

  confirmed-quiet : (calls : List Call) (call : Call) → stays_open (run d) calls ≡ true → confirms (run d calls) call ≡ true → is_quiet (run d (calls ++ call ∷ [])).phase ≡ true
  confirmed-quiet calls call e q =
      rw (run-snoc calls call d, (confirm-does (run d calls) call (run_sound d calls s) (and_l (is_confirmation (asked (run d calls) call)) _ q) (and_r (is_confirmation (asked (run d calls) call)) _ q)).quiet)

  others-still : (calls : List Call) (call : Call) → stays_open (run d) calls ≡ true → (is_tick call || confirms (run d calls) call) ≡ false → Unmoved (run d calls) (run d (calls ++ call ∷ []))
  others-still calls call e q = rw (run-snoc calls call d) (frame (run d calls) call (run_sound d calls s) (still_open calls d o e) q)

  pub change-named : (g p f : ℕ) → Course g p f d → Change (t g) (t p) (t f) (closing_tick p f) (run d)
  unfolding run
  change-named g p f x =
      record {
        opens = o;
        thirty = x.thirty;
        meanwhile = λ calls e. after-aid calls _ e (x.meanwhile calls e) ∙ holder-aid t g p f (ltb (ticks_among calls) 10) (ltb (ticks_among calls) 20);
        close = λ calls call e q. rw (run-snoc calls call d) (close-aid calls call _ e (x.close calls call e (rw (run-snoc calls call d) at q)) ∙ heir-aid t g p f (ticks_among calls) (confirms (run d calls) call));
        due = λ calls e q. x.due calls e (rw (run-snoc calls Tick d) at q);
        confirmed = confirmed-quiet;
        still = others-still;
      }

  pub lost-named : (f : ℕ) → LostCourse f d → LostChange (t f) (run d)
  unfolding run
  lost-named f x =
      record {
        opens = o;
        ten = x.ten;
        throughout = λ calls e. after-aid calls f e (x.throughout calls e);
        close = λ calls call e q. rw (run-snoc calls call d) (close-aid calls call f e (x.close calls call e (rw (run-snoc calls call d) at q)));
        due = λ calls e q. x.due calls e (rw (run-snoc calls Tick d) at q);
        confirmed = confirmed-quiet;
        still = others-still;
      }
