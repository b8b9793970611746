-- Demand 3. A change is at one of three stages, told by the ticks seen; a tick brings it one on or closes it on the fall-back, the
-- confirmation closes it where it stands, any other call leaves it (Frames). Then one induction over the calls. Assumes nothing.
use mathlib.Core.Path.{◌≡◌, refl, ap, sym, ◌∙◌}
use Prim.Native.Nat.{ℕ, suc, ◌+◌, ◌-◌, ◌≤◌, ◌<◌}
use native.Mathlib.Omega.{arith}
use mathlib.Core.List.{List, [], ◌∷◌}
use mathlib.Core.Bool.{Bool, true, false, not, cond, ◌&&◌, false≢true}
use lib.Dec.{ltb, eqb}
use borrow.Author.Tests.{eq-eqb, ne_eqb, ltb-true, ltb-false, lt-ltb, le-ltb, not-true}
use Rattle.std.proofs.lemmas.Bool.{cond_both}
use Rattle.card_isdp.specs.Sizes.{wait}
use Rattle.card_isdp.specs.LifeCycle.{is_enabled}
use Rattle.card_isdp.proofs.Bools.{and_l, and_r}
use Rattle.card_places.specs.Places.{at}
use Rattle.card_places.proofs.Lives.{enable-at, within}
use Rattle.card_record.specs.Cards.{is_quiet, on_fallback}
use Rattle.card_record.specs.Sound.{sound}
use Rattle.card_record.specs.Clock.{next_number, tick_in, tick_of}
use Rattle.card_record.specs.Notifications.{notice_kind}
use Rattle.card_record.specs.declared.Card.{Card}
use Rattle.card_record.specs.declared.Kind.TheVariants.{Changed, RolledBack, FallenBack}
use Rattle.card_record.specs.declared.Phase.{Phase}
use Rattle.card_record.specs.declared.Phase.TheVariants.{Quiet, Trial, Back, Fallen}
use Rattle.card_record.proofs.Sounds.{Phased, Sound, parts, tick-sound, nonzero, resort-nonzero}
use Rattle.card_places.proofs.Numbered.{only}
use Rattle.rule_run.specs.Calls.{Call, Call.Tick, asked}
use Rattle.rule_run.specs.Step.{step, run}
use Rattle.rule_run.proofs.Kept.{step-sound}
use Rattle.rule_run.specs.Runs.{is_tick, is_confirmation, confirms, ticks_among}
use Rattle.proof_demands.specs.Change.{stays_open, Unmoved, holder, heir}
use Rattle.proof_demands.proofs.Frames.{frame, by-tick, tick-step, Closed, confirm-does}

-- the profile at this place is enabled
abbrev pub Holds : Card → ℕ → Type 0
Holds c i = is_enabled (at c.places i) ≡ true

-- the tick that closes a change from place p where nothing is confirmed
abbrev pub closing_tick : ℕ → ℕ → ℕ
closing_tick p f = cond (eqb p f) 20 30

-- which of three holds after so many ticks
module _ {A : Type 0} (wanted previous fallback : A) (k : ℕ) where
  pub holds-first : k < 10 → holder wanted previous fallback k ≡ wanted
  holds-first h = rw (lt-ltb k 10 h)

  pub holds-second : 10 ≤ k → k < 20 → holder wanted previous fallback k ≡ previous
  holds-second h l = rw (le-ltb k 10 h, lt-ltb k 20 l)

  pub holds-third : 20 ≤ k → holder wanted previous fallback k ≡ fallback
  holds-third h = rw (le-ltb k 10 (omega arith), le-ltb k 20 h)

-- the number last issued, by the ticks seen since the one that the opening issued: the opening's, the roll-back's, that of falling back
abbrev pub number_after : ℕ → ℕ → ℕ
number_after number ticks = holder number (next_number number) (next_number (next_number number)) ticks

-- an open change k ticks after its opening: the place wanted, the previous one and the fall-back are g, p and f
data Stage (g p f k : ℕ) (c : Card) : Type 0 where
  trial : (l n : ℕ) → c.phase ≡ Trial p l n → l + k ≡ 10 → Holds c g → Stage g p f k c
  back : (l n : ℕ) → c.phase ≡ Back l n → l + k ≡ 20 → Holds c p → Stage g p f k c
  fallen : (l n : ℕ) → eqb p f ≡ false → c.phase ≡ Fallen l n → l + k ≡ 30 → Holds c f → Stage g p f k c

-- what is known of an open change k ticks on
record Known (g p f k : ℕ) (c : Card) : Type 0 where
  still : sound c ≡ true
  same : c.fallback ≡ f
  stage : Stage g p f k c

-- after one more tick it is open still, or closed with the fall-back enabled
data Ticked (g p f k : ℕ) (c : Card) : Type 0 where
  goes : Stage g p f k c → Ticked g p f k c
  ends : c.phase ≡ Quiet → Holds c f → k ≡ closing_tick p f → Ticked g p f k c

module _ (g p f : ℕ) where
  from-trial : (k : ℕ) (c : Card) (l n : ℕ) → Sound c → c.phase ≡ Trial p l n → l + k ≡ 10 → Holds c g → Ticked g p f (suc k) (tick_of c)
  unfolding tick_of
  from-trial k c l n s r u v =
      let h : Phased (Trial p l n) c = rw r at s.phased in
      let w = h.0.low in
      rw r
      (cond_both (ltb 1 l) _ _ (Ticked g p f (suc k))
      (λ b. let m = ltb-true 1 l b in goes (trial (l - 1) n refl (omega arith) v))
      (λ b. let m = ltb-false 1 l b in
      goes (back wait (next_number c.last) refl (omega arith) (eq-eqb _ _ (enable-at c.places p (within c.places p (nonzero _ 30 h.1)))))))

  from_back : (k : ℕ) (c : Card) (l n : ℕ) → Sound c → c.fallback ≡ f → c.phase ≡ Back l n → l + k ≡ 20 → Holds c p → Ticked g p f (suc k) (tick_of c)
  unfolding tick_of
  from_back k c l n s b r u v =
      let h : Phased (Back l n) c = rw r at s.phased in
      let w = h.low in
      rw r
      (cond_both (ltb 1 l) _ _ (Ticked g p f (suc k))
      (λ t. let m = ltb-true 1 l t in goes (back (l - 1) n refl (omega arith) v))
      (λ t. let m = ltb-false 1 l t in
      cond_both (on_fallback c) _ _ (Ticked g p f (suc k))
      (λ e. ends refl (rw b at e) (rw (eq-eqb p f (only c.places p c.fallback s.roles.one v e ∙ b)) (omega arith)))
      (λ e. goes (fallen wait (next_number c.last) (ne_eqb p f (λ q. false≢true (sym e ∙ ap (λ (i : ℕ). is_enabled (at c.places i)) (b ∙ sym q) ∙ v))) refl (omega arith)
      (rw (← b) (eq-eqb _ _ (enable-at c.places c.fallback (within c.places c.fallback (resort-nonzero c s)))))))))

  from-fallen : (k : ℕ) (c : Card) (l n : ℕ) → eqb p f ≡ false → Sound c → c.phase ≡ Fallen l n → l + k ≡ 30 → Holds c f → Ticked g p f (suc k) (tick_of c)
  unfolding tick_of
  from-fallen k c l n a s r u v =
      let h : Phased (Fallen l n) c = rw r at s.phased in
      let w = h.0.low in
      rw r
      (cond_both (ltb 1 l) _ _ (Ticked g p f (suc k))
      (λ t. let m = ltb-true 1 l t in goes (fallen (l - 1) n a refl (omega arith) v))
      (λ t. let m = ltb-false 1 l t in ends refl v (rw a (omega arith))))

  tick-stage : (k : ℕ) (c : Card) → Known g p f k c → Stage g p f k c → Ticked g p f (suc k) (tick_of c)
  tick-stage k c w (trial l n r u v) = from-trial k c l n (parts c w.still) r u v
  tick-stage k c w (back l n r u v) = from_back k c l n (parts c w.still) w.same r u v
  tick-stage k c w (fallen l n a r u v) = from-fallen k c l n a (parts c w.still) r u v

  -- a call that leaves phase and enabled place leaves the stage
  kept-stage : (k : ℕ) (c d : Card) → Unmoved c d → Stage g p f k c → Stage g p f k d
  kept-stage k c d m (trial l n r u v) = trial l n (m.phase ∙ r) u (m.enabled g ∙ v)
  kept-stage k c d m (back l n r u v) = back l n (m.phase ∙ r) u (m.enabled p ∙ v)
  kept-stage k c d m (fallen l n a r u v) = fallen l n a (m.phase ∙ r) u (m.enabled f ∙ v)

  -- the profile enabled there, that fewer than thirty ticks were seen, and the kind of the phase's notification
  stage-known : (k : ℕ) (c : Card) → sound c ≡ true → Stage g p f k c → Holds c (holder g p f k) × (k < 30) × (notice_kind c.phase ≡ holder Changed RolledBack FallenBack k)
  stage-known k c s (trial l n r u v) =
      let h : Phased (Trial p l n) c = rw r at (parts c s).phased in
      let w = h.0.low in
      rw (lt-ltb k 10 (omega arith)) (v, omega arith, ap notice_kind r)
  stage-known k c s (back l n r u v) =
      let h : Phased (Back l n) c = rw r at (parts c s).phased in
      let w = h.low in
      let x = h.high in
      rw (le-ltb k 10 (omega arith), lt-ltb k 20 (omega arith)) (v, omega arith, ap notice_kind r)
  stage-known k c s (fallen l n a r u v) =
      let h : Phased (Fallen l n) c = rw r at (parts c s).phased in
      let w = h.0.low in
      let x = h.0.high in
      rw (le-ltb k 10 (omega arith), le-ltb k 20 (omega arith)) (v, omega arith, ap notice_kind r)

  stage-open : (k : ℕ) (c : Card) → Stage g p f k c → is_quiet c.phase ≡ false
  stage-open k c (trial l n r u v) = rw r
  stage-open k c (back l n r u v) = rw r
  stage-open k c (fallen l n a r u v) = rw r

fallback-case : (c : Card) (q : Phase) → (tick_in q c).fallback ≡ c.fallback
fallback-case c Quiet = refl
fallback-case c (Trial q l n) = cond_both (ltb 1 l) _ _ (λ (d : Card). d.fallback ≡ c.fallback) (λ b. refl) (λ b. refl)
fallback-case c (Back l n) =
    cond_both (ltb 1 l) _ _ (λ (d : Card). d.fallback ≡ c.fallback) (λ b. refl)
    (λ b. cond_both (on_fallback c) _ _ (λ (d : Card). d.fallback ≡ c.fallback) (λ e. refl) (λ e. refl))
fallback-case c (Fallen l n) = cond_both (ltb 1 l) _ _ (λ (d : Card). d.fallback ≡ c.fallback) (λ b. refl) (λ b. refl)

tick-fallback : (c : Card) → (tick_of c).fallback ≡ c.fallback
unfolding tick_of
tick-fallback c = fallback-case c c.phase

-- what one call leads to, by whether it is a tick and whether it confirms: open still, or closed with the right profile enabled
data Led (g p f k : ℕ) (d : Card) : Bool → Bool → Type 0 where
  open-still : {t b : Bool} → Known g p f (cond t 1 0 + k) d → Led g p f k d t b
  over : {t b : Bool} → d.phase ≡ Quiet → Holds d (heir g p f b k) → (t ≡ true → k + 1 ≡ closing_tick p f) → Led g p f k d t b

module _ (g p f : ℕ) where
  led-ticked : (k : ℕ) (d : Card) → sound d ≡ true → d.fallback ≡ f → Ticked g p f (suc k) d → Led g p f k d true false
  led-ticked k d s b (goes x) =
      open-still {t = true} (let e : 1 + k ≡ suc k = omega arith in rw e (record { still = s; same = b; stage = x }))
  led-ticked k d s b (ends q v z) = let e : k + 1 ≡ suc k = omega arith in over q v (λ t. e ∙ z)

  led-tick : (k : ℕ) (c : Card) → Known g p f k c → Led g p f k (step c Tick).card true false
  led-tick k c w =
      rw (tick-step c w.still)
      (led-ticked k (tick_of c) (tick-sound c w.still) (tick-fallback c ∙ w.same) (tick-stage g p f k c w w.stage))

  open-known : (k : ℕ) (c : Card) → Known g p f k c → is_quiet c.phase ≡ false
  open-known k c w = stage-open g p f k c w.stage

  closes : (k : ℕ) (c : Card) (call : Call) → Known g p f k c → confirms c call ≡ true → Closed c (step c call).card
  closes k c call w e =
      confirm-does c call w.still (and_l (is_confirmation (asked c call)) _ e) (and_r (is_confirmation (asked c call)) _ e)

  led-other : (k : ℕ) (c : Card) (call : Call) → is_tick call ≡ false → (b : Bool) → confirms c call ≡ b → Known g p f k c → Led g p f k (step c call).card false b
  led-other k c call t true e w =
      let x = closes k c call w e in
      over x.quiet (x.enabled (holder g p f k) ∙ (stage-known g p f k c w.still w.stage).0) (λ h. absurd (false≢true h))
  led-other k c call t false e w =
      let m = frame c call w.still (open-known k c w) (rw (t, e)) in
      open-still {t = false} (let z : 0 + k ≡ k = omega arith in rw z (record { still = step-sound c call w.still; same = m.fallback ∙ w.same; stage = kept-stage g p f k c _ m w.stage }))

  led : (k : ℕ) (c : Card) (call : Call) → Known g p f k c → Led g p f k (step c call).card (is_tick call) (confirms c call)
  led k c call w =
      by-tick (λ x. Led g p f k (step c x).card (is_tick x) (confirms c x)) (λ x t. rw t (led-other k c x t (confirms c x) refl w)) (led-tick k c w) call

  led_on : (k : ℕ) (d : Card) (t b r : Bool) → Led g p f k d t b → (not (is_quiet d.phase) && r) ≡ true → Known g p f (cond t 1 0 + k) d
  led_on k d t b r (open-still x) e = x
  led_on k d t b r (over q v z) e = absurd (false≢true (rw q at e))

  led-over : (k : ℕ) (d : Card) (t b : Bool) → Led g p f k d t b → is_quiet d.phase ≡ true → Holds d (heir g p f b k)
  led-over k d t b (open-still x) q = absurd (false≢true (sym (open-known _ d x) ∙ q))
  led-over k d t b (over r v z) q = v

  led-due : (k : ℕ) (d : Card) (t b : Bool) → Led g p f k d t b → is_quiet d.phase ≡ true → t ≡ true → k + 1 ≡ closing_tick p f
  led-due k d t b (open-still x) q h = absurd (false≢true (sym (open-known _ d x) ∙ q))
  led-due k d t b (over r v z) q h = z h

  along : (calls : List Call) (k : ℕ) (c : Card) → Known g p f k c → stays_open (run c) calls ≡ true → Known g p f (ticks_among calls + k) (run c calls)
  unfolding stays_open ticks_among run
  along [] k c w e = let z : 0 + k ≡ k = omega arith in rw z w
  along (call ∷ calls) k c w e =
      let d = (step c call).card in
      let r = stays_open (run d) calls in
      let x = led_on k d (is_tick call) (confirms c call) r (led k c call w) e in
      let y = along calls (cond (is_tick call) 1 0 + k) d x (and_r (not (is_quiet d.phase)) r e) in
      let z : (cond (is_tick call) 1 0 + ticks_among calls) + k ≡ ticks_among calls + (cond (is_tick call) 1 0 + k) = omega arith in
      rw z y

-- a tick issues a number where a phase is entered, and nowhere else
module _ (g p f n : ℕ) where
  abbrev Numbered : ℕ → Card → Type 0
  Numbered k c = is_quiet c.phase ≡ false → c.last ≡ number_after n k

  number-ticked : (k : ℕ) (c : Card) → Known g p f k c → Stage g p f k c → c.last ≡ number_after n k → Numbered (suc k) (tick_of c)
  unfolding tick_of
  number-ticked k c w (trial l m r u v) e =
      let h : Phased (Trial p l m) c = rw r at (parts c w.still).phased in
      let x = h.0.low in
      let now = e ∙ holds-first n _ _ k (omega arith) in
      rw r
      (cond_both (ltb 1 l) _ _ (Numbered (suc k))
      (λ b o. let z = ltb-true 1 l b in now ∙ sym (holds-first n _ _ (suc k) (omega arith)))
      (λ b o. let z = ltb-false 1 l b in ap next_number now ∙ sym (holds-second n (next_number n) _ (suc k) (omega arith) (omega arith))))
  number-ticked k c w (back l m r u v) e =
      let h : Phased (Back l m) c = rw r at (parts c w.still).phased in
      let x = h.low in
      let y = h.high in
      let now = e ∙ holds-second n (next_number n) _ k (omega arith) (omega arith) in
      rw r
      (cond_both (ltb 1 l) _ _ (Numbered (suc k))
      (λ b o. let z = ltb-true 1 l b in now ∙ sym (holds-second n (next_number n) _ (suc k) (omega arith) (omega arith)))
      (λ b. let z = ltb-false 1 l b in
      cond_both (on_fallback c) _ _ (Numbered (suc k)) (λ q o. absurd (false≢true (sym o)))
      (λ q o. ap next_number now ∙ sym (holds-third n _ (next_number (next_number n)) (suc k) (omega arith)))))
  number-ticked k c w (fallen l m a r u v) e =
      let h : Phased (Fallen l m) c = rw r at (parts c w.still).phased in
      let x = h.0.high in
      let now = e ∙ holds-third n _ (next_number (next_number n)) k (omega arith) in
      rw r
      (cond_both (ltb 1 l) _ _ (Numbered (suc k))
      (λ b o. now ∙ sym (holds-third n _ (next_number (next_number n)) (suc k) (omega arith)))
      (λ b o. absurd (false≢true (sym o))))

  number-other : (k : ℕ) (c : Card) (call : Call) (b r : Bool) → is_tick call ≡ false → confirms c call ≡ b → Known g p f k c → c.last ≡ number_after n k → (not (is_quiet (step c call).card.phase) && r) ≡ true → (step c call).card.last ≡ number_after n k
  number-other k c call true r t q w e o = absurd (false≢true (rw (closes g p f k c call w q).quiet at o))
  number-other k c call false r t q w e o = (frame c call w.still (open-known g p f k c w) (rw (t, q))).last ∙ e

  number_step : (k : ℕ) (c : Card) (call : Call) (r : Bool) → Known g p f k c → c.last ≡ number_after n k → (not (is_quiet (step c call).card.phase) && r) ≡ true → (step c call).card.last ≡ number_after n (cond (is_tick call) 1 0 + k)
  number_step k c call r w e =
      by-tick (λ x. (not (is_quiet (step c x).card.phase) && r) ≡ true → (step c x).card.last ≡ number_after n (cond (is_tick x) 1 0 + k))
      (λ x t o. let z : 0 + k ≡ k = omega arith in rw (t, z) (number-other k c x (confirms c x) r t refl w e o))
      (λ o. let z : 1 + k ≡ suc k = omega arith in rw z (rw (tick-step c w.still) (number-ticked k c w w.stage e (not-true _ (and_l _ r (rw (tick-step c w.still) at o)))))) call

  number-along : (calls : List Call) (k : ℕ) (c : Card) → Known g p f k c → c.last ≡ number_after n k → stays_open (run c) calls ≡ true → (run c calls).last ≡ number_after n (ticks_among calls + k)
  unfolding stays_open ticks_among run
  number-along [] k c w e o = let z : 0 + k ≡ k = omega arith in rw z e
  number-along (call ∷ calls) k c w e o =
      let d = (step c call).card in
      let r = stays_open (run d) calls in
      let x = led_on g p f k d (is_tick call) (confirms c call) r (led g p f k c call w) o in
      let y = number-along calls (cond (is_tick call) 1 0 + k) d x (number_step k c call r w e o) (and_r (not (is_quiet d.phase)) r o) in
      let z : (cond (is_tick call) 1 0 + ticks_among calls) + k ≡ ticks_among calls + (cond (is_tick call) 1 0 + k) = omega arith in
      rw z y

-- the course of a change, told by places
pub record Course (g p f : ℕ) (c : Card) : Type 0 where
  pub still : (calls : List Call) → stays_open (run c) calls ≡ true → sound (run c calls) ≡ true
  pub thirty : (calls : List Call) → stays_open (run c) calls ≡ true → ticks_among calls < 30
  pub meanwhile : (calls : List Call) → stays_open (run c) calls ≡ true → Holds (run c calls) (holder g p f (ticks_among calls))
  pub close : (calls : List Call) (call : Call) → stays_open (run c) calls ≡ true → is_quiet (step (run c calls) call).card.phase ≡ true → Holds (step (run c calls) call).card (heir g p f (confirms (run c calls) call) (ticks_among calls))
  pub due : (calls : List Call) → stays_open (run c) calls ≡ true → is_quiet (step (run c calls) Tick).card.phase ≡ true → ticks_among calls + 1 ≡ closing_tick p f
  -- the kind and the number of the last notification
  pub kinds : (calls : List Call) → stays_open (run c) calls ≡ true → notice_kind (run c calls).phase ≡ holder Changed RolledBack FallenBack (ticks_among calls)
  pub numbers : (calls : List Call) → stays_open (run c) calls ≡ true → (run c calls).last ≡ number_after c.last (ticks_among calls)

-- from a card just opened
module _ (g p f : ℕ) (c : Card) (w : Known g p f 0 c) where
  after : (calls : List Call) → stays_open (run c) calls ≡ true → Known g p f (ticks_among calls) (run c calls)
  after calls e =
      let z : ticks_among calls + 0 ≡ ticks_among calls = omega arith in
      rw z at (along g p f calls 0 c w e)

  course : Course g p f c
  course =
      record {
        still = λ calls e. (after calls e).still;
        thirty = λ calls e. let x = after calls e in (stage-known g p f _ _ x.still x.stage).1;
        meanwhile = λ calls e. let x = after calls e in (stage-known g p f _ _ x.still x.stage).0;
        close = λ calls call e q. led-over g p f _ _ (is_tick call) (confirms (run c calls) call) (led g p f _ (run c calls) call (after calls e)) q;
        due = λ calls e q. led-due g p f _ _ true false (led g p f _ (run c calls) Tick (after calls e)) q refl;
        kinds = λ calls e. let x = after calls e in (stage-known g p f _ _ x.still x.stage).2;
        numbers =
            λ calls e.
            let z : ticks_among calls + 0 ≡ ticks_among calls = omega arith in
            rw z at (number-along g p f c.last calls 0 c w refl e);
      }

-- the card just after the opening step: place g is enabled, p was
pub record Opened (g p f : ℕ) (c : Card) : Type 0 where
  pub number : ℕ
  pub still : sound c ≡ true
  pub same : c.fallback ≡ f
  pub trial : c.phase ≡ Trial p wait number
  pub wanted : Holds c g

pub opened-course : (g p f : ℕ) (c : Card) → Opened g p f c → Course g p f c
opened-course g p f c o =
    course g p f c (record { still = o.still; same = o.same; stage = trial wait o.number o.trial (omega arith) o.wanted })

-- a change opened by a lost network is one at its last stage, twenty ticks on, whatever the previous place was
pub record LostCourse (f : ℕ) (c : Card) : Type 0 where
  pub ten : (calls : List Call) → stays_open (run c) calls ≡ true → ticks_among calls < 10
  pub throughout : (calls : List Call) → stays_open (run c) calls ≡ true → Holds (run c calls) f
  pub close : (calls : List Call) (call : Call) → stays_open (run c) calls ≡ true → is_quiet (step (run c calls) call).card.phase ≡ true → Holds (step (run c calls) call).card f
  pub due : (calls : List Call) → stays_open (run c) calls ≡ true → is_quiet (step (run c calls) Tick).card.phase ≡ true → ticks_among calls + 1 ≡ 10

late : (f k : ℕ) → holder f (suc f) f (k + 20) ≡ f
late f k = rw (le-ltb (k + 20) 10 (omega arith), le-ltb (k + 20) 20 (omega arith))

late-heir : (f k : ℕ) (b : Bool) → heir f (suc f) f b (k + 20) ≡ f
late-heir f k true = late f k
late-heir f k false = refl

late_due : (f k : ℕ) → (k + 20) + 1 ≡ closing_tick (suc f) f → k + 1 ≡ 10
late_due f k e =
    let n : (k + 20) + 1 ≡ 30 = rw (ne_eqb (suc f) f (λ q. omega arith)) at e in
    omega arith

module _ (f n : ℕ) (c : Card) (s : sound c ≡ true) (b : c.fallback ≡ f) (e : c.phase ≡ Fallen wait n) where
  lost-known : (calls : List Call) → stays_open (run c) calls ≡ true → Known f (suc f) f (ticks_among calls + 20) (run c calls)
  lost-known calls h =
      let x : Phased (Fallen wait n) c = rw e at (parts c s).phased in
      along f (suc f) f calls 20 c
      (record { still = s; same = b; stage = fallen wait n (ne_eqb (suc f) f (λ q. omega arith)) e (omega arith) (rw (← b) (eq-eqb _ _ x.1)) }) h

  lost-holds : (calls : List Call) → stays_open (run c) calls ≡ true → Holds (run c calls) f × (ticks_among calls < 10)
  lost-holds calls h =
      let w = lost-known calls h in
      let x = stage-known f (suc f) f _ _ w.still w.stage in
      (rw (late f (ticks_among calls)) at x.0, let y = x.1 in omega arith)

  pub lost-course : LostCourse f c
  lost-course =
      record {
        ten = λ calls h. (lost-holds calls h).1;
        throughout = λ calls h. (lost-holds calls h).0;
        close = λ calls call h q. rw (late-heir f (ticks_among calls) (confirms (run c calls) call)) at (led-over f (suc f) f _ _ (is_tick call) (confirms (run c calls) call) (led f (suc f) f _ (run c calls) call (lost-known calls h)) q);
        due = λ calls h q. late_due f (ticks_among calls) (led-due f (suc f) f _ _ true false (led f (suc f) f _ (run c calls) Tick (lost-known calls h)) q refl);
      }
