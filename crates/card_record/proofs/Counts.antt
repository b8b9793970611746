-- The ticks still to come: a tick lowers the closed form by exactly one until Quiet, so any fuel that is enough counts just that;
-- and the count without fuel, step by step, is the same and the only one. Assumes nothing.
use mathlib.Core.Path.{◌≡◌, refl, ap, sym, ◌∙◌}
use Prim.Native.Nat.{ℕ, zero, suc, ◌≤◌, ◌<◌}
use native.Mathlib.Omega.{arith}
use mathlib.Core.List.{List}
use mathlib.Core.Bool.{Bool, true, false, cond, false≢true}
use lib.ListN.{length}
use lib.Dec.{ltb, eqb}
use borrow.Author.Tests.{eqb-true, eqb-false, ltb-true, ltb-false}
use Rattle.std.proofs.lemmas.Bool.{cond_both}
use Rattle.card_isdp.specs.Sizes.{wait}
use Rattle.card_isdp.specs.LifeCycle.{is_enabled}
use Rattle.card_isdp.specs.declared.Isdp.{Isdp}
use Rattle.card_places.specs.Places.{at, enable_at}
use Rattle.card_places.proofs.Lives.{enable-at, enable-other, off-disabled, within}
use Rattle.card_record.specs.Cards.{is_quiet, on_fallback}
use Rattle.card_record.specs.Sound.{sound}
use Rattle.card_record.specs.Clock.{tick_in, tick_of}
use Rattle.card_record.specs.Ticks.{steps_in, ticks_to_come, ticks_in, ticks_by_phase, StepsTo, StepsTo.quiet, StepsTo.ticked, TicksCounted}
use Rattle.card_record.specs.declared.Card.{Card}
use Rattle.card_record.specs.declared.Phase.{Phase}
use Rattle.card_record.specs.declared.Phase.TheVariants.{Quiet, Trial, Back, Fallen}
use Rattle.card_record.proofs.Sounds.{Phased, Sound, parts, tick-sound, nonzero}

-- after place i is enabled, place f is enabled exactly where it is i
after-case : (l : List Isdp) (i f : ℕ) (b : Bool) → eqb i f ≡ b → i < length l → is_enabled (at (enable_at l i) f) ≡ b
after-case l i f true e h = rw (← (eqb-true i f e)) (rw (enable-at l i h))
after-case l i f false e h = rw (enable-other l i f (λ q. eqb-false i f e (sym q))) (off-disabled (at l f))

pub after : (l : List Isdp) (i f : ℕ) → i < length l → is_enabled (at (enable_at l i) f) ≡ eqb i f
after l i f h = after-case l i f (eqb i f) refl h

-- a tick lowers the closed form by exactly one
drop-case : (c : Card) (p : Phase) → Sound c → Phased p c → is_quiet p ≡ false → ticks_in p c ≡ suc (ticks_by_phase (tick_in p c))
unfolding ticks_by_phase
drop-case c Quiet s h o = absurd (false≢true (sym o))
drop-case c (Trial q l n) s h o =
    cond_both (ltb 1 l) _ _ (λ d. ticks_in (Trial q l n) c ≡ suc (ticks_by_phase d))
    (λ b. let k = ltb-true 1 l b in omega arith)
    (λ b. let k = ltb-false 1 l b in let w = h.0.low in rw (after c.places q c.fallback (within c.places q (nonzero _ 30 h.1))) (omega arith))
drop-case c (Back l n) s h o =
    cond_both (ltb 1 l) _ _ (λ d. ticks_in (Back l n) c ≡ suc (ticks_by_phase d))
    (λ b. let k = ltb-true 1 l b in omega arith)
    (λ b. let k = ltb-false 1 l b in cond_both (on_fallback c) _ _ (λ d. ticks_in (Back l n) c ≡ suc (ticks_by_phase d)) (λ e. let w = h.low in rw e (omega arith)) (λ e. let w = h.low in rw e (omega arith)))
drop-case c (Fallen l n) s h o =
    cond_both (ltb 1 l) _ _ (λ d. ticks_in (Fallen l n) c ≡ suc (ticks_by_phase d))
    (λ b. let k = ltb-true 1 l b in omega arith)
    (λ b. let k = ltb-false 1 l b in let w = h.0.low in omega arith)

pub tick-lowers : (c : Card) → sound c ≡ true → is_quiet c.phase ≡ false → ticks_by_phase c ≡ suc (ticks_by_phase (tick_of c))
unfolding tick_of ticks_by_phase
tick-lowers c e o = drop-case c c.phase (parts c e) (parts c e).phased o

ten : (b : Bool) → cond b 0 wait ≤ wait
ten true = omega arith
ten false = omega arith

at_most : (c : Card) (p : Phase) → Phased p c → ticks_in p c ≤ 30
at_most c Quiet h = omega arith
at_most c (Trial q l n) h = let u = h.0.high in let t = ten (eqb q c.fallback) in omega arith
at_most c (Back l n) h = let u = h.high in let t = ten (on_fallback c) in omega arith
at_most c (Fallen l n) h = let u = h.0.high in omega arith

pub at-most-30 : (c : Card) → sound c ≡ true → ticks_by_phase c ≤ 30
unfolding ticks_by_phase
at-most-30 c e = at_most c c.phase (parts c e).phased

quiet_none : (c : Card) (p : Phase) → is_quiet p ≡ true → ticks_in p c ≡ 0
quiet_none c Quiet e = refl
quiet_none c (Trial q l n) e = absurd (false≢true e)
quiet_none c (Back l n) e = absurd (false≢true e)
quiet_none c (Fallen l n) e = absurd (false≢true e)

-- any fuel that is enough counts the closed form
fueled : (k : ℕ) (c : Card) (b : Bool) → is_quiet c.phase ≡ b → sound c ≡ true → ticks_by_phase c ≤ k → steps_in k c ≡ ticks_by_phase c
unfolding steps_in
fueled zero c b q s h = omega arith
fueled (suc k) c true q s h = rw q (let z : ticks_by_phase c ≡ 0 = unfold ticks_by_phase in quiet_none c c.phase q in sym z)
fueled (suc k) c false q s h =
    let d = tick-lowers c s q in
    rw q (ap suc (fueled k (tick_of c) (is_quiet (tick_of c).phase) refl (tick-sound c s) (omega arith)) ∙ sym d)

pub counted : (c : Card) → sound c ≡ true → ticks_to_come c ≡ ticks_by_phase c
unfolding ticks_to_come
counted c s = fueled 300 c (is_quiet c.phase) refl s (let h = at-most-30 c s in omega arith)

steps-to : (k : ℕ) (c : Card) (b : Bool) → is_quiet c.phase ≡ b → sound c ≡ true → ticks_by_phase c ≡ k → StepsTo c k
steps-to zero c true q s h = quiet q
steps-to (suc k) c true q s h = absurd (let z : ticks_by_phase c ≡ 0 = unfold ticks_by_phase in quiet_none c c.phase q in omega arith)
steps-to zero c false q s h = absurd (let d = tick-lowers c s q in omega arith)
steps-to (suc k) c false q s h =
    let d = tick-lowers c s q in
    ticked q (steps-to k (tick_of c) (is_quiet (tick_of c).phase) refl (tick-sound c s) (omega arith))

pub steps-are : (c : Card) → sound c ≡ true → StepsTo c (ticks_to_come c)
steps-are c s = steps-to (ticks_to_come c) c (is_quiet c.phase) refl s (sym (counted c s))

-- no card has two counts
pub steps-unique : {c : Card} {m n : ℕ} → StepsTo c m → StepsTo c n → m ≡ n
steps-unique (quiet e) (quiet f) = refl
steps-unique (quiet e) (ticked f y) = absurd (false≢true (sym f ∙ e))
steps-unique (ticked e x) (quiet f) = absurd (false≢true (sym e ∙ f))
steps-unique (ticked e x) (ticked f y) = ap suc (steps-unique x y)

pub ticks-counted : TicksCounted
ticks-counted = record { counted = counted; steps-are = steps-are; steps-unique = steps-unique; at-most-30 = at-most-30 }
