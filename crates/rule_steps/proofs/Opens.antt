-- An enabling or disabling opens a change: a DISABLED place is enabled over the enabled one, which stands DISABLED as the previous
-- profile. The enabled place is one, so on a disabling the fall-back is not it. Assumes nothing.
use mathlib.Core.Path.{◌≡◌, refl, ap, sym, ◌∙◌}
use Prim.Native.Nat.{ℕ}
use native.Mathlib.Omega.{arith}
use mathlib.Core.Bool.{Bool, true, false, ◌||◌, false≢true}
use lib.Dec.{eqb}
use borrow.Author.Tests.{eqb-true, eqb-false}
use Rattle.card_isdp.specs.Sizes.{wait}
use Rattle.card_isdp.specs.LifeCycle.{disabled, enabled, is_enabled}
use Rattle.card_places.specs.Places.{at, enable_at}
use Rattle.card_places.proofs.Lives.{enable-other}
use Rattle.card_places.proofs.Seeks.{enabled-at}
use Rattle.card_places.proofs.Numbered.{only}
use Rattle.card_record.specs.Cards.{enabled_place}
use Rattle.card_record.specs.Clock.{next_number, opened}
use Rattle.card_record.specs.declared.Card.{Card}
use Rattle.card_record.specs.declared.Phase.TheVariants.{Trial}
use Rattle.card_record.proofs.Sounds.{Sound, moves, nonzero, resort-done}

-- the enabled place of a sound card is enabled
pub enabled-life : (c : Card) → Sound c → (at c.places (enabled_place c)).life ≡ enabled
enabled-life c s = eqb-true _ _ (enabled-at c.places s.roles.one)

-- a DISABLED place t is enabled: Trial
pub opens : (c : Card) (t : ℕ) → Sound c → (at c.places t).life ≡ disabled → Sound (opened c t)
opens c t s d =
    let e = enabled_place c in
    let v = enabled-life c s in
    let n : e ≡ t → ⊥ = λ q. let z : ◌≡◌ {A = ℕ} disabled enabled = sym d ∙ ap (λ (i : ℕ). (at c.places i).life) (sym q) ∙ v in omega arith in
    let w : (at (enable_at c.places t) e).life ≡ disabled = rw (enable-other c.places t e n, v) in
    moves c t (Trial e wait (next_number c.last)) s (nonzero _ 30 d) (record { low = omega arith; high = omega arith; issued = refl }, w)

left : (x y : Bool) → (x || y) ≡ true → y ≡ false → x ≡ true
left true y h g = refl
left false y h g = absurd (false≢true (sym g ∙ h))

off-case : (c : Card) (t : ℕ) (b : Bool) → is_enabled (at c.places c.fallback) ≡ b → Sound c → is_enabled (at c.places t) ≡ true → eqb t c.fallback ≡ false → b ≡ false
off-case c t true q s v n = absurd (eqb-false t c.fallback n (only c.places t c.fallback s.roles.one v q))
off-case c t false q s v n = refl

-- where another place is enabled the fall-back is DISABLED
pub fallback-life : (c : Card) (t : ℕ) → Sound c → is_enabled (at c.places t) ≡ true → eqb t c.fallback ≡ false → (at c.places c.fallback).life ≡ disabled
fallback-life c t s v n =
    let f = at c.places c.fallback in
    eqb-true _ _ (left (eqb f.life disabled) (is_enabled f) (resort-done c s) (off-case c t (is_enabled f) refl s v n))
