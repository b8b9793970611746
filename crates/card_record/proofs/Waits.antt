-- The tick rule in two halves: where a phase waits on, a tick writes a shorter phase and nothing else. By the phase.
use mathlib.Core.Path.{◌≡◌, refl, ap, sym}
use mathlib.Core.Bool.{true}
use Rattle.card_record.specs.Cards.{with_phase}
use Rattle.card_record.specs.Clock.{waits, shorter, tick_in, tick_of}
use Rattle.card_record.specs.declared.Card.{Card}
use Rattle.card_record.specs.declared.Phase.{Phase}
use Rattle.card_record.specs.declared.Phase.TheVariants.{Quiet, Trial, Back, Fallen}

waited-case : (c : Card) (p : Phase) → c.phase ≡ p → waits p ≡ true → with_phase c (shorter p) ≡ tick_in p c
waited-case c Quiet e h = ap (with_phase c) (sym e)
waited-case c (Trial previous left number) e h = rw h
waited-case c (Back left number) e h = rw h
waited-case c (Fallen left number) e h = rw h

pub waited-on : (c : Card) → waits c.phase ≡ true → with_phase c (shorter c.phase) ≡ tick_of c
unfolding tick_of
waited-on c h = waited-case c c.phase refl h

-- so no number is issued
pub waited-last : (c : Card) → waits c.phase ≡ true → (tick_of c).last ≡ c.last
waited-last c h = ap (λ (d : Card). d.last) (sym (waited-on c h))
