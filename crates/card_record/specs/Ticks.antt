-- Document 01, 'Steps': the ticks still to come "equals the count of the tick rule's steps to Quiet from the card handed back".
use Rattle.std.specs.Prelude.{ℕ, zero, suc, ◌+◌, ◌≤◌, ◌≡◌, true, false, cond, eqb}
use Rattle.card_isdp.specs.Sizes.{wait}
use Rattle.card_record.specs.Cards.{is_quiet, on_fallback}
use Rattle.card_record.specs.Sound.{sound}
use Rattle.card_record.specs.Clock.{tick_of}
use Rattle.card_record.specs.declared.Card.{Card}
use Rattle.card_record.specs.declared.Phase.{Phase}
use Rattle.card_record.specs.declared.Phase.TheVariants.{Quiet, Trial, Back, Fallen}

-- the steps of the tick rule to Quiet, of at most so many
unfoldable pub steps_in : ℕ → Card → ℕ
steps_in zero c = 0
steps_in (suc k) c = cond (is_quiet c.phase) 0 (suc (steps_in k (tick_of c)))

-- 300 is more than any record can ask for, sound or not: 255 ticks left, then two waits (decision B11)
unfoldable pub ticks_to_come : Card → ℕ
ticks_to_come c = steps_in 300 c

-- the same without a bound: the steps counted one by one (decision B11)
pub data StepsTo : Card → ℕ → Type 0 where
  quiet : {c : Card} → is_quiet c.phase ≡ true → StepsTo c 0
  ticked : {c : Card} {n : ℕ} → is_quiet c.phase ≡ false → StepsTo (tick_of c) n → StepsTo c (suc n)

-- the same figure in closed form, for a sound card (decision 47)
abbrev pub ticks_in : Phase → Card → ℕ
ticks_in Quiet c = 0
ticks_in (Trial previous left number) c = left + wait + cond (eqb previous c.fallback) 0 wait
ticks_in (Back left number) c = left + cond (on_fallback c) 0 wait
ticks_in (Fallen left number) c = left

unfoldable pub ticks_by_phase : Card → ℕ
ticks_by_phase c = ticks_in c.phase c

-- of a sound card: the closed form is the count, the count is the one without a bound, there is no other, and it is at most 30
pub record TicksCounted : Type 0 where
  pub counted : (c : Card) → sound c ≡ true → ticks_to_come c ≡ ticks_by_phase c
  pub steps-are : (c : Card) → sound c ≡ true → StepsTo c (ticks_to_come c)
  pub steps-unique : {c : Card} {m n : ℕ} → StepsTo c m → StepsTo c n → m ≡ n
  pub at-most-30 : (c : Card) → sound c ≡ true → ticks_by_phase c ≤ 30
