-- Document 01, 'Steps': tick, lost and confirmation. "Entering Trial, Back or Fallen sets ticks left to 10 and issues the next number".
use Rattle.std.specs.Prelude.{ℕ, ◌+◌, ◌-◌, Bool, true, false, not, cond, ◌&&◌, ltb, eqb}
use Rattle.card_isdp.specs.Sizes.{wait, last_number}
use Rattle.card_isdp.specs.Policy.{once_disabled}
use Rattle.card_places.specs.Places.{at, enable_at}
use Rattle.card_record.specs.Cards.{is_quiet, enabled_place, on_fallback, forgotten, with_change, with_phase, cleared}
use Rattle.card_record.specs.declared.Card.{Card}
use Rattle.card_record.specs.declared.Phase.{Phase}
use Rattle.card_record.specs.declared.Phase.TheVariants.{Quiet, Trial, Back, Fallen}

-- "Notification numbers run 1, 2, .. 65535, 0, 1": an old number may be outstanding again (decision 66)
abbrev pub next_number : ℕ → ℕ
next_number n = cond (eqb n last_number) 0 (n + 1)

-- the place at i is enabled, the next number is issued, and the phase opens (decision 9)
abbrev pub switched : Card → ℕ → Phase → Card
switched c i p = with_change c (next_number c.last) p (enable_at c.places i)

-- the profile at place t is enabled in place of the enabled one: Trial
abbrev pub opened : Card → ℕ → Card
opened c t = switched c t (Trial (enabled_place c) wait (next_number c.last))

-- the fall-back is enabled: Fallen
abbrev pub fallen : Card → Card
fallen c = switched c c.fallback (Fallen wait (next_number c.last))

-- "Tick: Quiet, nothing. Else ticks left falls by one; at zero: Trial enables the previous profile, Back; Back enables the
-- fall-back, Fallen, or closes if the fall-back is already enabled; Fallen closes." (decisions 9, 10, 52)
abbrev pub tick_in : Phase → Card → Card
tick_in Quiet c = forgotten c
tick_in (Trial previous left number) c =
    cond (ltb 1 left) (with_phase c (Trial previous (left - 1) number))
    (switched c previous (Back wait (next_number c.last)))
tick_in (Back left number) c =
    cond (ltb 1 left) (with_phase c (Back (left - 1) number))
    (cond (on_fallback c) (with_phase c Quiet) (fallen c))
tick_in (Fallen left number) c =
    cond (ltb 1 left) (with_phase c (Fallen (left - 1) number)) (with_phase c Quiet)

-- the phase stays open over a tick; Quiet stays as it is
abbrev pub waits : Phase → Bool
waits Quiet = true
waits (Trial previous left number) = ltb 1 left
waits (Back left number) = ltb 1 left
waits (Fallen left number) = ltb 1 left

-- "ticks left falls by one"
abbrev pub shorter : Phase → Phase
shorter Quiet = Quiet
shorter (Trial previous left number) = Trial previous (left - 1) number
shorter (Back left number) = Back (left - 1) number
shorter (Fallen left number) = Fallen (left - 1) number

unfoldable pub tick_of : Card → Card
tick_of c = tick_in c.phase c

-- "Lost: if Quiet and the enabled profile is not the fall-back, enable it, Fallen. Else nothing." (decision 52)
unfoldable pub without_network : Card → Card
without_network c = cond (is_quiet c.phase) (cond (on_fallback c) (forgotten c) (fallen c)) (forgotten c)

-- n is the outstanding number; in Quiet there is none (decision 45)
abbrev pub outstanding : Phase → ℕ → Bool
outstanding Quiet n = false
outstanding (Trial previous left number) n = eqb n number
outstanding (Back left number) n = eqb n number
outstanding (Fallen left number) n = eqb n number

-- "the previous profile is then deleted if its policy says delete once disabled and it is not the fall-back" (decisions 44, B63)
abbrev pub dropped : Card → ℕ → Bool
dropped c i = once_disabled (at c.places i).policy && not (eqb i c.fallback)

abbrev pub trial_closed : Card → ℕ → Card
trial_closed c previous =
    cond (dropped c previous) (cleared (with_phase c Quiet) previous) (with_phase c Quiet)

-- "Confirmation: closes the change. In Trial the previous profile is then deleted .." (decisions 10, 43)
abbrev pub confirm_in : Phase → Card → Card
confirm_in Quiet c = with_phase c Quiet
confirm_in (Trial previous left number) c = trial_closed c previous
confirm_in (Back left number) c = with_phase c Quiet
confirm_in (Fallen left number) c = with_phase c Quiet

unfoldable pub confirm_of : Card → Card
confirm_of c = confirm_in c.phase c
