-- Runs that meet the hypotheses of demand 3, one for each ending, and of `FallenProvisioned`: from the fresh card of the examples, by command bytes.
-- The change shown is the second one of its card, and the profile asked for, the previous one and the fall-back are three.
use Rattle.std.specs.Prelude.{ℕ, ◌≡◌, List, [], ◌∷◌, ◌++◌, Bool, true, false}
use Rattle.card_record.specs.Cards.{is_quiet, on_fallback}
use Rattle.card_record.specs.Sound.{sound}
use Rattle.card_record.specs.declared.Card.{Card}
use Rattle.card_record.specs.declared.Phase.TheVariants.{Fallen}
use Rattle.rule_run.specs.Calls.{Call, Call.Tick, Call.Lost}
use Rattle.rule_run.specs.Step.{step, run}
use Rattle.rule_run.specs.Runs.{enabled_bytes, fallback_bytes, confirms, ticks_among}
use Rattle.proof_demands.specs.Change.{stays_open, Opens}
use Rattle.rule_run.specs.Samples.{aid, fresh, load, enable, disable, confirm, ticks}

-- F is the fall-back, 02 is enabled by a change that is closed, 03 is DISABLED
abbrev pub to_second : List Call
to_second = load 2 0 ++ load 3 0 ++ enable 2 ∷ confirm 1 ∷ []

unfoldable pub second : Card
second = run fresh to_second

-- after the opening come these calls, then the one that closes the change, confirmed or not, with so many ticks before it and this profile enabled
pub record Ends (opening : Call) (calls : List Call) (closing : Call) (confirmed : Bool) (seen profile : ℕ) : Type 0 where
  pub open-before : stays_open (run (step second opening).card) calls ≡ true
  pub quiet-after : is_quiet (run (step second opening).card (calls ++ closing ∷ [])).phase ≡ true
  pub confirming : confirms (run (step second opening).card calls) closing ≡ confirmed
  pub ticked : ticks_among calls ≡ seen
  pub enabled : enabled_bytes (run (step second opening).card (calls ++ closing ∷ [])) ≡ aid profile

pub record Witnesses : Type 0 where
  pub still : sound second ≡ true
  pub quiet : is_quiet second.phase ≡ true
  pub away : on_fallback second ≡ false
  pub previous : enabled_bytes second ≡ aid 2
  pub fallback : fallback_bytes second ≡ aid 1
  pub enabling : Opens second (enable 3) (aid 3)
  pub disabling : Opens second (disable 2) (aid 1)
  -- confirmed before the tenth tick, before the twentieth, not at all
  pub wanted-stays : Ends (enable 3) (ticks 9) (confirm 2) true 9 3
  pub previous-comes-back : Ends (enable 3) (ticks 10 ++ confirm 2 ∷ ticks 9) (confirm 3) true 19 2
  pub fallback-at-last : Ends (enable 3) (ticks 29) Tick false 29 1
  -- the same from a disable, and a lost network
  pub disabled-stays : Ends (disable 2) (ticks 9) (confirm 2) true 9 1
  pub lost-ends : Ends Lost (ticks 9) Tick false 9 1
  -- cards that have fallen back, by a lost network and by the twentieth tick, as `FallenProvisioned` asks
  pub lost-falls : (run fresh (to_second ++ Lost ∷ [])).phase ≡ Fallen 10 2
  pub tick-falls : (run fresh (to_second ++ enable 3 ∷ ticks 20)).phase ≡ Fallen 10 4
