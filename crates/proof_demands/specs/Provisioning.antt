-- Request 2026-02, its purpose: "the logger could not be provisioned after it fell back". From a fresh card on, whatever the calls, a card that
-- fell back, by a lost network or by a tick, is on a profile that has provisioning capability.
use Rattle.std.specs.Prelude.{ℕ, ◌≡◌, List, true}
use Rattle.base_status.specs.StatusWords.{is_done}
use Rattle.card_isdp.specs.LifeCycle.{enabled}
use Rattle.card_places.specs.Places.{at}
use Rattle.card_record.specs.declared.Card.{Card}
use Rattle.card_record.specs.declared.Phase.TheVariants.{Fallen}
use Rattle.rule_run.specs.Calls.{Call}
use Rattle.rule_run.specs.Step.{run}
use Rattle.rule_run.specs.Inputs.{Inputs, fresh_of}

-- whatever profile is enabled is marked
abbrev pub EnabledMarked : Card → Type 0
EnabledMarked c = (place : ℕ) → (at c.places place).life ≡ enabled → (at c.places place).mark ≡ 1

abbrev pub FallenProvisioned : Type 0
FallenProvisioned =
    (x : Inputs) (calls : List Call) (left number : ℕ)
    → is_done (fresh_of x).status ≡ true
    → (run (fresh_of x).card calls).phase ≡ Fallen left number
    → EnabledMarked (run (fresh_of x).card calls)
