-- Document 01, 'Status words': which calls an open change never refuses.
use Rattle.std.specs.Prelude.{ℕ, ◌≡◌, List, Bool, true}
use Rattle.card_record.specs.Cards.{in_phase}
use Rattle.card_record.specs.Sound.{sound}
use Rattle.card_record.specs.declared.Card.{Card}
use Rattle.card_record.specs.declared.Phase.TheVariants.{Quiet}
use Rattle.rule_steps.specs.Asked.{Act.status, Act.keyed, Act.stored, Act.finished, Asked, Asked.on, Asked.status_of_all, Asked.get_data, Asked.tick, Asked.lost}
use Rattle.rule_run.specs.Calls.{Call, asked}
use Rattle.rule_run.specs.Step.{step}

-- a call that asks this has, whether a change is open or not, the status that it has on the same card in Quiet
abbrev pub Allowed : Asked → Type 0
Allowed a = (c : Card) (call : Call) → sound c ≡ true → asked c call ≡ a → (step c call).status ≡ (step (in_phase c Quiet) call).status

-- "69 85: a change is open, for create, enable, disable, delete, master delete, set fall-back"; for none of these (decisions 37, B86)
pub record AllowedWhileOpen : Type 0 where
  pub keyed-allowed : (aid : List ℕ) → Allowed (on aid keyed)
  pub stored-allowed : (aid : List ℕ) (n : ℕ) → Allowed (on aid (stored n))
  pub finished-allowed : (aid : List ℕ) (policy mark : ℕ) → Allowed (on aid (finished policy mark))
  pub status-of-all-allowed : (next life fallback : Bool) → Allowed (status_of_all next life fallback)
  pub status-of-one-allowed : (aid : List ℕ) (life fallback : Bool) → Allowed (on aid (status life fallback))
  pub get-data-allowed : Allowed get_data
  pub tick-allowed : Allowed tick
  pub lost-allowed : Allowed lost
