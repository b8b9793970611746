-- Document 01, 'Steps' and 'Status words': a law for each call, in the paper's words, one file a heading, with the word of each refusal (Words).
-- `proof_demands` lifts each to the bytes of its command.
use Rattle.rule_steps.specs.Laws.Fresh.{FreshLaw}
use Rattle.rule_steps.specs.Laws.Create.{CreateLaw}
use Rattle.rule_steps.specs.Laws.Loading.{KeyedLaw, StoredLaw, FinishedLaw}
use Rattle.rule_steps.specs.Laws.Change.{EnableLaw, DisableLaw}
use Rattle.rule_steps.specs.Laws.Deletion.{DeleteLaw, MasterDeleteLaw}
use Rattle.rule_steps.specs.Laws.FallBack.{SetFallBackLaw}
use Rattle.rule_steps.specs.Laws.Confirmation.{ConfirmationLaw}
use Rattle.rule_steps.specs.Laws.Clock.{TickLaw, LostLaw}
use Rattle.rule_steps.specs.Laws.Policy.{SetPolicyLaw}
use Rattle.rule_steps.specs.Laws.Reports.{StatusOfAllLaw, StatusOfNextLaw, StatusOfOneLaw, GetDataLaw}
pub mod Answer
pub mod Fresh
pub mod Words
pub mod Create
pub mod Loading
pub mod Change
pub mod Deletion
pub mod FallBack
pub mod Confirmation
pub mod Clock
pub mod Reports
pub mod Policy
pub mod Met

pub record CallLaws : Type 0 where
  pub fresh : FreshLaw
  pub create : CreateLaw
  pub keyed : KeyedLaw
  pub stored : StoredLaw
  pub finished : FinishedLaw
  pub enable : EnableLaw
  pub disable : DisableLaw
  pub delete : DeleteLaw
  pub master-delete : MasterDeleteLaw
  pub set-fall-back : SetFallBackLaw
  pub confirmation : ConfirmationLaw
  pub status-of-all : StatusOfAllLaw
  pub status-of-next : StatusOfNextLaw
  pub status-of-one : StatusOfOneLaw
  pub get-data : GetDataLaw
  pub tick : TickLaw
  pub lost : LostLaw
  pub set-policy : SetPolicyLaw
