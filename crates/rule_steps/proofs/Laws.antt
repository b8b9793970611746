-- The law of each call, and what they share.
use Rattle.rule_steps.specs.Laws.{CallLaws}
use Rattle.rule_steps.proofs.Laws.Fresh.{fresh-law}
use Rattle.rule_steps.proofs.Laws.Create.{create-law}
use Rattle.rule_steps.proofs.Laws.Loading.{keyed-law, stored-law, finished-law}
use Rattle.rule_steps.proofs.Laws.Change.{enable-law, disable-law}
use Rattle.rule_steps.proofs.Laws.Deletion.{delete-law, master-delete-law}
use Rattle.rule_steps.proofs.Laws.FallBack.{set-fall-back-law}
use Rattle.rule_steps.proofs.Laws.Confirmation.{confirmation-law}
use Rattle.rule_steps.proofs.Laws.Reports.{status-of-all-law, status-of-next-law, status-of-one-law, get-data-law}
use Rattle.rule_steps.proofs.Laws.Clock.{tick-law, lost-law}
use Rattle.rule_steps.proofs.Laws.Policy.{set-policy-law}
pub mod Places
pub mod Words
pub mod Answer
pub mod Fresh
pub mod Create
pub mod Loading
pub mod Change
pub mod Deletion
pub mod FallBack
pub mod Confirmation
pub mod Reports
pub mod Clock
pub mod Policy
pub mod Met

pub call-laws : CallLaws
call-laws =
    record {
      fresh = fresh-law;
      create = create-law;
      keyed = keyed-law;
      stored = stored-law;
      finished = finished-law;
      enable = enable-law;
      disable = disable-law;
      delete = delete-law;
      master-delete = master-delete-law;
      set-fall-back = set-fall-back-law;
      confirmation = confirmation-law;
      status-of-all = status-of-all-law;
      status-of-next = status-of-next-law;
      status-of-one = status-of-one-law;
      get-data = get-data-law;
      tick = tick-law;
      lost = lost-law;
      set-policy = set-policy-law;
    }
