-- `cells::share_lead`: the ranges tell how many letters the share has.
use mathlib.Core.Path.{refl}
use native.Mathlib.Omega.{arith}
use Rattle.base_choice.proofs.Branches.{lt!, nlt! }
use Rattle.month_report.specs.Report.{share_lead}
use Rattle.month_report.proofs.cells.share_lead.Goals as goal

pub returns-in-0-to-99 : goal.returns-in-0-to-99
unfolding share_lead
returns-in-0-to-99 c = lt! _ (omega arith) refl

pub returns-in-100-to-999 : goal.returns-in-100-to-999
unfolding share_lead
returns-in-100-to-999 c = nlt! _ (omega arith) (lt! _ (omega arith) refl)

pub returns-in_default : goal.returns-in_default
unfolding share_lead
returns-in_default c = nlt! _ (omega arith) (nlt! _ (omega arith) refl)
