-- `card_isdp::policy_ok`: the rows of Table 70 are the numbers up to 4.
use mathlib.Core.Path.{sym}
use Rattle.card_isdp.proofs.Policies.{policy-number}
use Rattle.card_isdp.proofs.policy_ok.Goals as goal

pub returns : goal.returns
returns c = sym (policy-number c.args.policy)
