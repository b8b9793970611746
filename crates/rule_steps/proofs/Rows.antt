-- The card's rows of the table by name, as an accepted call has passed each of them. Assumes nothing.
use mathlib.Core.Path.{◌≡◌}
use mathlib.Core.Bool.{false}
use Rattle.base_status.proofs.Tables as rows
use Rattle.card_record.specs.declared.Card.{Card}
use Rattle.rule_steps.specs.Asked.{Asked}
use Rattle.rule_steps.specs.Conditions.{change_wrong, target_missing, already_held, state_wrong, policy_forbids, verdict_wrong, no_room, card_rows}

pub record Passed (c : Card) (a : Asked) : Type 0 where
  pub change : change_wrong c a ≡ false
  pub target : target_missing c a ≡ false
  pub already : already_held c a ≡ false
  pub state : state_wrong c a ≡ false
  pub policy : policy_forbids c a ≡ false
  pub verdict : verdict_wrong a ≡ false
  pub room : no_room c a ≡ false

pub named : (c : Card) (a : Asked) → rows.Passed (card_rows c a) → Passed c a
named c a p =
    record { change = p.0; target = p.1.0; already = p.1.1.0; state = p.1.1.1.0; policy = p.1.1.1.1.0; verdict = p.1.1.1.1.1.0; room = p.1.1.1.1.1.1.0 }
