-- `script_session::fresh`: the byte strings handed on are the bytes of the two words.
use mathlib.Core.Path.{◌≡◌, ◌∙◌}
use mathlib.Core.List.{List}
use Prim.Native.Nat.{ℕ}
use Rattle.card_record.specs.Answers.{as_answer}
use Rattle.card_record.specs.Fresh.{fresh_outcome}
use Rattle.card_record.specs.declared.Answer.{Answer}
use Rattle.script_session.proofs.Spelled.{front-is}
use Rattle.script_session.proofs.fresh.Goals as goal

same-fresh : {r : Answer} {eid₁ eid₂ aid₁ aid₂ : List ℕ} (capacity quota used volatile : ℕ) → r ≡ as_answer (fresh_outcome eid₁ aid₁ capacity quota used volatile)
    → eid₁ ≡ eid₂ → aid₁ ≡ aid₂ → r ≡ as_answer (fresh_outcome eid₂ aid₂ capacity quota used volatile)
same-fresh capacity quota used volatile p e f = rw (← e, ← f) p

pub spell-m-requires : goal.spell-m-requires
spell-m-requires c = c.requires.0

pub spell-n-requires : goal.spell-n-requires
spell-n-requires c = c.requires.1

pub returns : goal.returns
returns c = let eid = c.part_of.ensures ∙ front-is _ c.requires.0 c.spell-m.ensures.0 c.spell-m.ensures.1 in
    let aid = c.part_of-2.ensures ∙ front-is _ c.requires.1 c.spell-n.ensures.0 c.spell-n.ensures.1 in
    same-fresh c.args.asked.capacity c.args.asked.quota c.args.asked.used c.args.asked.volatile c.fresh.ensures eid aid
