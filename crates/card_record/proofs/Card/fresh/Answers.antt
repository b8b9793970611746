-- `Card::fresh`: both figures of ticks are 0, since both cards are Quiet.
use mathlib.Core.Path.{refl, sym, ◌∙◌}
use borrow.Author.Tests.{eqb-true}
use lib.ListN.{length}
use Rattle.base_status.specs.Rows.{word_of}
use Rattle.card_record.specs.Sound.{sound}
use Rattle.card_record.specs.Ticks.{steps_in, ticks_to_come, ticks_by_phase}
use Rattle.card_record.specs.Answers.{refused, accepted}
use Rattle.card_record.specs.Fresh.{fresh_outcome}
use Rattle.card_isdp.proofs.Bools.{and_l}
use Rattle.card_record.proofs.Card.fresh.Goals as goal

pub returns-then-not-are_ok : goal.returns-then-not-are_ok
unfolding fresh_outcome refused word_of ticks_by_phase sound
returns-then-not-are_ok c = rw (sym c.are_ok.ensures ∙ c.if-not-are_ok.true) (rw (c.refused.ensures, c.zero-zero.ensures))

pub card-requires : goal.card-requires
card-requires c = eqb-true (length c.args.inputs.now.eid.now) 16 (and_l _ _ (sym c.are_ok.ensures ∙ c.if-not-are_ok.false))

pub returns : goal.returns
unfolding fresh_outcome accepted word_of ticks_to_come steps_in ticks_by_phase
returns c = rw (sym c.are_ok.ensures ∙ c.if-not-are_ok.false) (c.answer.ensures ∙ rw c.step_since.ensures (rw c.card.ensures (rw c.zero-zero.ensures refl)))
