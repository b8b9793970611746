-- `reports::part_word`: the one test decides, in code and definition alike.
use borrow.Author.Tests.{eq-eqb, ne_eqb}
use Rattle.card_record.specs.Cards.{no_place}
use Rattle.record_calls.proofs.reports.part_word.Goals as goal

pub returns-then-left-eq-NO_PLACE : goal.returns-then-left-eq-NO_PLACE
returns-then-left-eq-NO_PLACE c = rw (eq-eqb c.args.left no_place c.if-left-eq-NO_PLACE.true)

pub returns : goal.returns
returns c = rw (ne_eqb c.args.left no_place c.if-left-eq-NO_PLACE.false)
