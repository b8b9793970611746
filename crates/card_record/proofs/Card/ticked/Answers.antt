-- `Card::ticked`: where the phase waits on no number is issued, so there is no notification; else the step's own answer.
use mathlib.Core.Path.{sym, ◌∙◌}
use Rattle.card_record.specs.Steps.{tick_step}
use Rattle.card_record.specs.Clock.{tick_of}
use Rattle.card_record.proofs.Noticed.{unissued}
use Rattle.card_record.proofs.Waits.{waited-last}
use Rattle.card_record.proofs.Card.ticked.Goals as goal

pub returns-then-waits : goal.returns-then-waits
unfolding tick_step
returns-then-waits c = rw (c.silently.ensures, c.waited.ensures, unissued c.args.self.last (tick_of c.args.self) (waited-last c.args.self (sym c.waits.ensures ∙ c.if-waits.true)))
