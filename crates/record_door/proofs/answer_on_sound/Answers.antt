-- `door::answer_on_sound`: each arm cites the promise of what it calls; what a part names is the call's value.
use mathlib.Core.Path.{refl}
use Rattle.base_status.specs.Rows.{word_of}
use Rattle.rule_steps.specs.Asked.{Act.keyed, Act.stored, Act.finished, Asked.tick, Asked.lost}
use Rattle.rule_steps.specs.Steps.{asked_work, inner_work}
use Rattle.rule_run.specs.Step.{on_sound}
use Rattle.record_door.proofs.Buffers.{none-served}
use Rattle.record_door.proofs.answer_on_sound.Goals as goal

pub returns-in-Command : goal.returns-in-Command
returns-in-Command c = rw (c.in-Command.is, ← c.part_of.ensures) c.command.ensures

pub returns-in-Keyed : goal.returns-in-Keyed
unfolding on_sound word_of
returns-in-Keyed c = let x = c.part_of-in-Keyed in
    rw (c.in-Keyed.is, ← x.ensures) (none-served c.args.card (inner_work c.args.card x.result.now keyed) _ refl c.keyed.ensures)

pub returns-in-Stored : goal.returns-in-Stored
unfolding on_sound word_of
returns-in-Stored c = let x = c.part_of-in-Stored in
    rw (c.in-Stored.is, ← x.ensures) (none-served c.args.card (inner_work c.args.card x.result.now (stored c.in-Stored.n)) _ refl c.stored.ensures)

pub returns-in-Finished : goal.returns-in-Finished
unfolding on_sound word_of
returns-in-Finished c = let x = c.part_of-in-Finished in
    rw (c.in-Finished.is, ← x.ensures) (none-served c.args.card (inner_work c.args.card x.result.now (finished c.in-Finished.policy c.in-Finished.mark)) _ refl c.finished.ensures)

pub returns-in-Tick : goal.returns-in-Tick
unfolding on_sound word_of
returns-in-Tick c = rw c.in-Tick.is (none-served c.args.card (asked_work c.args.card tick) _ refl c.ticked.ensures)

pub returns-in-Lost : goal.returns-in-Lost
unfolding on_sound word_of
returns-in-Lost c = rw c.in-Lost.is (none-served c.args.card (asked_work c.args.card lost) _ refl (rw (c.answer.ensures, c.lost.ensures)))

pub returns-in-PolicyUpdate : goal.returns-in-PolicyUpdate
returns-in-PolicyUpdate c = rw (c.in-PolicyUpdate.is, ← c.part_of-in-PolicyUpdate.ensures, ← c.part_of-in-PolicyUpdate-2.ensures) c.policy.ensures
