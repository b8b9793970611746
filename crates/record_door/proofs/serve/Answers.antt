-- `door::serve`: each arm cites the promise of the call that it makes, over the AID that its part names; the buffer has room for a response.
use Rattle.rule_steps.specs.Asked.{Act.enable, Act.disable, Act.set_fall_back, Asked.on}
use Rattle.rule_steps.specs.Steps.{asked_work}
use native.Mathlib.Omega.{arith}
use mathlib.Core.Path.{refl}
use Rattle.record_door.proofs.Buffers.{served, none-served}
use Rattle.record_door.proofs.serve.Goals as goal

pub returns-in-Create : goal.returns-in-Create
returns-in-Create c = rw (c.in-Create.is, ← c.part_of.ensures) (served (omega arith) c.create.ensures)

pub returns-in-Enable : goal.returns-in-Enable
returns-in-Enable c = let x = c.part_of-in-Enable in
    let s = c.args in
    rw (c.in-Enable.is, ← x.ensures) (none-served s.card (asked_work s.card (on x.result.now enable)) _ refl c.enable.ensures)

pub returns-in-Disable : goal.returns-in-Disable
returns-in-Disable c = let x = c.part_of-in-Disable in
    let s = c.args in
    rw (c.in-Disable.is, ← x.ensures) (none-served s.card (asked_work s.card (on x.result.now disable)) _ refl c.disable.ensures)

pub returns-in-SetFallBack : goal.returns-in-SetFallBack
returns-in-SetFallBack c = let x = c.part_of-in-SetFallBack in
    let s = c.args in
    rw (c.in-SetFallBack.is, ← x.ensures) (none-served s.card (asked_work s.card (on x.result.now set_fall_back)) _ refl c.set_fall_back.ensures)

pub returns-in-Delete : goal.returns-in-Delete
returns-in-Delete c = rw (c.in-Delete.is, ← c.part_of-in-Delete.ensures) (served (omega arith) c.delete.ensures)

pub returns-in-MasterDelete : goal.returns-in-MasterDelete
returns-in-MasterDelete c = rw (c.in-MasterDelete.is, ← c.part_of-in-MasterDelete.ensures) (served (omega arith) c.master_delete.ensures)

pub returns-in-Confirm : goal.returns-in-Confirm
returns-in-Confirm c = rw c.in-Confirm.is (served (omega arith) c.confirm.ensures)

pub returns-in-GetStatusOfAll : goal.returns-in-GetStatusOfAll
returns-in-GetStatusOfAll c = rw c.in-GetStatusOfAll.is (served (omega arith) c.status_of_all.ensures)

pub returns-in-GetStatusOfOne : goal.returns-in-GetStatusOfOne
returns-in-GetStatusOfOne c = rw (c.in-GetStatusOfOne.is, ← c.part_of-in-GetStatusOfOne.ensures) (served (omega arith) c.status_of_one.ensures)

pub returns-in-GetData : goal.returns-in-GetData
returns-in-GetData c = rw c.in-GetData.is (served (omega arith) c.get_data.ensures)
