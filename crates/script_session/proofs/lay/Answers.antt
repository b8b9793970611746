-- `script_session::lay`: of each call the one byte string stands at the front of the buffer; a policy update is laid by `lay_update`.
use mathlib.Core.Path.{refl, sym, ap}
use mathlib.Core.List.{List}
use Prim.Native.Nat.{ℕ}
use Rattle.base_bytes.proofs.PutLaws.{put-none}
use Rattle.rule_run.specs.Calls.{Call.Command, Call.Keyed, Call.Stored, Call.Finished}
use Rattle.script_session.proofs.Spelled.{front-is, still-fits}
use Rattle.script_session.proofs.lay.Goals as goal

pub spell-requires : goal.spell-requires
spell-requires c = still-fits c.args.out.now c.args.s.now c.in-Command.is c.requires

pub spell-requires-in-Keyed : goal.spell-requires-in-Keyed
spell-requires-in-Keyed c = still-fits c.args.out.now c.args.s.now c.in-Keyed.is c.requires

pub spell-requires-in-Stored : goal.spell-requires-in-Stored
spell-requires-in-Stored c = still-fits c.args.out.now c.args.s.now c.in-Stored.is c.requires

pub spell-requires-in-Finished : goal.spell-requires-in-Finished
spell-requires-in-Finished c = still-fits c.args.out.now c.args.s.now c.in-Finished.is c.requires

pub lay_update-requires : goal.lay_update-requires
lay_update-requires c = still-fits c.args.out.now c.args.s.now c.in-PolicyUpdate.is c.requires

pub returns-in-Command : goal.returns-in-Command
returns-in-Command c = let old = c.args.out.now in
    let same = front-is old (still-fits old c.args.s.now c.in-Command.is c.requires) c.spell.ensures.0 c.spell.ensures.1 in
    rw c.in-Command.is (record { same-call = λ room. ap (λ (v : List ℕ). Command c.in-Command.verdict v room) same; content = c.spell.ensures.1 })

pub returns-in-Keyed : goal.returns-in-Keyed
returns-in-Keyed c = let old = c.args.out.now in
    let same = front-is old (still-fits old c.args.s.now c.in-Keyed.is c.requires) c.spell-in-Keyed.ensures.0 c.spell-in-Keyed.ensures.1 in
    rw c.in-Keyed.is (record { same-call = λ room. ap (λ (v : List ℕ). Keyed v) same; content = c.spell-in-Keyed.ensures.1 })

pub returns-in-Stored : goal.returns-in-Stored
returns-in-Stored c = let old = c.args.out.now in
    let same = front-is old (still-fits old c.args.s.now c.in-Stored.is c.requires) c.spell-in-Stored.ensures.0 c.spell-in-Stored.ensures.1 in
    rw c.in-Stored.is (record { same-call = λ room. ap (λ (v : List ℕ). Stored v c.in-Stored.n) same; content = c.spell-in-Stored.ensures.1 })

pub returns-in-Finished : goal.returns-in-Finished
returns-in-Finished c = let old = c.args.out.now in
    let same = front-is old (still-fits old c.args.s.now c.in-Finished.is c.requires) c.spell-in-Finished.ensures.0 c.spell-in-Finished.ensures.1 in
    rw c.in-Finished.is (record { same-call = λ room. ap (λ (v : List ℕ). Finished v c.in-Finished.policy c.in-Finished.mark) same; content = c.spell-in-Finished.ensures.1 })

pub returns-in-Tick : goal.returns-in-Tick
returns-in-Tick c = rw c.in-Tick.is (record { same-call = λ room. refl; content = sym (put-none _ 0) })

pub returns-in-Lost : goal.returns-in-Lost
returns-in-Lost c = rw c.in-Lost.is (record { same-call = λ room. refl; content = sym (put-none _ 0) })

pub returns-in-PolicyUpdate : goal.returns-in-PolicyUpdate
returns-in-PolicyUpdate c = rw c.in-PolicyUpdate.is c.lay_update.ensures
