-- In Fallen the fall-back is enabled, no other profile is, and the fall-back of a sound card is marked; every run from fresh is sound.
use mathlib.Core.Path.{subst}
use borrow.Author.Tests.{eq-eqb}
use Rattle.card_record.specs.declared.Phase.{Phase}
use Rattle.card_record.proofs.Sounds.{Phased, parts, fall-back-marked}
use Rattle.card_record.proofs.Freshness.{fresh-sound}
use Rattle.card_places.proofs.Numbered.{only}
use Rattle.rule_run.proofs.Kept.{run_sound}
use Rattle.rule_run.specs.Step.{run}
use Rattle.rule_run.specs.Inputs.{fresh_of}
use Rattle.proof_demands.specs.Provisioning.{FallenProvisioned}

pub fallen-provisioned : FallenProvisioned
fallen-provisioned x calls left number made fell place on =
    let c = run (fresh_of x).card calls in
    let s = run_sound (fresh_of x).card calls (fresh-sound x.eid x.aid x.capacity x.quota x.used x.volatile made) in
    let w = parts c s in
    let h = (subst (λ (p : Phase). Phased p c) fell w.phased).1 in
    rw (only c.places place c.fallback w.roles.one (eq-eqb _ _ on) (eq-eqb _ _ h)) (fall-back-marked c s)
