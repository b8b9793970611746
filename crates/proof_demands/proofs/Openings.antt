-- Demand 3, from its opening: an accepted enable or disable leads to Trial with the place wanted enabled and the one that was enabled
-- as the previous one; a lost network to Fallen. The rest is the course of a change (Changes). Assumes nothing.
use mathlib.Core.Path.{◌≡◌, refl, ap, sym, ◌∙◌}
use Prim.Native.Nat.{ℕ}
use mathlib.Core.List.{List}
use mathlib.Core.Bool.{Bool, true, false, false≢true}
use lib.Dec.{eqb}
use borrow.Author.Tests.{eqb-true, eq-eqb, ne_eqb, not-true, not-false}
use Rattle.base_bytes.proofs.Alike.{same_true}
use Rattle.base_status.specs.StatusWords.{is_done}
use Rattle.base_status.specs.Rows.{word_of}
use Rattle.base_status.specs.declared.Status.TheVariants.{Done}
use Rattle.card_isdp.specs.Aids.{aid_of}
use Rattle.card_isdp.specs.Place.{held, is_for}
use Rattle.card_isdp.specs.LifeCycle.{disabled, is_enabled}
use Rattle.card_isdp.proofs.Bools.{and_l, and_r}
use Rattle.card_isdp.specs.declared.Isdp.{Isdp}
use Rattle.card_places.specs.Places.{at}
use Rattle.card_places.proofs.Lives.{enable-at, enable-lives, lives_at, within}
use Rattle.card_places.proofs.Seeks.{enabled-at, seek-below}
use Rattle.card_places.proofs.Numbered.{only}
use Rattle.card_record.specs.Cards.{is_quiet, place_of, profile_of, enabled_place, on_fallback}
use Rattle.card_record.specs.Sound.{sound}
use Rattle.card_record.specs.Clock.{next_number, opened, fallen, without_network}
use Rattle.card_record.specs.Steps.{lost_step}
use Rattle.card_record.specs.Answers.{Outcome, accepted}
use Rattle.card_record.specs.declared.Card.{Card}
use Rattle.card_record.proofs.Sounds.{parts, whole, nonzero}
use Rattle.rule_steps.proofs.Rows.{Passed}
use Rattle.rule_steps.specs.Steps.{success_of}
use Rattle.rule_steps.specs.Asked.{Act.enable, Act.disable, Asked.on}
use Rattle.rule_steps.proofs.Opens as steps
use Rattle.rule_run.specs.Calls.{Call, Call.Lost, asked}
use Rattle.rule_run.specs.Step.{step, step_by, run}
use Rattle.rule_run.proofs.Kept.{step-sound}
use Rattle.rule_run.specs.Runs.{enabled_bytes, fallback_bytes, taken}
use Rattle.proof_demands.specs.Change.{Opens, Opens.enables, Opens.disables, last_tick, Change, Demand3, LostNetwork}
use Rattle.rule_run.proofs.Taken.{takes_step, card-passed, taken-sound}
use Rattle.rule_run.proofs.Words.{word-is}
use Rattle.proof_demands.proofs.Frames.{taken_step}
use Rattle.proof_demands.proofs.Changes.{closing_tick, Opened, opened-course, lost-course}
use Rattle.proof_demands.proofs.Named.{Named, change-named, lost-named}

-- a DISABLED place is enabled in place of the enabled one
opens : (c : Card) (t : ℕ) → sound c ≡ true → (at c.places t).life ≡ disabled → Opened t (enabled_place c) c.fallback (opened c t)
opens c t s d =
    record {
      number = next_number c.last;
      still = whole _ (steps.opens c t (parts c s) d);
      same = refl;
      trial = refl;
      wanted = eq-eqb _ _ (enable-at c.places t (within c.places t (nonzero _ 30 d)));
    }

-- by the rows that enable and disable have passed
enable-opens : (c : Card) (aid : List ℕ) → sound c ≡ true → Passed c (on aid enable) → Opened (place_of c aid) (enabled_place c) c.fallback (opened c (place_of c aid))
enable-opens c aid s p = opens c (place_of c aid) s (eqb-true _ _ (not-false _ p.state))

disable-opens : (c : Card) (aid : List ℕ) → sound c ≡ true → Passed c (on aid disable) → Opened c.fallback (enabled_place c) c.fallback (opened c c.fallback)
disable-opens c aid s p =
    let h = not-false _ p.state in
    let v = and_l (is_enabled (profile_of c aid)) _ h in
    let n = not-true _ (and_r (is_enabled (profile_of c aid)) _ h) in
    opens c c.fallback s (steps.fallback-life c (place_of c aid) (parts c s) v n)

-- a place that is enabled keeps its AID
opened-named : (c : Card) (t : ℕ) → Named c (opened c t)
opened-named c t i = ap (λ (p : Isdp). p.aid) (lives_at (enable-lives c.places t) i)

-- the place found for an AID bears it
found-aid : (c : Card) (aid : List ℕ) → (profile_of c aid).life ≡ disabled → aid_of (profile_of c aid) ≡ aid
unfolding is_for
found-aid c aid d =
    let k = within c.places (place_of c aid) (nonzero _ 30 d) in
    same_true _ _ (and_r (held (profile_of c aid)) _ (seek-below (is_for aid) c.places k))

-- the change closes at the twentieth tick exactly where the fall-back was enabled
tick-case : (c : Card) (b : Bool) → on_fallback c ≡ b → sound c ≡ true → eqb (enabled_place c) c.fallback ≡ b
tick-case c true e s =
    eq-eqb _ _ (only c.places (enabled_place c) c.fallback (parts c s).roles.one (enabled-at c.places (parts c s).roles.one) e)
tick-case c false e s =
    ne_eqb _ _ (λ q. false≢true (sym e ∙ ap (λ (i : ℕ). is_enabled (at c.places i)) (sym q) ∙ enabled-at c.places (parts c s).roles.one))

last-tick : (c : Card) → sound c ≡ true → closing_tick (enabled_place c) c.fallback ≡ last_tick c
last-tick c s = rw (tick-case c (on_fallback c) refl s)

change-of : (c : Card) (t : ℕ) → sound c ≡ true → Opened t (enabled_place c) c.fallback (opened c t) → Change (aid_of (at c.places t)) (enabled_bytes c) (fallback_bytes c) (last_tick c) (run (opened c t))
change-of c t s o =
    rw (last-tick c s) at (change-named c (opened c t) o.still refl (opened-named c t) t (enabled_place c) c.fallback (opened-course t (enabled_place c) c.fallback (opened c t) o))

-- the word of an accepted call
taken_word : (c : Card) (call : Call) → taken c call ≡ true → (step c call).status ≡ success_of c (asked c call)
unfolding accepted
taken_word c call e = ap (λ (o : Outcome). o.status) (takes_step c call (ap is_done (word-is c call) ∙ e))

-- the card that an accepted enable or disable leads to
pub record Begun (c : Card) (call : Call) (wanted : List ℕ) : Type 0 where
  pub still : sound c ≡ true
  pub place : ℕ
  pub done : (step c call).status ≡ Done
  pub card-is : (step c call).card ≡ opened c place
  pub opened-there : Opened place (enabled_place c) c.fallback (opened c place)
  pub named : aid_of (at c.places place) ≡ wanted

pub begun : (c : Card) (call : Call) (wanted : List ℕ) → Opens c call wanted → Begun c call wanted
begun c call _ (enables aid a e) =
    let s = taken-sound c call e in
    let p : Passed c (on aid enable) = rw a at (card-passed c call e) in
    record {
      still = s;
      place = place_of c aid;
      done = taken_word c call e ∙ ap (success_of c) a;
      card-is = rw (taken_step c call e, a);
      opened-there = enable-opens c aid s p;
      named = found-aid c aid (eqb-true _ _ (not-false _ p.state));
    }
begun c call _ (disables aid a e) =
    let s = taken-sound c call e in
    let p : Passed c (on aid disable) = rw a at (card-passed c call e) in
    record {
      still = s;
      place = c.fallback;
      done = taken_word c call e ∙ ap (success_of c) a;
      card-is = rw (taken_step c call e, a);
      opened-there = disable-opens c aid s p;
      named = refl;
    }

pub demand-3 : Demand3
demand-3 c call wanted o =
    let b = begun c call wanted o in
    rw b.card-is (rw b.named at (change-of c b.place b.still b.opened-there))

-- a lost network
lost-card : (c : Card) → sound c ≡ true → is_quiet c.phase ≡ true → on_fallback c ≡ false → (step c Lost).card ≡ fallen c
unfolding step_by word_of accepted lost_step without_network
lost-card c s q b = rw (s, q, b)

pub lost-network : LostNetwork
lost-network c s q b =
    let e = lost-card c s q b in
    let k : sound (fallen c) ≡ true = rw e at (step-sound c Lost s) in
    rw e
    (lost-named c (fallen c) k refl (λ i. ap (λ (p : Isdp). p.aid) (lives_at (enable-lives c.places c.fallback) i)) c.fallback
    (lost-course c.fallback (next_number c.last) (fallen c) k refl refl))
