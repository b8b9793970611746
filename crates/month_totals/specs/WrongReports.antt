-- Document 02, 2026-01: the buyer's present engine, which counts a tick for the profile last named by an accepted enable, and one that counts a tick
-- for the profile enabled after it. Each is the month's count with one thing changed, and neither meets `MeetsLines`.
use Rattle.std.specs.Prelude.{ℕ, ◌≡◌, List, [], ◌∷◌, cond}
use Rattle.card_isdp.specs.Aids.{named}
use Rattle.card_isdp.specs.declared.Aid.{Aid}
use Rattle.card_places.specs.Places.{at}
use Rattle.card_record.specs.Cards.{enabled_aid}
use Rattle.card_record.specs.declared.Card.{Card}
use Rattle.rule_steps.specs.Asked.{Act, Act.enable, Act.disable, Act.delete, Act.master_delete, Act.set_fall_back, Act.status, Act.keyed, Act.stored, Act.finished, Act.set_policy, Asked, on_target}
use Rattle.rule_run.specs.Calls.{Call, asked}
use Rattle.rule_run.specs.Step.{step}
use Rattle.rule_run.specs.Runs.{taken, is_tick}
use Rattle.month_tally.specs.Lines.{line_of, minute_on}
use Rattle.month_file.specs.File.{Verdict.Accepted, verdict_of}
use Rattle.month_count.specs.Month.{Counted, at_first, tallied, file_counted}
use Rattle.month_totals.specs.Reports.{Report, on_file, MeetsLines}
use Rattle.month_totals.specs.Examples.{told}
use Rattle.month_totals.specs.RollBack as roll_back

-- one event, a tick counted for this AID
abbrev pub counted_for : Aid → Card → Call → Counted → Counted
counted_for a c call k =
    record {
      tally = tallied k.tally call (step c call);
      minutes = cond (is_tick call) (minute_on (line_of (tallied k.tally call (step c call)).names a) k.minutes) k.minutes;
    }

-- the profile last named: by an enable its own, by a disable the fall-back
abbrev pub asked_on : Card → List ℕ → Act → Aid → Aid
asked_on c aid enable last = named aid
asked_on c aid disable last = (at c.places c.fallback).aid
asked_on c aid delete last = last
asked_on c aid (master_delete verdict) last = last
asked_on c aid set_fall_back last = last
asked_on c aid (status life fallback) last = last
asked_on c aid keyed last = last
asked_on c aid (stored n) last = last
asked_on c aid (finished policy mark) last = last
asked_on c aid (set_policy policy) last = last

abbrev pub asked_for : Card → Asked → Aid → Aid
asked_for c a last = on_target last (λ aid act. asked_on c aid act last) a

abbrev pub last_asked : Card → Call → Aid → Aid
last_asked c call last = cond (taken c call) (asked_for c (asked c call) last) last

unfoldable pub counting_named : Aid → Card → List Call → Counted → Counted
counting_named last c [] k = k
counting_named last c (call ∷ calls) k = counting_named (last_asked c call last) (step c call).card calls (counted_for last c call k)

-- the buyer's present engine
abbrev pub named_report : Report
named_report c calls = counting_named (enabled_aid c) c calls (at_first c)

unfoldable pub counting_after : Card → List Call → Counted → Counted
counting_after c [] k = k
counting_after c (call ∷ calls) k = counting_after (step c call).card calls (counted_for (enabled_aid (step c call).card) c call k)

-- one that counts a tick for the profile enabled after it
abbrev pub after_report : Report
after_report c calls = counting_after c calls (at_first c)

-- the file of an enable that rolls back, the three beside each other: the minutes of the profile enabled, of the one last named, and of the one enabled after
pub record Beside : Type 0 where
  pub accepted : verdict_of roll_back.file ≡ Accepted
  pub enabled : file_counted roll_back.file ≡ told 5 10 15 20
  pub last-named : on_file named_report roll_back.file ≡ told 0 15 15 20
  pub enabled-after : on_file after_report roll_back.file ≡ told 6 9 15 20

pub record WrongReports : Type 0 where
  pub named : MeetsLines named_report → ⊥
  pub after : MeetsLines after_report → ⊥
