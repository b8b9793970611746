-- Three small months, from the examples' fresh card on (document 01, 'Marked examples'): docs/EVENTS.md, "A deleted AID keeps its line, and one created
-- again adds to it"; "a profile that a tick or a lost network enables is enabled too"; "One with no tick has a line with 0".
use Rattle.std.specs.Prelude.{ℕ, ◌≡◌, List, [], ◌∷◌, ◌++◌, false, replicate}
use Rattle.card_isdp.specs.Aids.{no_aid, named}
use Rattle.card_record.specs.declared.Card.{Card}
use Rattle.card_record.specs.declared.Phase.TheVariants.{Quiet}
use Rattle.rule_run.specs.Calls.{Call, Call.Tick, Call.Lost}
use Rattle.rule_run.specs.Samples.{aid, enable, confirm, delete, load, example_card, alone}
use Rattle.month_count.specs.Month.{Counted}
use Rattle.month_count.specs.Statements.{month_from}

-- two lines, F's and 02's, with so many minutes; so many ticks and events, none refused
abbrev pub told : ℕ → ℕ → ℕ → ℕ → Counted
told first second ticks events =
    record {
      tally = record {
        names = record { aids = named (aid 1) ∷ named (aid 2) ∷ replicate 62 no_aid; count = 2; more = false };
        ticks = ticks;
        events = events;
        refused = 0;
      };
      minutes = first ∷ second ∷ replicate 63 0;
    }

-- F alone, as the fresh call makes it
abbrev pub start : Card
start = example_card alone 0 0 Quiet

-- 02 is enabled and confirmed, two ticks, back to F, one tick; 02 is deleted, created again and enabled, one tick
abbrev pub created_again : List Call
created_again =
    load 2 0
    ++ enable 2 ∷ confirm 1 ∷ Tick ∷ Tick ∷ enable 1 ∷ confirm 2 ∷ Tick ∷ delete 2 ∷ []
    ++ load 2 0
    ++ enable 2 ∷ Tick ∷ []

-- 02 is enabled and confirmed, one tick; the network is lost, two ticks
abbrev pub network_lost : List Call
network_lost = load 2 0 ++ enable 2 ∷ confirm 1 ∷ Tick ∷ Lost ∷ Tick ∷ Tick ∷ []

-- 02 is enabled and confirmed, and the network is lost before a tick
abbrev pub lost_at_once : List Call
lost_at_once = load 2 0 ++ enable 2 ∷ confirm 1 ∷ Lost ∷ Tick ∷ []

pub record SmallMonths : Type 0 where
  pub created-again : month_from start created_again ≡ told 1 3 4 18
  pub network-lost : month_from start network_lost ≡ told 2 1 3 10
  pub no-tick : month_from start lost_at_once ≡ told 1 0 1 8
