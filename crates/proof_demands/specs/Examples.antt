-- Document 01, 'Marked examples': the twelve as a single table, each row run by the manager's definitions from command bytes on.
-- "Fresh card F = A0 00 00 00 01, others A0 00 00 00 02 and so on." Examples 7, 8, 10 have a row for each call that issues a number,
-- example 6 one for its delete; example 2 has its profile unmarked beside it.
use Rattle.std.specs.Prelude.{ℕ, ◌≡◌, List, [], ◌∷◌, ◌++◌, replicate}
use Rattle.base_status.specs.StatusWords.{number_of}
use Rattle.card_isdp.specs.Aids.{named}
use Rattle.card_isdp.specs.LifeCycle.{selectable, disabled, enabled}
use Rattle.card_isdp.specs.Profile.{profile}
use Rattle.card_isdp.specs.Place.{vacant}
use Rattle.card_record.specs.Cards as cards
use Rattle.card_record.specs.Answers.{Outcome}
use Rattle.card_record.specs.Notifications.{code_of}
use Rattle.card_record.specs.declared.Card.{Card}
use Rattle.card_record.specs.declared.Notification.{Notification}
use Rattle.card_record.specs.declared.Phase.TheVariants.{Quiet, Trial, Back, Fallen}
use Rattle.rule_run.specs.Calls.{Call, Call.Tick, Call.Lost}
use Rattle.rule_run.specs.Step.{step, run}
use Rattle.rule_run.specs.Samples.{aid, command, get_status, set_fall_back, enable, disable, confirm, delete, create, creates, fresh, load_with, load, example_card, alone, two_with, two, created, card_of_two, ticks}

-- a notification with its kind by the code of 000 (4.1.1.11): 02 changed, 03 rolled back, 05 fallen back, 00 none
pub record Notice : Type 0 where
  pub kind : ℕ
  pub number : ℕ
  pub eid : List ℕ
  pub aid : List ℕ
  pub aid-length : ℕ

-- that the profile whose AID ends so is enabled; no notification
abbrev pub notice : ℕ → ℕ → ℕ → Notice
notice kind number n =
    record { kind = kind; number = number; eid = replicate 16 0x89; aid = aid n ++ replicate 11 0x00; aid-length = 5 }

abbrev pub none : Notice
none = record { kind = 0x00; number = 0; eid = replicate 16 0x00; aid = replicate 16 0x00; aid-length = 0 }

abbrev pub notice_of : Notification → Notice
notice_of n =
    record { kind = code_of n.kind; number = n.number; eid = n.eid; aid = n.aid.bytes; aid-length = n.aid.len }

-- from this card, after these calls, this one is answered so, and the card handed back is this one, in all its fields
pub record Example : Type 0 where
  pub number : ℕ
  pub start : Card
  pub before : List Call
  pub call : Call
  pub word : ℕ
  pub response : List ℕ
  pub notification : Notice
  pub ticks : ℕ
  pub card : Card

abbrev pub examples : List Example
examples =
    record { number = 1; start = fresh; before = []; call = get_status; word = 0x9000; response = 0xE3 ∷ 0x0E ∷ 0x4F ∷ 0x05 ∷ 0xA0 ∷ 0x00 ∷ 0x00 ∷ 0x00 ∷ 0x01 ∷ 0x9F ∷ 0x70 ∷ 0x01 ∷ 0x3F ∷ 0x53 ∷ 0x01 ∷ 0x01 ∷ []; notification = none; ticks = 0; card = example_card alone 0 0 Quiet }
    ∷ record { number = 2; start = fresh; before = load 2 0; call = set_fall_back 2; word = 0x9000; response = []; notification = none; ticks = 0; card = example_card (two enabled disabled) 0 1 Quiet }
    ∷ record { number = 2; start = fresh; before = load_with 2 0 0; call = set_fall_back 2; word = 0x6985; response = []; notification = none; ticks = 0; card = example_card (two_with 0 enabled disabled) 0 0 Quiet }
    ∷ record { number = 2; start = fresh; before = []; call = set_fall_back 2; word = 0x6A88; response = []; notification = none; ticks = 0; card = example_card alone 0 0 Quiet }
    ∷ record { number = 3; start = fresh; before = load 2 0; call = command (0x80 ∷ 0xE2 ∷ 0x87 ∷ 0x00 ∷ 0x0A ∷ 0x3A ∷ 0x05 ∷ 0x07 ∷ 0x4F ∷ 0x05 ∷ aid 2); word = 0x6A86; response = []; notification = none; ticks = 0; card = example_card (two enabled disabled) 0 0 Quiet }
    ∷ record { number = 3; start = fresh; before = load 2 0; call = command (0x80 ∷ 0xE2 ∷ 0x88 ∷ 0x00 ∷ 0x09 ∷ 0x3A ∷ 0x05 ∷ 0x07 ∷ 0x4F ∷ 0x05 ∷ aid 2); word = 0x6700; response = []; notification = none; ticks = 0; card = example_card (two enabled disabled) 0 0 Quiet }
    ∷ record { number = 4; start = fresh; before = load 2 0; call = command (0x80 ∷ 0xE2 ∷ 0x88 ∷ 0x00 ∷ 0x09 ∷ 0x3A ∷ 0x05 ∷ 0x06 ∷ 0x4F ∷ 0x04 ∷ 0xA0 ∷ 0x00 ∷ 0x00 ∷ 0x00 ∷ []); word = 0x6A80; response = []; notification = none; ticks = 0; card = example_card (two enabled disabled) 0 0 Quiet }
    ∷ record { number = 5; start = fresh; before = []; call = create 2 900; word = 0x9000; response = 0x00 ∷ []; notification = none; ticks = 0; card = example_card (alone ++ profile (named (aid 2)) selectable 900 0 0 0 ∷ []) 0 0 Quiet }
    ∷ record { number = 5; start = fresh; before = []; call = create 2 901; word = 0x6A84; response = []; notification = none; ticks = 0; card = example_card alone 0 0 Quiet }
    ∷ record { number = 6; start = fresh; before = load 2 0 ++ creates 3 29; call = create 32 1; word = 0x9000; response = 0x00 ∷ []; notification = none; ticks = 0; card = example_card (two enabled disabled ++ created 3 30) 0 0 Quiet }
    ∷ record { number = 6; start = fresh; before = load 2 0 ++ creates 3 30; call = create 33 1; word = 0x6A84; response = []; notification = none; ticks = 0; card = example_card (two enabled disabled ++ created 3 30) 0 0 Quiet }
    ∷ record { number = 6; start = fresh; before = load 2 0 ++ creates 3 30; call = delete 2; word = 0x9000; response = 0x00 ∷ []; notification = none; ticks = 0; card = example_card (alone ++ vacant ∷ created 3 30) 0 0 Quiet }
    ∷ record { number = 6; start = fresh; before = load 2 0 ++ creates 3 30 ++ delete 2 ∷ []; call = create 33 1; word = 0x9000; response = 0x00 ∷ []; notification = none; ticks = 0; card = example_card (alone ++ profile (named (aid 33)) selectable 1 0 0 0 ∷ created 3 30) 0 0 Quiet }
    ∷ record { number = 7; start = fresh; before = load 2 0; call = enable 2; word = 0x9000; response = []; notification = notice 0x02 1 2; ticks = 20; card = example_card (two disabled enabled) 1 0 (Trial 0 10 1) }
    ∷ record { number = 7; start = fresh; before = load 2 0 ++ enable 2 ∷ ticks 9; call = confirm 1; word = 0x9000; response = []; notification = none; ticks = 0; card = example_card (two disabled enabled) 1 0 Quiet }
    ∷ record { number = 8; start = fresh; before = load 2 0 ++ enable 2 ∷ ticks 9; call = Tick; word = 0x9000; response = []; notification = notice 0x03 2 1; ticks = 10; card = example_card (two enabled disabled) 2 0 (Back 10 2) }
    ∷ record { number = 8; start = fresh; before = load 2 0 ++ enable 2 ∷ ticks 10; call = confirm 1; word = 0x6A88; response = []; notification = none; ticks = 10; card = example_card (two enabled disabled) 2 0 (Back 10 2) }
    ∷ record { number = 9; start = fresh; before = load 2 0 ++ enable 2 ∷ ticks 19; call = Tick; word = 0x9000; response = []; notification = none; ticks = 0; card = example_card (two enabled disabled) 2 0 Quiet }
    ∷ record { number = 10; start = card_of_two disabled enabled 0; before = []; call = disable 2; word = 0x9000; response = []; notification = notice 0x02 1 1; ticks = 30; card = example_card (two enabled disabled) 1 0 (Trial 1 10 1) }
    ∷ record { number = 10; start = card_of_two disabled enabled 0; before = disable 2 ∷ ticks 9; call = Tick; word = 0x9000; response = []; notification = notice 0x03 2 2; ticks = 20; card = example_card (two disabled enabled) 2 0 (Back 10 2) }
    ∷ record { number = 10; start = card_of_two disabled enabled 0; before = disable 2 ∷ ticks 19; call = Tick; word = 0x9000; response = []; notification = notice 0x05 3 1; ticks = 10; card = example_card (two enabled disabled) 3 0 (Fallen 10 3) }
    ∷ record { number = 10; start = card_of_two disabled enabled 0; before = disable 2 ∷ ticks 29; call = Tick; word = 0x9000; response = []; notification = none; ticks = 0; card = example_card (two enabled disabled) 3 0 Quiet }
    ∷ record { number = 11; start = card_of_two enabled disabled 65535; before = []; call = enable 2; word = 0x9000; response = []; notification = notice 0x02 0 2; ticks = 20; card = example_card (two disabled enabled) 0 0 (Trial 0 10 0) }
    ∷ record { number = 12; start = fresh; before = []; call = Lost; word = 0x9000; response = []; notification = none; ticks = 0; card = example_card alone 0 0 Quiet }
    ∷ []

-- the word by its number, the notification with its kind by its code, and the rest of an answer as it is
pub record Seen : Type 0 where
  pub word : ℕ
  pub response : List ℕ
  pub notification : Notice
  pub ticks : ℕ
  pub card : Card

abbrev pub seen : Outcome → Seen
seen o =
    record {
      word = number_of o.status;
      response = o.response;
      notification = notice_of o.notification;
      ticks = o.ticks;
      card = o.card;
    }

abbrev pub expected : Example → Seen
expected e =
    record {
      word = e.word;
      response = e.response;
      notification = e.notification;
      ticks = e.ticks;
      card = e.card;
    }

unfoldable pub all_seen : List Example → List Seen
all_seen [] = []
all_seen (e ∷ rest) = seen (step (run e.start e.before) e.call) ∷ all_seen rest

unfoldable pub all_expected : List Example → List Seen
all_expected [] = []
all_expected (e ∷ rest) = expected e ∷ all_expected rest

abbrev pub MarkedExamples : Type 0
MarkedExamples = all_seen examples ≡ all_expected examples
