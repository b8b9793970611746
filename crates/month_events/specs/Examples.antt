-- docs/EVENTS.md, 'The file' and 'What is refused', computed: small bodies and what is wrong with them, each boundary with its neighbour, and
-- those that meet two tests, which pin the order; and the call that an event of each kind is.
use Rattle.std.specs.Prelude.{ℕ, ◌≡◌, List, [], ◌∷◌, replicate, Result, Ok, Err}
use Rattle.rule_run.specs.Calls.{Call.Command, Call.Keyed, Call.Stored, Call.Finished, Call.Tick, Call.Lost, Call.PolicyUpdate}
use Rattle.month_events.specs.Events.{events_of, calls_of, checked_of}
use Rattle.month_events.specs.declared.EventsWrong.{EventsWrong}
use Rattle.month_events.specs.declared.EventsWrong.TheVariants.{CutShort, UnknownKind, WrongLength}

pub record EventCase : Type 0 where
  pub says : Result (Unit {0}) EventsWrong
  pub body : List ℕ

abbrev pub right_case : List ℕ → EventCase
right_case body = record { says = Ok tt; body = body }

abbrev pub wrong_case : EventsWrong → List ℕ → EventCase
wrong_case wrong body = record { says = Err wrong; body = body }

abbrev pub event_cases : List EventCase
event_cases =
    -- "events one after the other, to its end"
    right_case []
    ∷ right_case (5 ∷ 0 ∷ 0 ∷ 6 ∷ 0 ∷ 0 ∷ [])
    -- "under three bytes are left for its kind and length, or fewer than its length says"
    ∷ wrong_case CutShort (5 ∷ [])
    ∷ wrong_case CutShort (5 ∷ 0 ∷ [])
    ∷ wrong_case CutShort (5 ∷ 0 ∷ 0 ∷ 5 ∷ 0 ∷ [])
    ∷ wrong_case CutShort (2 ∷ 0 ∷ 2 ∷ 0xA0 ∷ [])
    ∷ right_case (2 ∷ 0 ∷ 2 ∷ 0xA0 ∷ 0xA0 ∷ [])
    -- the length has two bytes, high byte first
    ∷ wrong_case CutShort (2 ∷ 1 ∷ 0 ∷ replicate 255 0xA0)
    ∷ right_case (2 ∷ 1 ∷ 0 ∷ replicate 256 0xA0)
    -- a cut event is told before a kind that is not known and a wrong length, though these come earlier
    ∷ wrong_case CutShort (9 ∷ 0 ∷ 0 ∷ 5 ∷ 0 ∷ [])
    ∷ wrong_case CutShort (5 ∷ 0 ∷ 1 ∷ 0 ∷ 5 ∷ 0 ∷ [])
    -- "some event has a kind that is not in the table": before and after the kinds there are, and before a wrong length
    ∷ wrong_case UnknownKind (0 ∷ 0 ∷ 0 ∷ [])
    ∷ wrong_case UnknownKind (9 ∷ 0 ∷ 0 ∷ [])
    ∷ wrong_case UnknownKind (255 ∷ 0 ∷ 1 ∷ 0 ∷ 5 ∷ 0 ∷ 0 ∷ [])
    ∷ wrong_case UnknownKind (9 ∷ 0 ∷ 0 ∷ 5 ∷ 0 ∷ 1 ∷ 0 ∷ [])
    ∷ wrong_case UnknownKind (5 ∷ 0 ∷ 1 ∷ 0 ∷ 9 ∷ 0 ∷ 0 ∷ [])
    -- a wrong length of each kind
    ∷ wrong_case WrongLength (1 ∷ 0 ∷ 0 ∷ [])
    ∷ right_case (1 ∷ 0 ∷ 1 ∷ 0 ∷ [])
    ∷ right_case (2 ∷ 0 ∷ 0 ∷ [])
    ∷ wrong_case WrongLength (3 ∷ 0 ∷ 3 ∷ 0 ∷ 0 ∷ 0 ∷ [])
    ∷ right_case (3 ∷ 0 ∷ 4 ∷ 0 ∷ 0 ∷ 0 ∷ 0 ∷ [])
    ∷ wrong_case WrongLength (4 ∷ 0 ∷ 0 ∷ [])
    ∷ right_case (4 ∷ 0 ∷ 1 ∷ 0 ∷ [])
    ∷ wrong_case WrongLength (5 ∷ 0 ∷ 1 ∷ 0 ∷ [])
    ∷ wrong_case WrongLength (6 ∷ 0 ∷ 1 ∷ 0 ∷ [])
    ∷ wrong_case WrongLength (7 ∷ 0 ∷ 0 ∷ [])
    ∷ wrong_case WrongLength (7 ∷ 0 ∷ 1 ∷ 0 ∷ [])
    ∷ right_case (7 ∷ 0 ∷ 2 ∷ 0 ∷ 0 ∷ [])
    ∷ wrong_case WrongLength (5 ∷ 0 ∷ 0 ∷ 6 ∷ 0 ∷ 1 ∷ 0 ∷ 5 ∷ 0 ∷ 0 ∷ [])
    -- "0 bytes, or fewer than the speaker's length says after its byte": a speaker of none and one of one byte, with and without a command
    ∷ wrong_case WrongLength (8 ∷ 0 ∷ 0 ∷ [])
    ∷ right_case (8 ∷ 0 ∷ 1 ∷ 0 ∷ [])
    ∷ right_case (8 ∷ 0 ∷ 2 ∷ 0 ∷ 0x80 ∷ [])
    ∷ wrong_case WrongLength (8 ∷ 0 ∷ 1 ∷ 1 ∷ [])
    ∷ right_case (8 ∷ 0 ∷ 2 ∷ 1 ∷ 0xA0 ∷ [])
    ∷ right_case (8 ∷ 0 ∷ 3 ∷ 1 ∷ 0xA0 ∷ 0x80 ∷ [])
    ∷ wrong_case WrongLength (8 ∷ 0 ∷ 3 ∷ 3 ∷ 0xA0 ∷ 0xA0 ∷ [])
    ∷ right_case (8 ∷ 0 ∷ 3 ∷ 2 ∷ 0xA0 ∷ 0xA0 ∷ [])
    -- a speaker does not reach into the next event; the longest has 255 bytes
    ∷ wrong_case WrongLength (8 ∷ 0 ∷ 1 ∷ 3 ∷ 5 ∷ 0 ∷ 0 ∷ [])
    ∷ wrong_case WrongLength (8 ∷ 0 ∷ 255 ∷ 255 ∷ replicate 254 0xA0)
    ∷ right_case (8 ∷ 1 ∷ 0 ∷ 255 ∷ replicate 255 0xA0)
    ∷ []

unfoldable pub checks_found : List EventCase → List (Result (Unit {0}) EventsWrong)
checks_found [] = []
checks_found (k ∷ ks) = checked_of k.body ∷ checks_found ks

unfoldable pub checks_meant : List EventCase → List (Result (Unit {0}) EventsWrong)
checks_meant [] = []
checks_meant (k ∷ ks) = k.says ∷ checks_meant ks

pub record EventsExamples : Type 0 where
  pub checks : checks_found event_cases ≡ checks_meant event_cases
  -- an event of each kind; the old finished one is marked
  pub calls : calls_of (events_of
      (1 ∷ 0 ∷ 3 ∷ 0x55 ∷ 0x80 ∷ 0xF2
      ∷ 2 ∷ 0 ∷ 1 ∷ 0xA0
      ∷ 3 ∷ 0 ∷ 5 ∷ 0x01 ∷ 0x02 ∷ 0x03 ∷ 0x04 ∷ 0xA0
      ∷ 4 ∷ 0 ∷ 2 ∷ 0x02 ∷ 0xA0
      ∷ 5 ∷ 0 ∷ 0
      ∷ 6 ∷ 0 ∷ 0
      ∷ 7 ∷ 0 ∷ 3 ∷ 0x02 ∷ 0x00 ∷ 0xA0
      ∷ 8 ∷ 0 ∷ 5 ∷ 0x02 ∷ 0xA0 ∷ 0xA1 ∷ 0x80 ∷ 0xE2
      ∷ 8 ∷ 0 ∷ 1 ∷ 0x00 ∷ []))
      ≡ Command 0x55 (0x80 ∷ 0xF2 ∷ []) 256
      ∷ Keyed (0xA0 ∷ [])
      ∷ Stored (0xA0 ∷ []) 0x01020304
      ∷ Finished (0xA0 ∷ []) 0x02 1
      ∷ Tick
      ∷ Lost
      ∷ Finished (0xA0 ∷ []) 0x02 0
      ∷ PolicyUpdate (0xA0 ∷ 0xA1 ∷ []) (0x80 ∷ 0xE2 ∷ []) 256
      ∷ PolicyUpdate [] [] 256
      ∷ []
