-- docs/EVENTS.md, 'What is refused': "A file is refused by the first of these that holds .. and no event is run before all of them were asked."
-- The first statements hold by definition, and say how the table is to be read; the files pin its rows and their order, by computing.
use Rattle.std.specs.Prelude.{ℕ, ◌≡◌, List, [], ◌∷◌, ◌++◌, true, false, length, replicate, Result, Ok, Err}
use Rattle.base_bytes.specs.Bytes.{four_bytes, part_of}
use Rattle.base_bytes.specs.declared.Part.{Part}
use Rattle.card_record.specs.Fresh.{zero_card}
use Rattle.card_record.specs.declared.Card.{Card}
use Rattle.month_contents.specs.Written.{entry}
use Rattle.month_events.specs.Events.{Event, events_of, checked_of}
use Rattle.month_events.specs.declared.EventsWrong.{EventsWrong}
use Rattle.month_events.specs.declared.EventsWrong.TheVariants as events
use Rattle.month_file.specs.File.{Verdict, Verdict.Accepted, Verdict.Refused, RefusalRow, event_rows, refusal_rows, first_of, verdict_of, opened_of}
use Rattle.month_file.specs.declared.Opened.{Opened}
use Rattle.month_file.specs.Grammar.{encode_inputs, file_of, sample}
use Rattle.month_file.specs.declared.Refusal.{Refusal}
use Rattle.month_file.specs.declared.Refusal.TheVariants.{ContentsWrong, SectionMissing, FreshBad, CutShort, UnknownKind, WrongLength}

-- no row's condition holds
abbrev pub NoneRefuses : List RefusalRow → Type 0
NoneRefuses [] = Unit {0}
NoneRefuses (r ∷ rs) = (r.when ≡ false) × NoneRefuses rs

-- the refusal of the first row whose condition holds
pub record FirstRefusal (rows : List RefusalRow) (r : Refusal) : Type 0 where
  pub before : List RefusalRow
  pub this : RefusalRow
  pub after : List RefusalRow
  pub split : rows ≡ before ++ this ∷ after
  pub none_before : NoneRefuses before
  pub holds : this.when ≡ true
  pub name : this.refusal ≡ r

-- what an opened file says: its verdict, its card and where its events lie; a refused one has the record of zeros, and none
abbrev pub verdict_in : Result Opened Refusal → Verdict
verdict_in (Ok o) = Accepted
verdict_in (Err r) = Refused r

abbrev pub card_in : Result Opened Refusal → Card
card_in (Ok o) = o.card
card_in (Err r) = zero_card

abbrev pub events_in : Result Opened Refusal → Part
events_in (Ok o) = o.events
events_in (Err r) = record { start = 0; len = 0 }

-- what is run of a file: the card that is begun with, and the events
abbrev pub card_run : List ℕ → Card
card_run s = card_in (opened_of s)

abbrev pub events_run : List ℕ → List Event
events_run s = events_of (part_of s (events_in (opened_of s)))

pub record Refusing : Type 0 where
  pub first-row : (s : List ℕ) (r : Refusal) → FirstRefusal (refusal_rows s) r → verdict_of s ≡ Refused r
  pub only-first-row : (s : List ℕ) (r : Refusal) → verdict_of s ≡ Refused r → FirstRefusal (refusal_rows s) r
  pub otherwise : (s : List ℕ) → NoneRefuses (refusal_rows s) → verdict_of s ≡ Accepted
  pub only-otherwise : (s : List ℕ) → verdict_of s ≡ Accepted → NoneRefuses (refusal_rows s)
  -- the verdict that is told is the table's, and of a refused file no card is made and no event is run
  pub told : (s : List ℕ) → verdict_in (opened_of s) ≡ verdict_of s
  pub refusal-alone : (s : List ℕ) (r : Refusal) → verdict_of s ≡ Refused r → opened_of s ≡ Err r
  pub no-card : (s : List ℕ) (r : Refusal) → verdict_of s ≡ Refused r → card_run s ≡ zero_card
  pub none-run : (s : List ℕ) (r : Refusal) → verdict_of s ≡ Refused r → events_run s ≡ []

-- the verdict on the events, from what the walk over them tells
abbrev pub refusal_for : EventsWrong → Refusal
refusal_for events.CutShort = CutShort
refusal_for events.UnknownKind = UnknownKind
refusal_for events.WrongLength = WrongLength

abbrev pub verdict_for : Result (Unit {0}) EventsWrong → Verdict
verdict_for (Err wrong) = Refused (refusal_for wrong)
verdict_for (Ok u) = Accepted

-- one order: the walk asks in the order of the table's rows
abbrev pub OneOrder : Type 0
OneOrder = (b : List ℕ) → first_of (event_rows b) ≡ verdict_for (checked_of b)

abbrev pub input_bytes : ℕ → ℕ → ℕ → List ℕ
input_bytes quota used n = encode_inputs (sample quota used n)

abbrev pub good : List ℕ
good = input_bytes 50 0 5

-- no card is made of them
abbrev pub bad : List ℕ
bad = input_bytes 50 51 5

abbrev pub tick : List ℕ
tick = 5 ∷ 0 ∷ 0 ∷ []

-- a kind that is not known, a tick with a byte, and an event that is cut
abbrev pub unknown : List ℕ
unknown = 9 ∷ 0 ∷ 0 ∷ []

abbrev pub long : List ℕ
long = 5 ∷ 0 ∷ 1 ∷ 0 ∷ []

abbrev pub cut : List ℕ
cut = 5 ∷ 0 ∷ []

-- one section alone
abbrev pub one_section : ℕ → List ℕ → List ℕ
one_section kind body = four_bytes 1 ++ entry kind 16 (length body) ++ body

pub record FileCase : Type 0 where
  pub says : Verdict
  pub file : List ℕ

abbrev pub accepted_case : List ℕ → FileCase
accepted_case file = record { says = Accepted; file = file }

abbrev pub refused_case : Refusal → List ℕ → FileCase
refused_case r file = record { says = Refused r; file = file }

abbrev pub file_cases : List FileCase
file_cases =
    -- "The sections may be listed in any order, and their bodies may lie in any order"; no events are events too
    accepted_case (file_of true true good tick)
    ∷ accepted_case (file_of false true good tick)
    ∷ accepted_case (file_of true false good tick)
    ∷ accepted_case (file_of false false good tick)
    ∷ accepted_case (file_of true true good [])
    ∷ accepted_case (file_of true false good [])
    -- contents wrong: bytes left over, also where a section is missing, and with inputs and events that are wrong too
    ∷ refused_case ContentsWrong []
    ∷ refused_case ContentsWrong (file_of true true good tick ++ 0 ∷ [])
    ∷ refused_case ContentsWrong (one_section 1 good ++ 0 ∷ [])
    ∷ refused_case ContentsWrong (file_of true true bad cut ++ 0 ∷ [])
    -- section missing: each of the two and both, also with inputs and events that are wrong
    ∷ refused_case SectionMissing (four_bytes 0)
    ∷ refused_case SectionMissing (one_section 1 good)
    ∷ refused_case SectionMissing (one_section 2 tick)
    ∷ refused_case SectionMissing (one_section 1 bad)
    ∷ refused_case SectionMissing (one_section 2 cut)
    -- fresh inputs bad: under 32 bytes, 6A 80 at each of its neighbours, also with events that are wrong
    ∷ refused_case FreshBad (file_of true true (replicate 31 0) tick)
    ∷ refused_case FreshBad (file_of true true (input_bytes 50 0 4) tick)
    ∷ refused_case FreshBad (file_of true true (input_bytes 50 0 17) tick)
    ∷ accepted_case (file_of true true (input_bytes 50 0 16) tick)
    ∷ refused_case FreshBad (file_of true true (input_bytes 101 0 5) tick)
    ∷ accepted_case (file_of true true (input_bytes 100 0 5) tick)
    ∷ refused_case FreshBad (file_of true true bad tick)
    ∷ accepted_case (file_of true true (input_bytes 50 50 5) tick)
    ∷ refused_case FreshBad (file_of true true bad cut)
    -- event cut short: at the end of events that are right, also after an unknown kind and a wrong length
    ∷ refused_case CutShort (file_of true true good (tick ++ cut))
    ∷ refused_case CutShort (file_of true false good (tick ++ cut))
    ∷ refused_case CutShort (file_of true true good (unknown ++ cut))
    ∷ refused_case CutShort (file_of true true good (long ++ cut))
    -- event of unknown kind: also after a wrong length
    ∷ refused_case UnknownKind (file_of true true good (tick ++ unknown))
    ∷ refused_case UnknownKind (file_of true true good (long ++ unknown))
    -- event of wrong length
    ∷ refused_case WrongLength (file_of true true good (tick ++ (long ++ tick)))
    ∷ []

unfoldable pub verdicts_found : List FileCase → List Verdict
verdicts_found [] = []
verdicts_found (k ∷ ks) = verdict_of k.file ∷ verdicts_found ks

unfoldable pub verdicts_meant : List FileCase → List Verdict
verdicts_meant [] = []
verdicts_meant (k ∷ ks) = k.says ∷ verdicts_meant ks

abbrev pub RefusalTable : Type 0
RefusalTable = verdicts_found file_cases ≡ verdicts_meant file_cases
