-- What a month counted says, whatever the card and the calls: the figures add up, every call is counted, and each figure without the
-- program's table, as a count over the cards reached (docs/EVENTS.md, 'The report').
use Rattle.std.specs.Prelude.{ℕ, ◌+◌, ◌<◌, ◌≡◌, List, [], ◌∷◌, ◌++◌, map, Bool, false, not, cond, ◌&&◌, ◌||◌, length, get_or, take, ltb, eqb}
use Rattle.base_status.specs.StatusWords.{is_done}
use Rattle.card_isdp.specs.Aids.{no_aid}
use Rattle.card_isdp.specs.declared.Aid.{Aid}
use Rattle.card_record.specs.Cards.{enabled_aid}
use Rattle.card_record.specs.Answers.{Outcome}
use Rattle.card_record.specs.declared.Card.{Card}
use Rattle.read_tlv.specs.Encoding.{Bytes}
use Rattle.rule_run.specs.Calls.{Call}
use Rattle.rule_run.specs.Step.{step, run, answers}
use Rattle.rule_run.specs.Runs.{is_tick, ticks_among}
use Rattle.month_tally.specs.Lines.{rest_line, same_aid, aids_in, minutes_in}
use Rattle.month_tally.specs.Statements.{firsts}
use Rattle.month_contents.specs.Contents.{fresh_kind}
use Rattle.month_events.specs.Events.{Event}
use Rattle.month_file.specs.Inputs.{inputs_of}
use Rattle.month_file.specs.File.{body_of, Verdict.Accepted, Verdict.Refused, verdict_of, file_events, file_calls}
use Rattle.month_file.specs.Grammar.{WrittenFrom}
use Rattle.month_file.specs.declared.Refusal.{Refusal}
use Rattle.month_count.specs.Month.{Counted, at_first, counting, file_card, nothing, file_counted}

-- how many of a list meet a test
unfoldable pub how_many : {A : Type 0} → (A → Bool) → List A → ℕ
how_many t [] = 0
how_many t (x ∷ xs) = cond (t x) 1 0 + how_many t xs

-- the calls counted from a card on
abbrev pub month_from : Card → List Call → Counted
month_from c calls = counting c calls (at_first c)

-- the AIDs that have a line, the minutes of each, and those of the rest
abbrev pub lines_in : Counted → List Aid
lines_in k = aids_in k.tally.names

abbrev pub line_minutes : Counted → List ℕ
line_minutes k = take (length (lines_in k)) k.minutes

abbrev pub rest_minutes : Counted → ℕ
rest_minutes k = get_or k.minutes rest_line 0

-- the figure of the rest is told only where there is a 65th AID
abbrev pub rest_told : Counted → ℕ
rest_told k = cond k.tally.names.more (rest_minutes k) 0

-- "all ticks": the lines and the rest add up to the ticks among the calls, and so many are told
pub record AddsUp (calls : List Call) (k : Counted) : Type 0 where
  pub lines : minutes_in (line_minutes k) + rest_told k ≡ ticks_among calls
  pub ticks : k.tally.ticks ≡ ticks_among calls

abbrev pub TicksAddUp : Type 0
TicksAddUp = (c : Card) (calls : List Call) → AddsUp calls (month_from c calls)

-- "all events": every call is one, and is answered once, in order, on the card then reached
abbrev pub is_refusal : Outcome → Bool
is_refusal o = not (is_done o.status)

pub record EveryEvent (c : Card) (calls : List Call) (k : Counted) : Type 0 where
  pub events : k.tally.events ≡ length calls
  pub answered : length (answers c calls) ≡ length calls
  pub refused : k.tally.refused ≡ how_many is_refusal (answers c calls)

abbrev pub EventsReported : Type 0
EventsReported = (c : Card) (calls : List Call) → EveryEvent c calls (month_from c calls)

-- every way to write the calls as before, this, after
pub record Split : Type 0 where
  pub before : List Call
  pub this : Call
  pub after : List Call

abbrev pub whole_split : Split → List Call
whole_split s = s.before ++ s.this ∷ s.after

-- the same with one call more in front
abbrev pub behind : Call → Split → Split
behind call s = record { before = call ∷ s.before; this = s.this; after = s.after }

unfoldable pub splits : List Call → List Split
splits [] = []
splits (call ∷ calls) = record { before = []; this = call; after = calls } ∷ map (behind call) (splits calls)

-- each joins to the calls, and the one at place i has i calls before; every way to write the calls so stands there
pub record EverySplit : Type 0 where
  pub as_many : (calls : List Call) → length (splits calls) ≡ length calls
  pub joins : (calls : List Call) (i : ℕ) (none : Split) → i < length calls → whole_split (get_or (splits calls) i none) ≡ calls
  pub once : (calls : List Call) (i : ℕ) (none : Split) → i < length calls → length (get_or (splits calls) i none).before ≡ i
  pub all : (s none : Split) → get_or (splits (whole_split s)) (length s.before) none ≡ s

-- the figure of the AIDs that meet a test: the ways to write the calls as before, a tick, after, in which the profile enabled on the card that
-- `before` leads to bears such an AID
abbrev pub counts_for : Card → (Aid → Bool) → Split → Bool
counts_for c test s = is_tick s.this && test (enabled_aid (run c s.before))

abbrev pub figure : Card → List Call → (Aid → Bool) → ℕ
figure c calls test = how_many (counts_for c test) (splits calls)

-- the cards reached, at first and after each call: those that every beginning of the calls leads to
unfoldable pub cards_reached : Card → List Call → List Card
cards_reached c [] = c ∷ []
cards_reached c (call ∷ calls) = c ∷ cards_reached (step c call).card calls

pub record EveryCard : Type 0 where
  pub as_many : (c : Card) (calls : List Call) → length (cards_reached c calls) ≡ length calls + 1
  pub all : (c none : Card) (before after : List Call) → get_or (cards_reached c (before ++ after)) (length before) none ≡ run c before

-- the AIDs enabled on them, one after the other
abbrev pub enabled_in : Card → List Call → List Aid
enabled_in c calls = map enabled_aid (cards_reached c calls)

-- an AID is the same as one of a list
unfoldable pub is_among_aids : Aid → List Aid → Bool
is_among_aids a [] = false
is_among_aids a (x ∷ xs) = same_aid x a || is_among_aids a xs

-- "There is one line for each of the first 64 different AIDs ever enabled, in the order in which each was first enabled"; a line's minutes are
-- the figure of the AIDs that are the same as its own, and the rest's the figure of those that are on no line
pub record LinesSay (c : Card) (calls : List Call) (k : Counted) : Type 0 where
  pub aids : lines_in k ≡ take 64 (firsts (enabled_in c calls))
  pub more : k.tally.names.more ≡ ltb 64 (length (firsts (enabled_in c calls)))
  pub line : (i : ℕ) → i < length (lines_in k) → get_or k.minutes i 0 ≡ figure c calls (same_aid (get_or (lines_in k) i no_aid))
  pub rest : rest_minutes k ≡ figure c calls (λ a. not (is_among_aids a (lines_in k)))

abbrev pub WhatALineSays : Type 0
WhatALineSays = (c : Card) (calls : List Call) → LinesSay c calls (month_from c calls)

-- all of it of what is counted of a file that is accepted; its calls are the file's events, one each
pub record FileTold (s : List ℕ) (k : Counted) : Type 0 where
  pub ticks : AddsUp (file_calls s) k
  pub calls : length (file_calls s) ≡ length (file_events s)
  pub events : EveryEvent (file_card s) (file_calls s) k
  pub lines : LinesSay (file_card s) (file_calls s) k

abbrev pub FileCounted : Type 0
FileCounted = (s : List ℕ) → verdict_of s ≡ Accepted → FileTold s (file_counted s)

-- "the ticks in the file": the events of kind 5 among those that its bytes write; so many are the ticks among its calls, and so many are told
abbrev pub is_of_kind_five : Event → Bool
is_of_kind_five e = eqb e.kind 5

pub record TicksOf (s : List ℕ) : Type 0 where
  pub bytes : WrittenFrom s (inputs_of (body_of s fresh_kind)) (file_events s)
  pub ticks : ticks_among (file_calls s) ≡ how_many is_of_kind_five (file_events s)
  pub told : (file_counted s).tally.ticks ≡ how_many is_of_kind_five (file_events s)

abbrev pub TicksInFile : Type 0
TicksInFile = (s : List ℕ) → Bytes s → verdict_of s ≡ Accepted → TicksOf s

-- of a file that is refused nothing is counted: no line, no tick, no event
abbrev pub RefusedUncounted : Type 0
RefusedUncounted = (s : List ℕ) (r : Refusal) → verdict_of s ≡ Refused r → file_counted s ≡ nothing
