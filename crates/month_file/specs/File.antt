-- docs/EVENTS.md, 'What is refused': "A file is refused by the first of these that holds." The table stands row for row.
use Rattle.std.specs.Prelude.{ℕ, List, [], ◌∷◌, Bool, true, false, cond, ◌||◌, Option, Some, None, Result, Ok, Err}
use Rattle.base_bytes.specs.Bytes.{part_of}
use Rattle.base_bytes.specs.declared.Part.{Part}
use Rattle.month_contents.specs.Contents.{fresh_kind, events_kind, contents_wrong, section_of}
use Rattle.month_events.specs.Events.{Event, events_of, cut_short, kind_unknown, wrong_length, calls_of}
use Rattle.rule_run.specs.Calls.{Call}
use Rattle.month_file.specs.Inputs.{fresh_answer, fresh_bad}
use Rattle.month_file.specs.declared.Refusal.{Refusal}
use Rattle.month_file.specs.declared.Refusal.TheVariants.{ContentsWrong, SectionMissing, FreshBad, CutShort, UnknownKind, WrongLength}
use Rattle.month_file.specs.declared.Opened.{Opened}

-- a section's body; none where it is not listed
abbrev pub is_missing : Option Part → Bool
is_missing (Some p) = false
is_missing None = true

abbrev pub part_in : Option Part → Part
part_in (Some p) = p
part_in None = record { start = 0; len = 0 }

abbrev pub body_of : List ℕ → ℕ → List ℕ
body_of s kind = part_of s (part_in (section_of s kind))

-- the events of the file, and the calls that they are
abbrev pub file_events : List ℕ → List Event
file_events s = events_of (body_of s events_kind)

abbrev pub file_calls : List ℕ → List Call
file_calls s = calls_of (file_events s)

-- a file is accepted, or refused by name
pub data Verdict : Type 0 where
  Accepted : Verdict
  Refused : Refusal → Verdict

pub record RefusalRow : Type 0 where
  pub when : Bool
  pub refusal : Refusal

abbrev pub refusal_row : Bool → Refusal → RefusalRow
refusal_row condition refusal = record { when = condition; refusal = refusal }

-- the rows on the body of the events: what one walk over it answers (`OneOrder` in Refusals)
abbrev pub event_rows : List ℕ → List RefusalRow
event_rows b =
    refusal_row (cut_short b) CutShort
    ∷ refusal_row (kind_unknown b) UnknownKind
    ∷ refusal_row (wrong_length b) WrongLength
    ∷ []

-- each row is asked of the whole file before the next (decision B44)
abbrev pub refusal_rows : List ℕ → List RefusalRow
refusal_rows s =
    refusal_row (contents_wrong s) ContentsWrong
    ∷ refusal_row (is_missing (section_of s fresh_kind) || is_missing (section_of s events_kind)) SectionMissing
    ∷ refusal_row (fresh_bad (body_of s fresh_kind)) FreshBad
    ∷ event_rows (body_of s events_kind)

unfoldable pub first_of : List RefusalRow → Verdict
first_of [] = Verdict.Accepted
first_of (r ∷ rs) = cond r.when (Verdict.Refused r.refusal) (first_of rs)

abbrev pub verdict_of : List ℕ → Verdict
verdict_of s = first_of (refusal_rows s)

-- the file opened: the card that it makes and where its events lie; of a refused one there is the refusal alone
abbrev pub opened_by : Verdict → List ℕ → Result Opened Refusal
opened_by Verdict.Accepted s =
    Ok (record { card = (fresh_answer (body_of s fresh_kind)).card; events = part_in (section_of s events_kind) })
opened_by (Verdict.Refused r) s = Err r

unfoldable pub opened_of : List ℕ → Result Opened Refusal
opened_of s = opened_by (verdict_of s) s
