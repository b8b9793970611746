-- docs/EVENTS.md, 'What is refused' and 'For a person who has to sign it': what is written of a refused file.
use Rattle.std.specs.Prelude.{ℕ, List, ◌++◌, Bool}
use Rattle.base_choice.specs.Choice.{pick}
use Rattle.text_words.specs.Letters.{text}
use Rattle.month_file.specs.declared.Refusal.{Refusal}
use Rattle.month_file.specs.declared.Refusal.TheVariants.{ContentsWrong, SectionMissing, FreshBad, CutShort, UnknownKind, WrongLength}

abbrev pub name_text : Refusal → List ℕ
name_text ContentsWrong = text "contents wrong"
name_text SectionMissing = text "section missing"
name_text FreshBad = text "fresh inputs bad"
name_text CutShort = text "event cut short"
name_text UnknownKind = text "event of unknown kind"
name_text WrongLength = text "event of wrong length"

abbrev pub meaning_text : Refusal → List ℕ
meaning_text ContentsWrong = text "the file is too long, or its sections are not known ones that lie end to end\n"
meaning_text SectionMissing = text "the fresh card's inputs or the events are not listed\n"
meaning_text FreshBad = text "the fresh card's inputs are under 32 bytes, or no card is made of them\n"
meaning_text CutShort = text "the events end within an event\n"
meaning_text UnknownKind = text "an event is of no kind that there is\n"
meaning_text WrongLength = text "an event has too few or too many bytes for its kind\n"

-- "A refused file has one line and nothing else"; for a person "three lines: the refusal, what it means, and that nothing was counted"
unfoldable pub line_text : Refusal → List ℕ
line_text r = text "refused: " ++ name_text r ++ text "\n"

unfoldable pub refusal_text : Bool → Refusal → List ℕ
refusal_text explain r = pick explain (line_text r ++ meaning_text r ++ text "no event was run\n") (line_text r)

-- 125 bytes at the most
abbrev pub most_refusal : ℕ
most_refusal = 125
