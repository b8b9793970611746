-- docs/EVENTS.md, 'What is refused' and 'For a person who has to sign it': what is written of a refused file, by each refusal, literally as the page has
-- it. The names stand here a second time, so that the code and its definition cannot trade or spoil one together.
use Rattle.std.specs.Prelude.{ℕ, ◌≡◌, List, ◌++◌, true, false}
use Rattle.text_words.specs.Letters.{text}
use Rattle.month_file.specs.File.{Verdict.Refused, verdict_of}
use Rattle.month_file.specs.declared.Refusal.{Refusal}
use Rattle.month_file.specs.declared.Refusal.TheVariants.{ContentsWrong, SectionMissing, FreshBad, CutShort, UnknownKind, WrongLength}
use Rattle.month_account.specs.Account.{account_text}

-- the one line of the plain form; and for a person that line, what it means, and that nothing was counted
abbrev pub WrittenAs : Refusal → List ℕ → List ℕ → Type 0
WrittenAs r line meaning =
    (s : List ℕ) → verdict_of s ≡ Refused r
    → (account_text false s ≡ line) × (account_text true s ≡ line ++ meaning ++ text "no event was run\n")

pub record RefusedByName : Type 0 where
  pub contents-wrong :
      WrittenAs ContentsWrong (text "refused: contents wrong\n")
      (text "the file is too long, or its sections are not known ones that lie end to end\n")
  pub section-missing :
      WrittenAs SectionMissing (text "refused: section missing\n")
      (text "the fresh card's inputs or the events are not listed\n")
  pub fresh-inputs-bad :
      WrittenAs FreshBad (text "refused: fresh inputs bad\n")
      (text "the fresh card's inputs are under 32 bytes, or no card is made of them\n")
  pub event-cut-short :
      WrittenAs CutShort (text "refused: event cut short\n")
      (text "the events end within an event\n")
  pub event-of-unknown-kind :
      WrittenAs UnknownKind (text "refused: event of unknown kind\n")
      (text "an event is of no kind that there is\n")
  pub event-of-wrong-length :
      WrittenAs WrongLength (text "refused: event of wrong length\n")
      (text "an event has too few or too many bytes for its kind\n")
