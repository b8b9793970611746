-- docs/EVENTS.md, 'The report' and 'For a person who has to sign it': both forms read as a person reads them: lines, each a word and a number. The
-- readers are written from the page and cite nothing that writes; what they read off a printed report is said after them.
use Rattle.std.specs.Prelude.{ℕ, suc, ◌+◌, ◌≤◌, ◌<◌, ◌≡◌, List, [], ◌∷◌, ◌++◌, map, Bool, true, false, cond, length, get_or, take, drop, Option, Some, None}
use Rattle.base_bytes.specs.Bytes.{same_bytes}
use Rattle.base_choice.specs.Choice.{pick, is_same}
use Rattle.card_isdp.specs.Aids.{no_aid, bytes_of}
use Rattle.card_isdp.specs.declared.Aid.{Aid}
use Rattle.text_words.specs.Letters.{text}
use Rattle.text_words.specs.Numbers.{decimal_of}
use Rattle.text_words.specs.Hex.{hex_text, hex_left}
use Rattle.text_words.specs.RoundTrips.{Octets}
use Rattle.month_tally.specs.Lines.{rest_line, aids_in, minutes_in}
use Rattle.month_tally.specs.declared.Tally.{Tally}
use Rattle.month_report.specs.Report.{report_text}

-- what a line says
pub record PlainLine : Type 0 where
  pub word : List ℕ
  pub number : Option ℕ

abbrev pub plain_line : List ℕ → ℕ → PlainLine
plain_line word n = record { word = word; number = Some n }

-- the lines of a text, each up to its line end; what stands after the last line end is a line too, so that nothing is passed over
abbrev pub on_line : ℕ → List (List ℕ) → List (List ℕ)
on_line c [] = (c ∷ []) ∷ []
on_line c (l ∷ ls) = (c ∷ l) ∷ ls

unfoldable pub cut_lines : List ℕ → List (List ℕ)
cut_lines [] = []
cut_lines (c ∷ cs) = pick (is_same c 10) ([] ∷ cut_lines cs) (on_line c (cut_lines cs))

-- what stands on a line before its first space, and what stands after it
unfoldable pub word_part : List ℕ → List ℕ
word_part [] = []
word_part (c ∷ cs) = pick (is_same c 32) [] (c ∷ word_part cs)

unfoldable pub number_part : List ℕ → List ℕ
number_part [] = []
number_part (c ∷ cs) = pick (is_same c 32) cs (number_part cs)

-- "numbers decimal"; the largest of 32 bits, as every figure of the program is
abbrev pub most_figure : ℕ
most_figure = 4294967295

-- the plain form: a word, a space, a number
abbrev pub line_off : List ℕ → PlainLine
line_off l = record { word = word_part l; number = decimal_of most_figure (number_part l) }

abbrev pub read_off : List ℕ → List PlainLine
read_off s = map line_off (cut_lines s)

-- for a person: "a name in a column of 32, padded with spaces. In a column of nine follows a number, right-aligned"; what follows the number is the share,
-- and the first line names the columns
unfoldable pub past_spaces : List ℕ → List ℕ
past_spaces [] = []
past_spaces (c ∷ cs) = pick (is_same c 32) (past_spaces cs) (c ∷ cs)

abbrev pub signed_line : List ℕ → PlainLine
signed_line l = record { word = word_part l; number = decimal_of most_figure (word_part (past_spaces (number_part l))) }

abbrev pub read_signed : List ℕ → List PlainLine
read_signed s = map signed_line (drop 1 (cut_lines s))

-- "AIDs are hex": the bytes that a line's word spells
abbrev pub aid_off : PlainLine → List ℕ
aid_off l = hex_left l.word (length l.word)

-- the lines above the first one with this word, and the number on that one
unfoldable pub lines_above : List ℕ → List PlainLine → List PlainLine
lines_above w [] = []
lines_above w (l ∷ ls) = cond (same_bytes l.word w) [] (l ∷ lines_above w ls)

unfoldable pub number_on : List ℕ → List PlainLine → Option ℕ
number_on w [] = None
number_on w (l ∷ ls) = cond (same_bytes l.word w) l.number (number_on w ls)

-- the numbers of some lines added up; one that cannot be read spoils the sum
abbrev pub plus_read : Option ℕ → Option ℕ → Option ℕ
plus_read (Some m) (Some n) = Some (m + n)
plus_read (Some m) None = None
plus_read None n = None

unfoldable pub numbers_added : List PlainLine → Option ℕ
numbers_added [] = Some 0
numbers_added (l ∷ ls) = plus_read l.number (numbers_added ls)

-- the figures that are printed have 32 bits, as those of the code have
pub record FiguresFit (t : Tally) (minutes : List ℕ) : Type 0 where
  pub lines : (i : ℕ) → i < length (aids_in t.names) → get_or minutes i 0 ≤ most_figure
  pub rest : get_or minutes rest_line 0 ≤ most_figure
  pub ticks : t.ticks ≤ most_figure
  pub events : t.events ≤ most_figure
  pub refused : t.refused ≤ most_figure

-- the lines that have to be read: of each AID all its bytes in hex and its own minutes, the first on the line of this number; and the rest where it is told
unfoldable pub aid_lines : List ℕ → ℕ → List Aid → List PlainLine
aid_lines minutes line [] = []
aid_lines minutes line (a ∷ aids) = plain_line (hex_text (bytes_of a)) (get_or minutes line 0) ∷ aid_lines minutes (suc line) aids

abbrev pub rest_lines : Bool → ℕ → List PlainLine
rest_lines more n = cond more (plain_line (text "rest") n ∷ []) []

-- what a reader reads off the text; `last` are the lines after `events`
pub record ReportRead (t : Tally) (minutes : List ℕ) (last read : List PlainLine) : Type 0 where
  pub lines :
      read
      ≡ aid_lines minutes 0 (aids_in t.names)
      ++ rest_lines t.names.more (get_or minutes rest_line 0)
      ++ plain_line (text "ticks") t.ticks ∷ plain_line (text "events") t.events ∷ last
  -- the numbers above `ticks` add up to the minutes told
  pub added :
      numbers_added (lines_above (text "ticks") read)
      ≡ Some (minutes_in (take (length (aids_in t.names)) minutes) + cond t.names.more (get_or minutes rest_line 0) 0)
  pub ticks : number_on (text "ticks") read ≡ Some t.ticks
  pub events : number_on (text "events") read ≡ Some t.events
  -- the word of a line spells the AID, whatever its length
  pub aids :
      (i : ℕ) (none : PlainLine) → i < length (aids_in t.names)
      → Octets (bytes_of (get_or (aids_in t.names) i no_aid))
      → aid_off (get_or read i none) ≡ bytes_of (get_or (aids_in t.names) i no_aid)

pub record BothRead (t : Tally) (minutes : List ℕ) : Type 0 where
  pub plain : ReportRead t minutes [] (read_off (report_text false t minutes))
  pub explained : ReportRead t minutes (plain_line (text "refused") t.refused ∷ []) (read_signed (report_text true t minutes))

abbrev pub ReportsRead : Type 0
ReportsRead = (t : Tally) (minutes : List ℕ) → FiguresFit t minutes → BothRead t minutes

-- the readers on the texts of the page, and on lines that are none of a report
abbrev pub page_text : List ℕ
page_text = text "A000000001 10\nA000000002 12\nrest 5\nticks 27\nevents 41\n"

abbrev pub signed_text : List ℕ
signed_text =
    text "AID                               minutes   share\n"
    ++ text "A000000001                             10   37.0%\n"
    ++ text "A000000002                             12   44.4%\n"
    ++ text "rest                                    5   18.5%\n"
    ++ text "ticks                                  27\n"
    ++ text "events                                 41\n"
    ++ text "refused                                 3\n"

abbrev pub page_lines : List PlainLine
page_lines =
    plain_line (text "A000000001") 10
    ∷ plain_line (text "A000000002") 12
    ∷ plain_line (text "rest") 5
    ∷ plain_line (text "ticks") 27
    ∷ plain_line (text "events") 41
    ∷ []

abbrev pub unread_line : List ℕ → PlainLine
unread_line word = record { word = word; number = None }

pub record ReadShown : Type 0 where
  pub page : read_off page_text ≡ page_lines
  pub signed : read_signed signed_text ≡ page_lines ++ plain_line (text "refused") 3 ∷ []
  pub adds-up : numbers_added (lines_above (text "ticks") page_lines) ≡ Some 27
  pub aid : aid_off (plain_line (text "A000000001") 10) ≡ 0xA0 ∷ 0x00 ∷ 0x00 ∷ 0x00 ∷ 0x01 ∷ []
  pub no_number : read_off (text "ticks 2x\nticks\n\nticks 7 7") ≡ unread_line (text "ticks") ∷ unread_line (text "ticks") ∷ unread_line [] ∷ unread_line (text "ticks") ∷ []
  pub spoilt : numbers_added (read_off (text "A000000001 10\nA000000002 x\n")) ≡ None
