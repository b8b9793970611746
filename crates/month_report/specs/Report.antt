-- docs/EVENTS.md, 'The report' and 'For a person who has to sign it': what a report says of a file that was counted. The lines are said over a
-- list of AIDs of any length. `explain` is the form for a person. What follows a name depends on how long the name is.
use Rattle.std.specs.Prelude.{ℕ, suc, ◌+◌, ◌-◌, ◌*◌, ◌/◌, ◌%◌, List, [], ◌∷◌, ◌++◌, Bool, length, get_or}
use Rattle.base_choice.specs.Choice.{pick, is_below, is_same}
use Rattle.text_words.specs.Numbers.{decimal_text}
use Rattle.card_isdp.specs.declared.Aid.{Aid}
use Rattle.text_words.specs.Letters.{text}
use Rattle.text_words.specs.Columns.{spaces, column_text}
use Rattle.text_aid.specs.AidText.{aid_text}
use Rattle.month_tally.specs.Lines.{most_lines, rest_line, aids_in}
use Rattle.month_tally.specs.declared.Tally.{Tally}

-- "Every line begins with a name in a column of 32, padded with spaces. In a column of nine follows a number, right-aligned"
abbrev pub name_column : ℕ
name_column = 32

unfoldable pub figure_text : ℕ → ℕ → List ℕ
figure_text size n = spaces (name_column - size) ++ text "  " ++ column_text n

-- "a percentage with one digit after the point, rounded to the nearest tenth, a half upwards, and `%`";
-- right-aligned in a column of eight (decision B48)
abbrev pub tenths_of : ℕ → ℕ → ℕ
tenths_of minutes ticks = (minutes * 2000 + ticks) / (ticks * 2)

unfoldable pub share_lead : ℕ → ℕ
share_lead tenths = pick (is_below tenths 100) 4 (pick (is_below tenths 1000) 3 2)

unfoldable pub percent_text : ℕ → List ℕ
percent_text tenths = spaces (share_lead tenths) ++ decimal_text (tenths / 10) ++ text "." ++ decimal_text (tenths % 10) ++ text "%"

-- "Where the file has no ticks the share is `-`."
unfoldable pub share_text : ℕ → ℕ → List ℕ
share_text minutes ticks = pick (is_same ticks 0) (text "       -") (percent_text (tenths_of minutes ticks))

-- what follows a name of `size` letters
unfoldable pub plain_text : ℕ → List ℕ
plain_text n = text " " ++ decimal_text n ++ text "\n"

unfoldable pub minutes_text : Bool → ℕ → ℕ → ℕ → List ℕ
minutes_text explain ticks size minutes =
    pick explain (figure_text size minutes ++ share_text minutes ticks ++ text "\n") (plain_text minutes)

unfoldable pub total_text : Bool → ℕ → ℕ → List ℕ
total_text explain size n = pick explain (figure_text size n ++ text "\n") (plain_text n)

-- a line for each AID, of which the first has the number `line`
unfoldable pub aid_line : Bool → ℕ → Aid → ℕ → List ℕ
aid_line explain ticks a minutes = aid_text a ++ minutes_text explain ticks (length (aid_text a)) minutes

unfoldable pub lines_text : Bool → ℕ → List ℕ → ℕ → List Aid → List ℕ
lines_text explain ticks minutes line [] = []
lines_text explain ticks minutes line (a ∷ aids) =
    aid_line explain ticks a (get_or minutes line 0) ++ lines_text explain ticks minutes (suc line) aids

-- "the line `rest`, which is printed only where there is a 65th" (decision B47)
unfoldable pub rest_text : Bool → ℕ → Bool → ℕ → List ℕ
rest_text explain ticks more minutes = pick more (text "rest" ++ minutes_text explain ticks 4 minutes) []

unfoldable pub report_head : Bool → List ℕ
report_head explain = pick explain (text "AID                               minutes   share\n") []

-- "Then come all ticks and all events of the file"; for a person also how many of the events were refused
unfoldable pub refused_text : Bool → ℕ → List ℕ
refused_text explain n = pick explain (text "refused" ++ total_text explain 7 n) []

unfoldable pub totals_text : Bool → Tally → List ℕ
totals_text explain t =
    text "ticks"
    ++ total_text explain 5 t.ticks
    ++ text "events"
    ++ total_text explain 6 t.events
    ++ refused_text explain t.refused

unfoldable pub report_text : Bool → Tally → List ℕ → List ℕ
report_text explain t minutes =
    report_head explain
    ++ lines_text explain t.ticks minutes 0 (aids_in t.names)
    ++ rest_text explain t.ticks t.names.more (get_or minutes rest_line 0)
    ++ totals_text explain t

-- a line has 88 bytes at the most, where a number has 64 bits; the head and the totals have 233
abbrev pub most_report_line : ℕ
most_report_line = 88

abbrev pub most_report : ℕ
most_report = (most_lines + 1) * most_report_line + 233
