-- The window: what a step finds in the bytes that are not handed out, and where it leaves the window. `last` says that no byte
-- comes after those in the window: only then is a line without LF handed out.
use Rattle.std.specs.Prelude.{ℕ, ◌+◌, ◌-◌, List, Bool, true, false, length, take, drop}
use Rattle.base_choice.specs.Choice.{pick, at_most, is_below}
use Rattle.text_words.specs.Words.{before}
use Rattle.base_bytes.specs.Put.{after}
use Rattle.text_lines.specs.Lines.{longest, line_end}
use Rattle.text_lines.specs.declared.Window.{Window}
use Rattle.text_lines.specs.declared.Found.{Found}
use Rattle.text_lines.specs.declared.Found.TheVariants.{Line, TooLong, More, End}
use Rattle.text_lines.specs.declared.Step.{Step}

abbrev pub window_of : ℕ → ℕ → Bool → Window
window_of at end skipping = record { at = at; end = end; skipping = skipping }

abbrev pub fresh_window : Window
fresh_window = window_of 0 0 false

abbrev pub gives : Window → Found → Step
gives window found_line = record { window = window; found = found_line }

unfoldable pub found_line : ℕ → ℕ → Found
found_line from to = pick (is_below longest (to - from)) TooLong (Line from to)

-- all was handed out
unfoldable pub none_left : ℕ → Bool → Bool → Step
none_left end skipping last = gives (window_of end end skipping) (pick last End More)

-- what stands from a place on holds no LF
unfoldable pub unended : List ℕ → ℕ → Bool → Step
unended s from last =
    pick (at_most (length s) from) (none_left (length s) false last)
    (pick last (gives (window_of (length s) (length s) false) (found_line from (length s)))
    (pick (is_below longest (length s - from)) (gives (window_of (length s) (length s) true) TooLong)
    (gives (window_of from (length s) false) More)))

-- the place of the first LF from a place on, or the end
unfoldable pub stop_from : List ℕ → ℕ → ℕ
stop_from s from = from + before line_end (drop from s)

unfoldable pub line_from : List ℕ → ℕ → Bool → Step
line_from s from last =
    pick (is_below (stop_from s from) (length s)) (gives (window_of (stop_from s from + 1) (length s) false) (found_line from (stop_from s from)))
    (unended s from last)

-- a line that was told as too long is passed over first
unfoldable pub step_from : List ℕ → ℕ → Bool → Bool → Step
step_from s at skipping last =
    pick skipping
    (pick (at_most (length s) (stop_from s at)) (none_left (length s) true last) (line_from s (stop_from s at + 1) last))
    (line_from s at last)

abbrev pub next_line : Window → List ℕ → Bool → Step
next_line w buf last = step_from (take w.end buf) w.at w.skipping last

-- the bytes that are not handed out
abbrev pub held_of : Window → List ℕ → List ℕ
held_of w buf = drop w.at (take w.end buf)

abbrev pub moved_down : Window → List ℕ → Window
moved_down w buf = window_of 0 (length (held_of w buf)) w.skipping

abbrev pub grown_of : Window → ℕ → ℕ → Window
grown_of w count size = window_of w.at (after size w.end count) w.skipping
