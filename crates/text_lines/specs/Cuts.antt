-- What a reader that drives the window gets: before each read it takes the lines that have arrived, then keeps what is left, and
-- the read goes behind it; when the input has ended it takes what is left.
use Rattle.std.specs.Prelude.{ℕ, zero, suc, ◌+◌, ◌≤◌, ◌≡◌, Bool, true, false, length}
use mathlib.Core.List.{List, [], ◌∷◌, ◌++◌, flatten}
use Rattle.text_words.specs.Words.{part, before}
use Rattle.base_bytes.specs.Put.{put}
use Rattle.text_lines.specs.Lines.{Line, longest, line_end, lines_of}
use Rattle.text_lines.specs.Lines as line
use Rattle.text_lines.specs.Window.{next_line, fresh_window, held_of, moved_down, grown_of}
use Rattle.text_lines.specs.declared.Window.{Window}
use Rattle.text_lines.specs.declared.Found.{Found}
use Rattle.text_lines.specs.declared.Found.TheVariants as found

-- the line that a step found, as its bytes lie in the buffer
abbrev pub handed_out : List ℕ → Found → List Line
handed_out buf (found.Line from to) = line.Whole (part buf from to) ∷ []
handed_out buf found.TooLong = line.TooLong ∷ []
handed_out buf found.More = []
handed_out buf found.End = []

-- the lines of so many steps, and the window after them. A step after `More` or `End` finds the same again
unfoldable pub drained : ℕ → Bool → Window → List ℕ → List Line
drained zero last w buf = []
drained (suc n) last w buf = handed_out buf (next_line w buf last).found ++ drained n last (next_line w buf last).window buf

unfoldable pub drained_to : ℕ → Bool → Window → List ℕ → Window
drained_to zero last w buf = w
drained_to (suc n) last w buf = drained_to n last (next_line w buf last).window buf

-- the buffer and the window after bytes were read behind what was kept
abbrev pub read_buffer : Window → List ℕ → List ℕ → List ℕ
read_buffer w buf bytes = put (put buf 0 (held_of w buf)) (length (held_of w buf)) bytes

abbrev pub read_window : Window → List ℕ → List ℕ → Window
read_window w buf bytes = grown_of (moved_down w buf) (length bytes) (length buf)

-- a step hands out at least a byte, so a step a byte is enough
abbrev pub steps : List ℕ → ℕ
steps buf = suc (length buf)

-- the lines that come out where the input comes in by these reads
unfoldable pub lines_by : Window → List ℕ → List (List ℕ) → List Line
lines_by w buf [] = drained (steps buf) true w buf
lines_by w buf (bytes ∷ reads) =
    drained (steps buf) false w buf
    ++ lines_by (read_window (drained_to (steps buf) false w buf) buf bytes) (read_buffer (drained_to (steps buf) false w buf) buf bytes) reads

-- every read has at most so many bytes
pub data ReadsAtMost (n : ℕ) : List (List ℕ) → Type 0 where
  none : ReadsAtMost n []
  one : {bytes : List ℕ} {reads : List (List ℕ)} → length bytes ≤ n → ReadsAtMost n reads → ReadsAtMost n (bytes ∷ reads)

-- however an input is cut into reads, the lines that come out are those that its bytes say. The buffer has room for a read beside
-- the bytes of a line that may be kept
abbrev pub AnyCut : Type 0
AnyCut =
    (n : ℕ) (buf : List ℕ) (reads : List (List ℕ)) → ReadsAtMost n reads → n + longest ≤ length buf → lines_by fresh_window buf reads ≡ lines_of (flatten reads)

-- a session with a window, over the input that comes: each step hands out what it found, at the last only where nothing comes any
-- more; each read leaves what was held with some bytes of the input behind it, and anything in the rest of the buffer
pub data Session : Window → List ℕ → List ℕ → List Line → Type 0 where
  over : {w : Window} {buf : List ℕ} → (next_line w buf true).found ≡ found.End → Session w buf [] []
  step : {w : Window} {buf input : List ℕ} {lines : List Line} (last : Bool) → (last ≡ true → input ≡ [])
      → Session (next_line w buf last).window buf input lines → Session w buf input (handed_out buf (next_line w buf last).found ++ lines)
  read : {w v : Window} {buf after input : List ℕ} {lines : List Line} (bytes : List ℕ) → held_of v after ≡ held_of w buf ++ bytes → v.skipping ≡ w.skipping
      → Session v after input lines → Session w buf (bytes ++ input) lines

-- whatever steps and reads a session takes, what it hands out are the lines of its input
abbrev pub AnySession : Type 0
AnySession = (buf input : List ℕ) (lines : List Line) → Session fresh_window buf input lines → lines ≡ lines_of input

-- a step waits only where no line end has arrived, more may come and there is room for it; it ends only where nothing is left and
-- nothing comes
abbrev pub Settled : Bool → Found → List ℕ → Type 0
Settled last (found.Line from to) held = Unit {0}
Settled last found.TooLong held = Unit {0}
Settled last found.More held = (last ≡ false) × ((before line_end held ≡ length held) × (length held ≤ longest))
Settled last found.End held = (last ≡ true) × (held ≡ [])

abbrev pub AnswersAtOnce : Type 0
AnswersAtOnce = (w : Window) (buf : List ℕ) (last : Bool) → Settled last (next_line w buf last).found (held_of (next_line w buf last).window buf)
