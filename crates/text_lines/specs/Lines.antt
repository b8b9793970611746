-- The lines of an input, as a function of its bytes alone. LF (10) ends a line; a last line without LF counts; a line of more than
-- 4,096 bytes is too long.
use Rattle.std.specs.Prelude.{ℕ, List, [], ◌∷◌, ◌++◌, length}
use Rattle.base_choice.specs.Choice.{pick, is_below, is_same}

-- the most bytes of a line, without its end (decision B24)
abbrev pub longest : ℕ
longest = 4096

abbrev pub line_end : ℕ
line_end = 10

pub data Line : Type 0 where
  Whole : List ℕ → Line
  TooLong : Line

unfoldable pub line_read : List ℕ → Line
line_read line = pick (is_below longest (length line)) TooLong (Whole line)

-- what stands after the last LF; no bytes are no line (decision B22)
unfoldable pub last_of : List ℕ → List Line
last_of [] = []
last_of (c ∷ cs) = line_read (c ∷ cs) ∷ []

-- the lines of a text, where `line` was read of the one that it begins in
unfoldable pub lines_on : List ℕ → List ℕ → List Line
lines_on line [] = last_of line
lines_on line (c ∷ cs) = pick (is_same c line_end) (line_read line ∷ lines_on [] cs) (lines_on (line ++ (c ∷ [])) cs)

unfoldable pub lines_of : List ℕ → List Line
lines_of text = lines_on [] text
