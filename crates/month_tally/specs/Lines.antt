-- docs/EVENTS.md, 'The report': "There is one line for each of the first 64 different AIDs ever enabled, in the order in which each was first
-- enabled"; "All AIDs from the 65th on share the line `rest`". The minutes are a list of a number for each line and one for the rest.
use Rattle.std.specs.Prelude.{ℕ, suc, ◌+◌, List, [], ◌∷◌, Bool, true, false, cond, length, get_or, set, take, replicate, ltb}
use Rattle.base_bytes.specs.Bytes.{same_bytes}
use Rattle.card_isdp.specs.Aids.{no_aid, bytes_of}
use Rattle.card_isdp.specs.declared.Aid.{Aid}
use Rattle.month_tally.specs.declared.Names.{Names}

-- request 2026-01: "The first 64 AIDs ever enabled have lines" (decision B47)
abbrev pub most_lines : ℕ
most_lines = 64

-- the minutes of the rest stand after those of the lines
abbrev pub rest_line : ℕ
rest_line = most_lines

-- "Two AIDs are the same if they have the same length and the same bytes." (decisions 35, B47)
abbrev pub same_aid : Aid → Aid → Bool
same_aid a b = same_bytes (bytes_of a) (bytes_of b)

-- the number of the first AID of a list that is the same; the list's length if none is
unfoldable pub seek_aid : Aid → List Aid → ℕ
seek_aid a [] = 0
seek_aid a (x ∷ xs) = cond (same_aid x a) 0 (suc (seek_aid a xs))

abbrev pub aids_in : Names → List Aid
aids_in n = take n.count n.aids

abbrev pub has_line : Names → Aid → Bool
has_line n a = ltb (seek_aid a (aids_in n)) (length (aids_in n))

-- the line of an AID, or that of the rest
abbrev pub line_of : Names → Aid → ℕ
line_of n a = cond (has_line n a) (seek_aid a (aids_in n)) rest_line

abbrev pub no_names : Names
no_names = record { aids = replicate most_lines no_aid; count = 0; more = false }

-- an AID that is enabled: it has its line, or gets the next one, or is among the rest (decision B47)
abbrev pub noted : Names → Aid → Names
noted n a =
    cond (has_line n a) n
    (cond (ltb n.count most_lines)
    (record { aids = set n.aids n.count a; count = n.count + 1; more = n.more })
    (record { aids = n.aids; count = n.count; more = true }))

-- how many minutes there are: a number for each line, and the last for the rest
abbrev pub minutes_length : ℕ
minutes_length = rest_line + 1

-- no minutes on any line, and one minute more on a line
abbrev pub no_minutes : List ℕ
no_minutes = replicate minutes_length 0

abbrev pub minute_on : ℕ → List ℕ → List ℕ
minute_on line minutes = set minutes line (get_or minutes line 0 + 1)

-- the minutes of all lines together
unfoldable pub minutes_in : List ℕ → ℕ
minutes_in [] = 0
minutes_in (m ∷ ms) = m + minutes_in ms
