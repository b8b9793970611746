-- The profiles of a card as a table for a person: a head, and a row for each place held. The rows are said over a list of places of any
-- length.
use Rattle.std.specs.Prelude.{◌≡◌, ℕ, suc, ◌+◌, ◌-◌, ◌*◌, ◌≤◌, ◌<◌, max, List, [], ◌∷◌, ◌++◌, Bool, length, eqb}
use Rattle.base_choice.specs.Choice.{pick, is_below, is_same}
use Rattle.text_words.specs.Letters.{text}
use Rattle.text_words.specs.Hex.{hex_text, hex8}
use Rattle.text_words.specs.Columns.{spaces, column_text}
use Rattle.card_isdp.specs.Sizes.{most_places}
use Rattle.card_isdp.specs.Aids.{aid_of}
use Rattle.card_isdp.specs.LifeCycle.{selectable, personalized, disabled, enabled}
use Rattle.card_isdp.specs.declared.Isdp.{Isdp}
use Rattle.card_record.specs.declared.Card.{Card}

-- the state in a column of twelve; one that no profile of a sound card has in hex
unfoldable pub state_text : ℕ → List ℕ
state_text life =
    pick (is_same life selectable) (text "SELECTABLE  ")
    (pick (is_same life personalized) (text "PERSONALIZED")
    (pick (is_same life disabled) (text "DISABLED    ")
    (pick (is_same life enabled) (text "ENABLED     ")
    (hex8 life ++ text "          "))))

-- yes or nothing, and so many spaces after it
unfoldable pub yes_text : Bool → ℕ → List ℕ
yes_text told rest = pick told (text "yes" ++ spaces rest) (text "   " ++ spaces rest)

-- the mark of provisioning capability in a column of twelve; one that no profile of a sound card has in hex (decision B59)
unfoldable pub provisioning_text : ℕ → List ℕ
provisioning_text mark = pick (is_below 1 mark) (hex8 mark ++ spaces 10) (yes_text (eqb mark 1) 9)

unfoldable pub policy_text : ℕ → List ℕ
policy_text policy =
    pick (is_same policy 0) (text "none")
    (pick (is_same policy 1) (text "disabling forbidden")
    (pick (is_same policy 2) (text "deletion forbidden")
    (pick (is_same policy 3) (text "disabling and deletion forbidden")
    (pick (is_same policy 4) (text "deleted once disabled")
    (hex8 policy)))))

-- the first two columns, of which the second is as wide as the longest AID; the state and the figures; the roles and rules, the fall-back's
-- in a column of nine
unfoldable pub name_cells : Isdp → ℕ → ℕ → List ℕ
name_cells p place widest =
    column_text place ++ text "  " ++ hex_text (aid_of p) ++ spaces ((widest - length (aid_of p)) * 2)

unfoldable pub figure_cells : Isdp → List ℕ
figure_cells p =
    text "  " ++ state_text p.life ++ text "  " ++ column_text p.quota ++ text "  " ++ column_text p.used

unfoldable pub role_cells : Isdp → ℕ → ℕ → List ℕ
role_cells p place holder =
    text "  "
    ++ yes_text (eqb place holder) 6
    ++ text "  "
    ++ provisioning_text p.mark
    ++ text "  "
    ++ policy_text p.policy
    ++ text "\n"

unfoldable pub row_text : Isdp → ℕ → ℕ → ℕ → List ℕ
row_text p place holder widest = name_cells p place widest ++ figure_cells p ++ role_cells p place holder

-- a place that is not held has no row
unfoldable pub place_text : Isdp → ℕ → ℕ → ℕ → List ℕ
place_text p place holder widest = pick (is_same p.aid.len 0) [] (row_text p place holder widest)

-- a row has 190 bytes at the most, where a number has 64 bits
abbrev pub most_table_row : ℕ
most_table_row = 190

-- the rows of these places, the first of which has the number `place`
unfoldable pub rows_text : ℕ → ℕ → ℕ → List Isdp → List ℕ
rows_text holder widest place [] = []
rows_text holder widest place (p ∷ ps) = place_text p place holder widest ++ rows_text holder widest (suc place) ps

-- the rows stand under each other: each has the same width before its last column, whose text and line end follow
abbrev pub Aligned : Type 0
Aligned =
    (p : Isdp) (place holder widest : ℕ) →
    place < 10000000 → p.quota < 10000000 → p.used < 10000000 → length (aid_of p) ≤ widest →
    length (row_text p place holder widest) ≡ widest * 2 + 68 + length (policy_text p.policy) + 1

-- the bytes of the longest AID; 0 where no place is held
unfoldable pub widest_of : List Isdp → ℕ
widest_of [] = 0
widest_of (p ∷ ps) = max (length (aid_of p)) (widest_of ps)

unfoldable pub table_head : ℕ → List ℕ
table_head widest =
    pick (is_same widest 0) (text "  no profile is held\n")
    (text "  place  AID"
    ++ spaces (widest * 2 - 3)
    ++ text "  state           quota     used  fall-back  provisioning  policy\n")

unfoldable pub table_text : Card → List ℕ
table_text c = table_head (widest_of c.places) ++ rows_text c.fallback (widest_of c.places) 0 c.places

-- the head, and a row for each place
abbrev pub most_table : ℕ
most_table = most_places * most_table_row + 107
