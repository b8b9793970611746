-- Columns of a table: spaces, and a number at the right of its column.
use Rattle.std.specs.Prelude.{ℕ, List, ◌++◌, replicate}
use Rattle.base_choice.specs.Choice.{pick, is_below}
use Rattle.text_words.specs.Numbers.{decimal_text}

unfoldable pub spaces : ℕ → List ℕ
spaces n = replicate n 32

-- how many spaces stand before a number in a column of seven, as wide as the largest capacity
unfoldable pub lead_of : ℕ → ℕ
lead_of n =
    pick (is_below n 10) 6
    (pick (is_below n 100) 5
    (pick (is_below n 1000) 4
    (pick (is_below n 10000) 3
    (pick (is_below n 100000) 2
    (pick (is_below n 1000000) 1 0)))))

unfoldable pub column_text : ℕ → List ℕ
column_text n = spaces (lead_of n) ++ decimal_text n
