-- The table of status words: a word is given by the first row whose condition holds, and a success only where none does.
-- By induction over the rows. Assumes nothing.
use mathlib.Core.Path.{◌≡◌, refl}
use mathlib.Core.List.{List, [], ◌∷◌, ◌++◌}
use mathlib.Core.Bool.{Bool, true, false, not, cond, ◌&&◌, false≢true}
use Rattle.base_status.specs.StatusWords.{is_done}
use Rattle.base_status.specs.Rows.{Row, word_of}
use Rattle.base_status.specs.declared.Status.{Status}

-- no row of the list has a condition that holds
abbrev pub Passed : List Row → Type 0
Passed [] = Unit {0}
Passed (r ∷ rs) = (r.when ≡ false) × Passed rs

-- no row gives a success
abbrev pub proper : List Row → Bool
proper [] = true
proper (r ∷ rs) = not (is_done r.word) && proper rs

-- the first row whose condition holds gives the word
pub first-row : (success : Status) (xs : List Row) (r : Row) (rs : List Row) → Passed xs → r.when ≡ true → word_of success (xs ++ r ∷ rs) ≡ r.word
unfolding word_of
first-row success [] r rs p e = rw e
first-row success (x ∷ xs) r rs p e = rw p.0 (first-row success xs r rs p.1 e)

-- where none holds it is the word of success
pub no_row : (success : Status) (rs : List Row) → Passed rs → word_of success rs ≡ success
unfolding word_of
no_row success [] p = refl
no_row success (r ∷ rs) p = rw p.0 (no_row success rs p.1)

both_false : (a b : Bool) → (not a && b) ≡ true → (a ≡ false) × (b ≡ true)
both_false true b e = absurd (false≢true e)
both_false false b e = (refl, e)

-- and a success is given only there
passed-case : (success : Status) (r : Row) (rs : List Row) (b : Bool) → r.when ≡ b → is_done r.word ≡ false → is_done (cond b r.word (word_of success rs)) ≡ true → (is_done (word_of success rs) ≡ true → Passed rs) → Passed (r ∷ rs)
passed-case success r rs true q n e f = absurd (false≢true (rw n at e))
passed-case success r rs false q n e f = (q, f e)

pub passed : (success : Status) (rs : List Row) → proper rs ≡ true → is_done (word_of success rs) ≡ true → Passed rs
unfolding word_of
passed success [] p e = tt
passed success (r ∷ rs) p e =
    let h = both_false (is_done r.word) (proper rs) p in
    passed-case success r rs r.when refl h.0 e (passed success rs h.1)

-- so a table's success is the one that was handed in
pub succeeds : (success : Status) (rs : List Row) → proper rs ≡ true → is_done (word_of success rs) ≡ true → word_of success rs ≡ success
succeeds success rs p e = no_row success rs (passed success rs p e)
