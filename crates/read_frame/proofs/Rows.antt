-- The six rows that a command meets while it is read, by their conditions: a success exactly where none holds, and a table that goes on after
-- them stops at them or goes past them. By the law of tables, and by the first condition that holds.
use mathlib.Core.Path.{◌≡◌, refl, sym}
use mathlib.Core.List.{List, [], ◌++◌}
use mathlib.Core.Bool.{Bool, true, false, cond, false≢true}
use Rattle.base_status.specs.StatusWords.{is_done}
use Rattle.base_status.specs.Rows.{Row, word_of}
use Rattle.base_status.specs.declared.Status.{Status}
use Rattle.base_status.specs.declared.Status.TheVariants as status
use Rattle.base_status.proofs.Tables.{passed}
use Rattle.read_frame.specs.Rows.{rows_by, framing_by}
use Rattle.std.specs.Prelude.{Result, Ok, Err}
use Prim.Native.Nat.{ℕ}
use native.Mathlib.Omega.{arith}

-- no row's condition holds
pub record Passes (length class instruction parameters shape field : Bool) : Type 0 where
  pub length_right : length ≡ false
  pub class_right : class ≡ false
  pub instruction_right : instruction ≡ false
  pub parameters_right : parameters ≡ false
  pub shape_right : shape ≡ false
  pub data_right : field ≡ false

-- rows of which the last may hold more often, with others after them: they stop where these stop
stops : (length class instruction parameters shape field wider : Bool) (success : Status) (more : List Row) → (field ≡ true → wider ≡ true)
    → is_done (word_of status.Done (rows_by length class instruction parameters shape field)) ≡ false
    → word_of success (rows_by length class instruction parameters shape wider ++ more) ≡ word_of status.Done (rows_by length class instruction parameters shape field)
unfolding word_of
stops true b c d e f g success more h q = refl
stops false true c d e f g success more h q = refl
stops false false true d e f g success more h q = refl
stops false false false true e f g success more h q = refl
stops false false false false true f g success more h q = refl
stops false false false false false true g success more h q = rw (h refl) refl
stops false false false false false false g success more h q = absurd (false≢true (sym q))

module _ (length class instruction parameters shape field : Bool) where
  abbrev rows : List Row
  rows = rows_by length class instruction parameters shape field

  abbrev Pass : Type 0
  Pass = Passes length class instruction parameters shape field

  -- for a table that goes on after these rows, whose last may hold more often: it stops at them, or goes past them
  pub rows-stop : (wider : Bool) (success : Status) (more : List Row) → (field ≡ true → wider ≡ true) → is_done (word_of status.Done rows) ≡ false
      → word_of success (rows_by length class instruction parameters shape wider ++ more) ≡ word_of status.Done rows
  rows-stop wider success more h q = stops length class instruction parameters shape field wider success more h q

  pub rows_pass : (success : Status) (more : List Row) → Pass → word_of success (rows ++ more) ≡ word_of success more
  unfolding word_of
  rows_pass success more p = rw (p.length_right, p.class_right, p.instruction_right, p.parameters_right, p.shape_right, p.data_right) refl

  pub passes-done : Pass → word_of status.Done rows ≡ status.Done
  unfolding word_of
  passes-done p = rows_pass status.Done [] p

  pub done-passes : is_done (word_of status.Done rows) ≡ true → Pass
  done-passes h =
      let p = passed status.Done rows refl h in
      record { length_right = p.0; class_right = p.1.0; instruction_right = p.1.1.0; parameters_right = p.1.1.1.0; shape_right = p.1.1.1.1.0; data_right = p.1.1.1.1.1.0 }

-- ---- a reader that asks the rows before the data field, and then its data field

-- an answer by the rows' word
abbrev answered : {A : Type 0} → Result A Status → Status → Result A Status
answered answer word = cond (is_done word) answer (Err word)

-- what it answers is a refusal that these rows have
pub framing-refused : {A : Type 0} (length class instruction parameters shape field : Bool) (answer : Result A Status) (word : Status)
    → Err word ≡ framing_by length class instruction parameters shape
    → Err word ≡ answered answer (word_of status.Done (rows_by length class instruction parameters shape field))
unfolding framing_by word_of
framing-refused true b c d e f answer word q = cc
framing-refused false true c d e f answer word q = cc
framing-refused false false true d e f answer word q = cc
framing-refused false false false true e f answer word q = cc
framing-refused false false false false true f answer word q = cc
framing-refused false false false false false f answer word q = let z : ◌≡◌ {A = ℕ} 0 1 = cc in absurd (omega arith)

-- where they have none it is what the data field makes, which is its refusal where that is wrong
pub framing-passed : {A : Type 0} (length class instruction parameters shape field : Bool) (answer : Result A Status)
    → (field ≡ true → answer ≡ Err status.DataWrong)
    → Ok tt ≡ framing_by length class instruction parameters shape
    → answer ≡ answered answer (word_of status.Done (rows_by length class instruction parameters shape field))
unfolding framing_by word_of
framing-passed true b c d e f answer h q = let z : ◌≡◌ {A = ℕ} 0 1 = cc in absurd (omega arith)
framing-passed false true c d e f answer h q = let z : ◌≡◌ {A = ℕ} 0 1 = cc in absurd (omega arith)
framing-passed false false true d e f answer h q = let z : ◌≡◌ {A = ℕ} 0 1 = cc in absurd (omega arith)
framing-passed false false false true e f answer h q = let z : ◌≡◌ {A = ℕ} 0 1 = cc in absurd (omega arith)
framing-passed false false false false true f answer h q = let z : ◌≡◌ {A = ℕ} 0 1 = cc in absurd (omega arith)
framing-passed false false false false false true answer h q = h refl
framing-passed false false false false false false answer h q = refl
