-- Rows in order, over any type of answers. A table is a list of rows, each a condition and its answer; the answer of a table is that of its
-- first row whose condition holds, otherwise the one that is handed in.
use Rattle.std.specs.Prelude.{◌≡◌, List, [], ◌∷◌, ◌++◌, Bool, true, false, cond}

pub record Row (A : Type 0) : Type 0 where
  pub when : Bool
  pub answer : A

abbrev pub row : {A : Type 0} → Bool → A → Row A
row condition answer = record { when = condition; answer = answer }

unfoldable pub first_of : {A : Type 0} → A → List (Row A) → A
first_of otherwise [] = otherwise
first_of otherwise (r ∷ rs) = cond r.when r.answer (first_of otherwise rs)

-- the same conditions in the same order, each answer under another name
abbrev pub renamed : {A B : Type 0} → (A → B) → List (Row A) → List (Row B)
renamed f [] = []
renamed f (r ∷ rs) = row r.when (f r.answer) ∷ renamed f rs

-- no row's condition holds
abbrev pub NoneHolding : {A : Type 0} → List (Row A) → Type 0
NoneHolding [] = Unit {0}
NoneHolding (r ∷ rs) = (r.when ≡ false) × NoneHolding rs

-- the answer of the first row whose condition holds
pub record FirstHolding {A : Type 0} (rows : List (Row A)) (answer : A) : Type 0 where
  pub before : List (Row A)
  pub this : Row A
  pub after : List (Row A)
  pub split : rows ≡ before ++ this ∷ after
  pub none_before : NoneHolding before
  pub holds : this.when ≡ true
  pub is : this.answer ≡ answer

-- no row of the table has this answer: it is given where none holds, and nowhere else
abbrev pub NoneAnswers : {A : Type 0} → A → List (Row A) → Type 0
NoneAnswers answer [] = Unit {0}
NoneAnswers answer (r ∷ rs) = (r.answer ≡ answer → ⊥) × NoneAnswers answer rs

-- how every table is read: the first row that holds answers, and where none holds the answer handed in; of an answer that no row has, and
-- of one that is not handed in, also the other way round
pub record ReadInOrder {A : Type 0} (otherwise : A) (rows : List (Row A)) : Type 0 where
  pub first : (answer : A) → FirstHolding rows answer → first_of otherwise rows ≡ answer
  pub only-first : (answer : A) → (answer ≡ otherwise → ⊥) → first_of otherwise rows ≡ answer → FirstHolding rows answer
  pub none : NoneHolding rows → first_of otherwise rows ≡ otherwise
  pub only_none : NoneAnswers otherwise rows → first_of otherwise rows ≡ otherwise → NoneHolding rows
