-- Document 01, 'Status words': "Given exactly when, in this order". A call's law has the rows of the table that the call can meet on a sound card, each
-- with its number and the paper's condition on the fields of the card. The first that holds gives the word, whatever the later ones say.
use Rattle.std.specs.Prelude.{ℕ, ◌≤◌, ◌≡◌, List, [], ◌∷◌, true, length}
use Rattle.base_status.specs.StatusWords.{number_of, is_done}
use Rattle.base_status.specs.declared.Status.{Status}
use Rattle.card_record.specs.Answers.{Outcome}
use Rattle.card_record.specs.declared.Card.{Card}
use Rattle.rule_steps.specs.Laws.Answer.{Holds, Enabled}

-- a row: its number, and what has to be so for it
pub record PaperRow : Type 1 where
  pub word : ℕ
  pub holds : Type 0

infix 68 ◌when◌ ◌unless◌
abbrev pub ◌when◌ : ℕ → Type 0 → PaperRow
word when condition = record { word = word; holds = condition }

-- "else", "unless": where this is not so
abbrev pub ◌unless◌ : ℕ → Type 0 → PaperRow
word unless condition = word when (condition → ⊥)

-- the word is that of the first row that holds; where none does the call is accepted: "Otherwise 90 00", and of a listing 63 10
abbrev pub InThisOrder : List PaperRow → Status → Type 0
InThisOrder [] status = is_done status ≡ true
InThisOrder (r ∷ rs) status = (r.holds → number_of status ≡ r.word) × ((r.holds → ⊥) → InThisOrder rs status)

-- what a law says: where it is accepted and then its whole answer, and the word of each refusal
pub record TakenOrRefused (rows : List PaperRow) (Taken : Outcome → Type 0) (o : Outcome) : Type 0 where
  pub taken : Taken o
  pub refused : InThisOrder rows o.status

-- some place holds the profile with this AID
abbrev pub IsHeld : Card → List ℕ → Type 0
IsHeld c aid = (t : ℕ) × Holds c aid t

-- that profile, at its place, is so; and the enabled profile is so
abbrev pub TargetIs : Card → List ℕ → (ℕ → Type 0) → Type 0
TargetIs c aid So = (t : ℕ) × Holds c aid t × So t

abbrev pub EnabledIs : Card → (ℕ → Type 0) → Type 0
EnabledIs c So = (e : ℕ) × Enabled c e × So e

-- "An AID handed to an inner call is wrong unless it has 5 to 16 bytes."
abbrev pub FiveToSixteen : List ℕ → Type 0
FiveToSixteen aid = (5 ≤ length aid) × (length aid ≤ 16)
