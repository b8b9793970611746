-- Document 01, 'Status words': "Given exactly when, in this order". A table is a list of rows, each a condition and its word;
-- the word of a table is that of its first row whose condition holds, otherwise the word of success that is handed in.
use Rattle.std.specs.Prelude.{List, [], ◌∷◌, Bool, cond}
use Rattle.base_status.specs.declared.Status.{Status}

pub record Row : Type 0 where
  pub when : Bool
  pub word : Status

abbrev pub row : Bool → Status → Row
row condition word = record { when = condition; word = word }

-- "in this order": the first row that holds gives the word (decisions 15, B3)
unfoldable pub word_of : Status → List Row → Status
word_of success [] = success
word_of success (r ∷ rs) = cond r.when r.word (word_of success rs)
