-- `hex::is_hex` meets its contract, by what `same` and `pairs` ensure.
use mathlib.Core.Path.{sym, ◌∙◌}
use borrow.Author.Tests.{eqb-true, eqb-false}
use Rattle.base_choice.proofs.Branches.{yes!, no! }
use Rattle.text_words.proofs.HexLaws.{hex-none, hex-some}
use Rattle.text_words.proofs.hex.is_hex.Goals as goal

pub returns-then-same : goal.returns-then-same
returns-then-same c =
    rw (hex-some _ (eqb-false _ _ (sym c.is_empty.ensures ∙ c.if-not-is_empty.true)))
    (yes! _ (sym c.same.ensures ∙ c.if-same.true) c.if-same.true)

pub returns-else-same : goal.returns-else-same
returns-else-same c =
    rw (hex-some _ (eqb-false _ _ (sym c.is_empty.ensures ∙ c.if-not-is_empty.true)))
    (no! _ (sym c.same.ensures ∙ c.if-same.false) c.pairs.ensures)

pub returns-else-not-is_empty : goal.returns-else-not-is_empty
returns-else-not-is_empty c = rw c.if-not-is_empty.false (hex-none _ (eqb-true _ _ (sym c.is_empty.ensures ∙ c.if-not-is_empty.false)))
