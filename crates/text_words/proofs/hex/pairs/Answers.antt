-- `hex::pairs` meets its contract: pairs of digits are an even number of digits.
use mathlib.Core.Path.{◌∙◌}
use borrow.Author.Tests.{ne_eqb}
use Rattle.text_words.proofs.HexLaws.{pairs_even, pairs_odd}
use Rattle.text_words.proofs.hex.pairs.Goals as goal

pub returns-then-s-eq0 : goal.returns-then-s-eq0
returns-then-s-eq0 c = c.digits.ensures ∙ pairs_even _ c.if-s-eq0.true

pub returns-else-s-eq0 : goal.returns-else-s-eq0
returns-else-s-eq0 c = ne_eqb _ _ c.if-s-eq0.false ∙ pairs_odd _ c.if-s-eq0.false
