-- `writing::glyph` meets its contract. Each exit names the test that leads to it.
use native.Mathlib.Omega.{arith}
use mathlib.Core.Path.{refl}
use Rattle.base_choice.proofs.Branches.{lt!, nlt! }
use Rattle.text_words.specs.Hex.{glyph_of}
use Rattle.text_words.proofs.writing.glyph.Goals as goal

pub returns-then-d-lt10 : goal.returns-then-d-lt10
unfolding glyph_of
returns-then-d-lt10 c = lt! _ (omega arith) refl

pub returns-else-d-lt10 : goal.returns-else-d-lt10
unfolding glyph_of
returns-else-d-lt10 c = nlt! _ (omega arith) refl
