-- `words::next_word` meets its contract, by what `past` and `until` ensure.
use native.Mathlib.Omega.{arith}
use mathlib.Core.Path.{refl, ap}
use Rattle.base_choice.proofs.Branches.{le!, nle! }
use Rattle.text_words.specs.Words.{span, word_at, word_from}
use Rattle.text_words.proofs.WordLists.{word-inside}
use Rattle.text_words.proofs.words.next_word.Goals as goal

pub returns-then-s-from-clause-value : goal.returns-then-s-from-clause-value
unfolding word_at word_from
returns-then-s-from-clause-value c = le! _ (omega arith) refl

pub returns-clause-value : goal.returns-clause-value
unfolding word_at word_from
returns-clause-value c = rw (← c.past-from.ensures) (nle! _ (omega arith) (ap (span c.past-from.result) c.until-to.ensures))

pub returns-clause-inside : goal.returns-clause-inside
returns-clause-inside c = (word-inside _ _ _ _ (returns-clause-value c)).1
