-- `words::next_field` meets its contract, by what `until` ensures.
use native.Mathlib.Omega.{arith}
use mathlib.Core.Path.{refl, ap}
use Rattle.text_words.specs.Words.{field_at, span}
use Rattle.base_choice.proofs.Branches.{lt!, nlt! }
use Rattle.text_words.proofs.WordLists.{field-inside}
use Rattle.text_words.proofs.words.next_field.Goals as goal

pub returns-then-s-at-clause-value : goal.returns-then-s-at-clause-value
unfolding field_at
returns-then-s-at-clause-value c = lt! _ (omega arith) refl

pub returns-clause-value : goal.returns-clause-value
unfolding field_at
returns-clause-value c = nlt! _ (omega arith) (ap (span c.args.at) c.until-to.ensures)

pub returns-clause-inside : goal.returns-clause-inside
returns-clause-inside c = (field-inside _ _ _ _ _ (returns-clause-value c)).1
