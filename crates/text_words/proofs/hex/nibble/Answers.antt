-- `hex::nibble` meets its contract. Each arm names the tests that lead to it.
use native.Mathlib.Omega.{arith}
use Rattle.base_choice.proofs.Branches.{le!, nle!, lt!, nlt! }
use mathlib.Core.Path.{refl}
use Rattle.text_words.specs.Hex.{nibble_of}
use Rattle.text_words.proofs.hex.nibble.Goals as goal

pub returns-in-48-to-57-clause-value : goal.returns-in-48-to-57-clause-value
unfolding nibble_of
returns-in-48-to-57-clause-value c = nlt! _ (omega arith) (le! _ (omega arith) refl)

pub returns-in-65-to-70-clause-value : goal.returns-in-65-to-70-clause-value
unfolding nibble_of
returns-in-65-to-70-clause-value c = nlt! _ (omega arith) (nle! _ (omega arith) (nlt! _ (omega arith) (le! _ (omega arith) refl)))

pub returns-in-97-to-102-clause-value : goal.returns-in-97-to-102-clause-value
unfolding nibble_of
returns-in-97-to-102-clause-value c = nlt! _ (omega arith) (nle! _ (omega arith) (nlt! _ (omega arith) (nle! _ (omega arith) (nlt! _ (omega arith) (le! _ (omega arith) refl)))))

pub returns-in_default-clause-value : goal.returns-in_default-clause-value
unfolding nibble_of
returns-in_default-clause-value c = lt! _ (omega arith) refl

pub returns-in_default-2-clause-value : goal.returns-in_default-2-clause-value
unfolding nibble_of
returns-in_default-2-clause-value c = nlt! _ (omega arith) (nle! _ (omega arith) (lt! _ (omega arith) refl))

pub returns-in_default-3-clause-value : goal.returns-in_default-3-clause-value
unfolding nibble_of
returns-in_default-3-clause-value c = nlt! _ (omega arith) (nle! _ (omega arith) (nlt! _ (omega arith) (nle! _ (omega arith) (lt! _ (omega arith) refl))))

pub returns-in_default-4-clause-value : goal.returns-in_default-4-clause-value
unfolding nibble_of
returns-in_default-4-clause-value c = nlt! _ (omega arith) (nle! _ (omega arith) (nlt! _ (omega arith) (nle! _ (omega arith) (nlt! _ (omega arith) (nle! _ (omega arith) refl)))))
