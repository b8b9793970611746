-- `numbers::decimal` meets its contract. The loop keeps: the digits left, after the value so far, spell what the whole spells.
use Rattle.std.proofs.Common.{rules}
use native.Mathlib.Omega.{arith}
use mathlib.Core.Path.{sym, ap, ◌∙◌}
use Rattle.text_words.specs.Numbers.{digits_on}
use Rattle.text_words.proofs.NumberLaws.{decimal-none, decimal-some, digits-end, digits_low, digits-high, digits-much, digits-next}
use Rattle.base_bytes.proofs.Rest.{rest_all}
use Rattle.text_words.proofs.numbers.decimal.Goals.{then-c-lt48-via-then-c-lt48, then-c-lt48-via-else-c-lt48+then-c-gt57}
use Rattle.text_words.proofs.numbers.decimal.Goals as goal

pub returns-then-is_empty-clause-value : goal.returns-then-is_empty-clause-value
returns-then-is_empty-clause-value c = decimal-none _ _ (search rules)

pub loop-c-init : goal.loop-c-init
loop-c-init c = (omega arith, ap (digits_on _ 0) (rest_all _) ∙ sym (decimal-some _ _ (search rules)))

pub returns-then-c-lt48-clause-value : goal.returns-then-c-lt48-clause-value
returns-then-c-lt48-clause-value c =
    let l = c.loop-c in
    elim c.then-c-lt48.branch [
      | then-c-lt48-via-then-c-lt48 w ↦ digits_low _ _ _ _ _ l.invariant.1 (omega arith) (omega arith)
      | then-c-lt48-via-else-c-lt48+then-c-gt57 w ↦ digits-high _ _ _ _ _ l.invariant.1 (omega arith) (omega arith) (omega arith)
    ]

pub returns-then-most-value-clause-value : goal.returns-then-most-value-clause-value
returns-then-most-value-clause-value c = digits-much _ _ _ _ _ c.loop-c.invariant.1 (omega arith) (omega arith) (omega arith) (omega arith)

pub loop-c-preserved : goal.loop-c-preserved
loop-c-preserved c = (omega arith, digits-next _ _ _ _ _ c.loop-c.invariant.1 (omega arith) (omega arith) (omega arith) (omega arith))

pub returns-clause-value : goal.returns-clause-value
returns-clause-value c = digits-end _ _ _ _ _ c.loop-c.invariant.1 (omega arith)
