-- `numbers::decimal` meets its contract. The loop keeps: the digits left, after the value so far, spell what the whole spells.
use mathlib.Core.Path.{◌≡◌}
use Prim.Native.Nat.{◌≤◌}
use Rattle.text_words.specs.Numbers.{decimal_of, digits_on}
use Rattle.base_bytes.proofs.Rest.{rest}
use Rattle.text_words.proofs.numbers.decimal.Given as goal

abbrev pub invariant-loop-c : goal.invariant-loop-c
invariant-loop-c l = (l.value ≤ l.most) × (digits_on l.most l.value (rest l.s l.c-index) ≡ decimal_of l.most l.s)
