-- `explained::put_word`: the two bytes of the word, and what it means.
use borrow.Author.Rules.{rules}
use native.Mathlib.Omega.{arith}
use mathlib.Core.Path.{◌≡◌}
use Prim.Native.Nat.{◌/◌, ◌%◌}
use Rattle.script_answer.specs.Explained.{word_text}
use Rattle.text_words.proofs.TextLaws.{writing}
use Rattle.script_answer.proofs.explained.put_word.Goals as goal

pub returns : goal.returns
unfolding word_text
returns c =
    let e : c.number.result / 256 % 256 ≡ c.number.result / 256 = omega arith in
    let high = rw c.to_be_bytes.ensures at c.put_hex_8.ensures in
    let low = rw c.to_be_bytes.ensures at c.put_hex_8-2.ensures in
    rw (← c.number.ensures, ← c.meaning.ensures, ← e) (search (rules, arith, writing) depth 12)
