-- `words::count_words` meets its contract. The loop keeps: the words counted and those left are all. Each word has a byte, so the
-- count stays at or before the place.
use native.Mathlib.Omega.{arith}
use mathlib.Core.Path.{sym, ap, ◌∙◌}
use lib.ListN.{length}
use Rattle.text_words.proofs.WordLists.{word_next, word_none, word-inside}
use Rattle.text_words.proofs.words.count_words.Goals as goal

pub loop-word-smaller : goal.loop-word-smaller
loop-word-smaller c = let i = word-inside _ _ _ _ (sym c.in-Some.is ∙ c.next_word.ensures.value) in omega arith

pub loop-word-preserved : goal.loop-word-preserved
loop-word-preserved c = let q = sym c.in-Some.is ∙ c.next_word.ensures.value in
    let e = ap length (word_next _ _ _ _ q) in
    let i = word-inside _ _ _ _ q in
    (omega arith, (omega arith, omega arith))

pub returns : goal.returns
returns c = let e = ap length (word_none _ _ (sym c.in_default.is ∙ c.next_word.ensures.value)) in omega arith
