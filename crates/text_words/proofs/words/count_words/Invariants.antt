-- `words::count_words` meets its contract. The loop keeps: the words counted and those left are all. Each word has a byte, so the
-- count stays at or before the place.
use mathlib.Core.Path.{◌≡◌}
use Prim.Native.Nat.{◌+◌, ◌-◌, ◌≤◌}
use lib.ListN.{length, drop}
use Rattle.text_words.specs.Words.{words_of}
use Rattle.text_words.proofs.words.count_words.Given as goal

abbrev pub invariant-loop-word : goal.invariant-loop-word
invariant-loop-word l = (l.count ≤ l.at) × ((l.at ≤ length l.s) × (l.count + length (words_of (drop l.at l.s)) ≡ length (words_of l.s)))

abbrev pub decreases-loop-word : goal.decreases-loop-word
decreases-loop-word l = length l.s - l.at
