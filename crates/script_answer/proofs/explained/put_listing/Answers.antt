-- `explained::put_listing`: the parts one after the other.
use borrow.Author.Rules.{rules}
use native.Mathlib.Omega.{arith}
use Rattle.script_answer.specs.Explained.{listing_text}
use Rattle.text_words.proofs.TextLaws.{writing}
use Rattle.script_answer.proofs.explained.put_listing.Goals as goal

pub returns-then-kept-ne-NO_PLACE : goal.returns-then-kept-ne-NO_PLACE
unfolding listing_text
returns-then-kept-ne-NO_PLACE c = search (rules, arith, writing)

pub returns-else-kept-ne-NO_PLACE : goal.returns-else-kept-ne-NO_PLACE
unfolding listing_text
returns-else-kept-ne-NO_PLACE c = search (rules, arith, writing)
