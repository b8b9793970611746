-- `reports::status_of_all`: the row of an open listing is passed or stopped at; then the part is written, and the card keeps where it goes on.
use mathlib.Core.Path.{refl}
use borrow.Author.Rules.{rules}
use Rattle.base_bytes.proofs.PutLaws.{wrote_by}
use Rattle.base_status.specs.Rows.{word_of}
use Rattle.rule_responses.proofs.Parts.{part-short}
use Rattle.rule_steps.proofs.Listed.{part-known}
use Rattle.record_calls.proofs.Accepted.{kept, silent-written}
use Rattle.record_calls.proofs.reports.status_of_all.Goals as goal

pub returns-then-next-card : goal.returns-then-next-card
unfolding word_of
returns-then-next-card c = rw c.if-next-card.true (kept c.refused.ensures)

pub returns : goal.returns
returns c = let a = c.args in
    let p = c.write_part-left.ensures in
    rw (part-known a.card a.next a.tags.life a.tags.fall_back c.if-next-card.false, ← c.begins_at.ensures, ← p.1, ← c.part_word.ensures)
    (silent-written a.card c.keeping.ensures refl c.silently.ensures (wrote_by c.new-out.ensures.as_lent (search rules) p.0) (part-short a.card a.tags.life a.tags.fall_back c.begins_at.result))
