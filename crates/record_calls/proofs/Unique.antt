-- The promise over a lent buffer has one answer and one content. Assumes nothing.
use mathlib.Core.Path.{sym, ◌∙◌}
use Rattle.record_calls.specs.Into.{OneInto}

pub one-into : OneInto
one-into o old r s new newer p q = (p.answer ∙ sym q.answer, p.content ∙ sym q.content)
