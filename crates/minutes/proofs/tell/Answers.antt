-- `minutes::tell`: what is written stays within its buffer.
use mathlib.Core.Path.{sym}
use lib.Seq.{length-take-le}
use borrow.Author.Rules.{rules}
use Rattle.minutes.proofs.Within.{within}
use Rattle.minutes.proofs.tell.Goals as goal

pub slice_bounds-out-end : goal.slice_bounds-out-end
slice_bounds-out-end c = within c.write_month-end.ensures (search rules)

pub slice_bounds-put_out-end-2 : goal.slice_bounds-put_out-end-2
slice_bounds-put_out-end-2 c = sym (length-take-le c.write_month-end.result _ (within c.write_month-end.ensures (search rules)))
