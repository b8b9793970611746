-- `teapot::run`: a line that `next` found lies in the buffer, and so do as many bytes as no line may have.
use native.Mathlib.Omega.{arith}
use mathlib.Core.Path.{sym}
use lib.Seq.{length-take-le}
use Rattle.text_lines.proofs.Cuts.{line-inside}
use Rattle.teapot.proofs.run.Goals as goal

pub slice_bounds-answer-count : goal.slice_bounds-answer-count
slice_bounds-answer-count c = (line-inside _ _ _ c.next.ensures c.in-Line.is).0

pub slice_bounds-answer-start : goal.slice_bounds-answer-start
slice_bounds-answer-start c = (line-inside _ _ _ c.next.ensures c.in-Line.is).0

pub slice_bounds-answer-end : goal.slice_bounds-answer-end
slice_bounds-answer-end c = (line-inside _ _ _ c.next.ensures c.in-Line.is).1

pub slice_bounds-answer-end-in-TooLong : goal.slice_bounds-answer-end-in-TooLong
slice_bounds-answer-end-in-TooLong c = sym (length-take-le 4097 c.loop.buf (omega arith))
