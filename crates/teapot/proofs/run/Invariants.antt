-- `teapot::run`: the loop keeps the buffer for reads whole.
use Rattle.std.proofs.Common.{◌≡◌, length}
use Rattle.teapot.proofs.run.Given as goal

abbrev pub invariant-loop : goal.invariant-loop
invariant-loop l = 16384 ≡ length l.buf
