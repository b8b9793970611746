-- `Writer::bytes` meets its contract: a text for which there is room is copied; of any other, what `cut` writes.
use native.Mathlib.Omega.{arith}
use borrow.Author.Rules.{rules}
use Rattle.std.proofs.Common.{refl}
use Rattle.base_bytes.proofs.PutLaws.{wrote_over}
use Rattle.base_bytes.proofs.writer.Writer.bytes.Goals as goal

pub returns-then-text-size : goal.returns-then-text-size
returns-then-text-size c = record {
  lent = search rules;
  wrote = wrote_over _ _ _ _ (omega arith) (omega arith) c.copy_from_slice.ensures.after refl;
}
