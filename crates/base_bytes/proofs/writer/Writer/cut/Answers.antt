-- `Writer::cut` meets its contract: the part of the text that fits is copied, and nothing past the end.
use native.Mathlib.Omega.{arith}
use borrow.Author.Rules.{rules}
use Rattle.base_bytes.proofs.PutLaws.{wrote_cut, wrote-past}
use Rattle.base_bytes.proofs.writer.Writer.cut.Goals as goal

pub returns-then-start-size : goal.returns-then-start-size
returns-then-start-size c = record {
  lent = search rules;
  wrote = wrote_cut _ _ _ c.min-n.result _ (omega arith) (omega arith) (omega arith) c.copy_from_slice.ensures.after;
}

pub returns-else-start-size : goal.returns-else-start-size
returns-else-start-size c = record { lent = search rules; wrote = wrote-past _ _ _ (omega arith) }
