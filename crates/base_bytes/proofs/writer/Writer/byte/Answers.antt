-- `Writer::byte` meets its contract: a store, or nothing past the end.
use native.Mathlib.Omega.{arith}
use borrow.Author.Rules.{rules}
use Rattle.base_bytes.proofs.PutLaws.{wrote-store, wrote-past}
use Rattle.base_bytes.proofs.writer.Writer.byte.Goals as goal

pub returns-then-self : goal.returns-then-self
returns-then-self c = record { lent = search rules; wrote = wrote-store _ _ _ (omega arith) }

pub returns-else-self : goal.returns-else-self
returns-else-self c = record { lent = search rules; wrote = wrote-past _ _ _ (omega arith) }
