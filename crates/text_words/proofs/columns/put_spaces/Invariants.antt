-- `columns::put_spaces` meets its contract: so many spaces as there were turns are written.
use Rattle.base_bytes.specs.Put.{Written}
use Rattle.text_words.specs.Columns.{spaces}
use Rattle.text_words.proofs.columns.put_spaces.Given as goal

abbrev pub invariant-loop : goal.invariant-loop
invariant-loop l = Written l.initial.out (spaces l.counter) l.out
