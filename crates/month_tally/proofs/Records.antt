-- What owning the names tells of their array: the prover knows it of the types. Assumes nothing.
use mathlib.Core.Path.{◌≡◌, sym, ◌∙◌}
use Prim.Native.Nat.{ℕ}
use mathlib.Core.List.{List, map}
use lib.ListN.{length, length-map}
use mir.Val.{Val}
use denote.Laws.{Is}
use denote.Struct.Declared.{row}
use borrow.Author.Rules.{rules}
use Rattle.month_tally.specs.Lines.{most_lines}
use Rattle.month_tally.specs.declared.Names.{Names}
use Rattle.month_tally.specs.contracts.Names as N

length-mapped : (X Y : Type 0) (f : X → Y) (l : List X) (n : ℕ) → length (map f l) ≡ n → length l ≡ n
length-mapped X Y f l n e = sym (length-map l f) ∙ e

pub full : (n : Names) (vs : List Val) → Is (row N.the_type) n vs → length n.aids ≡ most_lines
full n vs g = search (rules, length-mapped)
