-- What owning a place tells of its fields: the prover knows it of the type. Assumes nothing.
use mathlib.Core.Path.{◌≡◌}
use mathlib.Core.List.{List}
use lib.ListN.{length}
use mir.Val.{Val}
use denote.Laws.{Is}
use denote.Struct.Declared.{row}
use borrow.Author.Rules.{rules}
use Rattle.card_isdp.specs.declared.Isdp.{Isdp}
use Rattle.card_isdp.specs.contracts.Isdp as I

-- an AID has sixteen bytes
pub wide : (p : Isdp) (vs : List Val) → Is (row I.the_type) p vs → length p.aid.bytes ≡ 16
wide p vs g = search rules
