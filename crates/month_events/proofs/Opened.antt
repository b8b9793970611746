-- What the goals of this crate's functions unfold: the table of kinds, with the choices that it is made of.
use Rattle.std.specs.Prelude.{⊤}
use Rattle.base_choice.specs.Choice.{pick, is_same}
use Rattle.month_events.specs.Kinds.{kind_of}

unfoldable pub kinds : ⊤
unfolding pick is_same kind_of
kinds = tt
