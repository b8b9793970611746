-- What the goals of this crate's functions unfold: the choices with their tests, and the reader.
use Rattle.std.specs.Prelude.{⊤}
use Rattle.base_choice.specs.Choice.{pick, is_same}
use Rattle.read_operator.specs.Field.{policy_at, policy_of}
use Rattle.read_operator.specs.Reading.{not_store_data, policy_wrong, update_of}

unfoldable pub reader : ⊤
unfolding pick is_same policy_at policy_of not_store_data policy_wrong update_of
reader = tt
