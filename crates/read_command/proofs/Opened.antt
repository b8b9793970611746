-- What the goals of this crate's functions unfold: the choices with their tests, and the reader.
use Rattle.std.specs.Prelude.{⊤}
use Rattle.base_choice.specs.Choice.{pick, is_same}
use Rattle.read_command.specs.Requests.{field_of, data_wrong}
use Rattle.read_command.specs.Reading.{read_of}

unfoldable pub reader : ⊤
unfolding pick is_same field_of data_wrong read_of
reader = tt
