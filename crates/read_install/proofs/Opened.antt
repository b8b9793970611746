-- What the goals of this crate's functions unfold: the choices with their tests, and the readers. The check follows them with no answer.
use Rattle.std.specs.Prelude.{⊤}
use Rattle.base_choice.specs.Choice.{pick, at_most, is_below, is_same}
use Rattle.read_tlv.specs.Tlv.{length_at}
use Rattle.read_install.specs.Parameters.{number_at, grant_of, memory_at, parameters_at}
use Rattle.read_install.specs.Install.{prefixed_at, names_at, rights_at, install_of}

unfoldable pub readers : ⊤
unfolding pick at_most is_below is_same length_at number_at grant_of memory_at parameters_at prefixed_at names_at rights_at install_of
readers = tt
