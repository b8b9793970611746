-- What the goals of this crate's functions unfold: the tests of framing.
use Rattle.std.specs.Prelude.{⊤}
use Rattle.read_frame.specs.Framing.{length_wrong, class_right, class_wrong, instruction_wrong, parameters_right, parameters_wrong, shape_right, shape_wrong}

unfoldable pub tests : ⊤
unfolding length_wrong class_right class_wrong instruction_wrong parameters_right parameters_wrong shape_right shape_wrong
tests = tt
