-- What the goals of this crate's functions unfold: the choices with their tests, and what a step of the window is made of.
use Rattle.std.specs.Prelude.{⊤}
use Rattle.base_choice.specs.Choice.{pick, is_below, at_most}
use Rattle.text_lines.specs.Window.{found_line, none_left, unended, stop_from, line_from, step_from}

unfoldable pub steps : ⊤
unfolding pick is_below at_most found_line none_left unended stop_from line_from step_from
steps = tt
