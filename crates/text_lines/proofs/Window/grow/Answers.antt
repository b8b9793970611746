-- `Window::grow` meets its contract: without room the window stays as it is.
use native.Mathlib.Omega.{arith}
use Rattle.base_bytes.specs.Put.{after}
use Rattle.text_lines.proofs.WindowLaws.{window-end}
use Rattle.text_lines.proofs.Window.grow.Goals as goal

pub returns-then-self-size : goal.returns-then-self-size
unfolding after
returns-then-self-size c = window-end _ _ (omega arith)

pub returns-else-self-size : goal.returns-else-self-size
unfolding after
returns-else-self-size c = window-end _ _ (omega arith)
