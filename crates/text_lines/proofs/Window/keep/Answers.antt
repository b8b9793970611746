-- `Window::keep` meets its contract: the clamped places hold the same bytes, which stand at the front then.
use native.Mathlib.Omega.{arith}
use mathlib.Core.Path.{ap, ◌∙◌}
use Rattle.base_bytes.specs.Put.{put}
use Rattle.text_lines.proofs.WindowLaws.{window-end, held-part, held-length, moved-front}
use Rattle.text_lines.proofs.Window.keep.Goals as goal

pub returns : goal.returns
returns c = let w = c.args.self.now in
    let p = c.min-end.ensures in
    let q = c.min-at.ensures in
    let s = held-part w.at w.end c.args.buf.now _ _ p q in
    (window-end _ _ (held-length w.at w.end c.args.buf.now _ _ p q), c.copy_within.ensures.after ∙ moved-front c.args.buf.now c.min-at.result c.min-end.result (omega arith) (omega arith) ∙ ap (put _ 0) s)
