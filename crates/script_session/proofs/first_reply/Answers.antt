-- `script_session::first_reply`: what `write_text` promises of an empty response.
use mathlib.Core.Path.{refl}
use native.Mathlib.Omega.{arith}
use Rattle.script_session.proofs.first_reply.Goals as goal

pub returns : goal.returns
returns c = let w = c.write_text-filled.ensures in
    (refl, (c.is_done.ensures, (refl, (w.0, let k = w.1 in omega arith))))
