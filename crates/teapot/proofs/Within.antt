-- A line's text is written whole where the longest has room. Assumes nothing.
use mathlib.Core.Path.{◌≡◌, ◌∙◌}
use Prim.Native.Nat.{ℕ, ◌+◌, ◌≤◌}
use native.Mathlib.Omega.{arith}
use mathlib.Core.List.{List}
use lib.ListN.{length}
use Rattle.base_bytes.proofs.PutLaws.{after-fits}
use Rattle.script_reply.specs.Replies.{Reply, most_text}
use Rattle.script_session.specs.Session.{Replied}
use Rattle.script_session.specs.declared.Turn.{Turn}

pub written-whole : (old : List ℕ) (at : ℕ) (x : Reply) (r : Turn) (new : List ℕ) → Replied old at x r new → at + most_text ≤ length old → r.filled ≡ at + length x.text
written-whole old at x r new w h = let k = w.short in w.wrote.place ∙ after-fits (length old) at (length x.text) (omega arith)

pub within : (old : List ℕ) (at : ℕ) (x : Reply) (r : Turn) (new : List ℕ) → Replied old at x r new → at + most_text ≤ length old → r.filled ≤ length old
within old at x r new w h = let k = w.short in let e = written-whole old at x r new w h in omega arith
