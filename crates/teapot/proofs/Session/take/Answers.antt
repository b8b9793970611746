-- `Session::take`: the text of a line is written within the buffer, in which it has room.
use borrow.Author.Rules.{rules}
use native.Mathlib.Omega.{arith}
use Prim.Native.Nat.{◌≤◌, ◌+◌}
use mathlib.Core.Path.{◌≡◌}
use lib.ListN.{length}
use Rattle.script_reply.specs.Replies.{most_text}
use Rattle.teapot.proofs.Within.{within}
use Rattle.teapot.proofs.Session.take.Goals as goal

pub invariant_of-self : goal.invariant_of-self
invariant_of-self c =
    let s = c.self.inside in
    let n : length s.out ≡ 32768 = search rules in
    let e = c.self.view_is in
    let k : s.turn.filled + most_text ≤ length s.out = search (rules, arith) in
    let f = within _ _ _ _ _ c.take_line-self-inside.ensures.0 k in
    search (rules, arith)
