-- A file's text is written whole where the longest has room. Assumes nothing.
use mathlib.Core.Path.{ap, ◌∙◌}
use Prim.Native.Nat.{ℕ, ◌≤◌}
use native.Mathlib.Omega.{arith}
use mathlib.Core.List.{List}
use lib.ListN.{length}
use Rattle.base_bytes.specs.Put.{Wrote}
use Rattle.base_bytes.proofs.PutLaws.{after-fits, length-put}
use Rattle.month_account.specs.Account.{most_account}

pub within : {old new text : List ℕ} {r : ℕ} → Wrote old 0 text r new × (length text ≤ most_account) → most_account ≤ length old → r ≤ length new
within {old} {new} {text} w h =
    let short = w.1 in
    let place = w.0.place ∙ after-fits (length old) 0 (length text) (omega arith) in
    let size = ap length w.0.content ∙ length-put old 0 text in
    omega arith
