-- Nothing is cut: two digits spell a byte, a word lies in its line, and of two words the first ends before the second begins.
-- By `orders-fit`, call by call.
use Prim.Native.Nat.{ℕ, ◌*◌, ◌≤◌}
use mathlib.Core.List.{List}
use native.Mathlib.Omega.{arith}
use lib.ListN.{length, drop, length-append, length-take}
use Rattle.text_words.proofs.HexLaws.{spelled-length}
use Rattle.base_bytes.specs.Bytes.{part_of}
use Rattle.base_bytes.specs.declared.Part.{Part}
use Rattle.record_door.specs.declared.Call as declared
use Rattle.record_door.specs.declared.Call.TheVariants as code
use Rattle.script_line.specs.Fits.{CallFits, OrderFits}
use Rattle.script_line.proofs.Fits.{orders-fit}
use Rattle.script_line.specs.declared.Order.{Order}
use Rattle.script_line.specs.declared.Order.TheVariants as order
use Rattle.script_reply.specs.Replies.{most_bytes, spelled_bytes, bytes_in}
use Rattle.script_reply.specs.Room.{HasRoom, NothingCut}

bytes-half : (s : List ℕ) (p : Part) → length (spelled_bytes s p) * 2 ≤ p.len
bytes-half s p =
    let e = spelled-length (part_of s p) in
    let h = length-take p.len (drop p.start s) in
    omega arith

call-room : (s : List ℕ) (x : declared.Call) → CallFits s x → length (bytes_in s x) ≤ most_bytes
call-room s (code.Command verdict bytes) h = let k = h.short in let n = bytes-half s bytes in omega arith
call-room s (code.Keyed aid) h = let k = h.short in let n = bytes-half s aid in omega arith
call-room s (code.Stored aid m) h = let k = h.short in let n = bytes-half s aid in omega arith
call-room s (code.Finished aid policy mark) h = let k = h.short in let n = bytes-half s aid in omega arith
call-room s code.Tick h = omega arith
call-room s code.Lost h = omega arith
call-room s (code.PolicyUpdate speaker bytes) h =
    let before = h.0 in
    let k = h.1.1.short in
    let m = bytes-half s speaker in
    let n = bytes-half s bytes in
    simp length-append (omega arith)

order-room : (s : List ℕ) (o : Order) → OrderFits s o → HasRoom s o
order-room s order.Nothing h = tt
order-room s (order.Fresh asked) h =
    let i = h.0.short in
    let j = h.1.short in
    let m = bytes-half s asked.eid in
    let n = bytes-half s asked.aid in
    (omega arith, omega arith)
order-room s (order.Call x room) h = (call-room s x h.0, h.1)
order-room s (order.Record at) h = tt

pub nothing-cut : NothingCut
nothing-cut s o q = order-room s o (orders-fit s o q)
