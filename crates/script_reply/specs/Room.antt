-- Nothing of what a line spells is cut: it has room in the buffers that are lent for it. So the call that is answered is the one that
-- the line asks for, `call_in`, which knows of no buffer.
use Rattle.std.specs.Prelude.{ℕ, ◌≤◌, ◌≡◌, List, length, Ok}
use Rattle.script_line.specs.Orders.{most_buffer, order_of}
use Rattle.script_line.specs.declared.Order.{Order}
use Rattle.script_line.specs.declared.Order.TheVariants as order
use Rattle.script_reply.specs.Replies.{most_bytes, spelled_bytes, bytes_in}

-- the two byte strings of a fresh card have a buffer each, those of a call one together (decision B85)
abbrev pub HasRoom : List ℕ → Order → Type 0
HasRoom s order.Nothing = Unit {0}
HasRoom s (order.Fresh asked) = (length (spelled_bytes s asked.eid) ≤ most_bytes) × (length (spelled_bytes s asked.aid) ≤ most_bytes)
HasRoom s (order.Call x room) = (length (bytes_in s x) ≤ most_bytes) × (room ≤ most_buffer)
HasRoom s (order.Record at) = Unit {0}

abbrev pub NothingCut : Type 0
NothingCut = (s : List ℕ) (o : Order) → Ok o ≡ order_of s → HasRoom s o
