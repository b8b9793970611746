-- What an order promises to the calls above: each byte string that it names lies in the line, is well-formed and has at most 2,048
-- bytes, and the buffer that a call lends has at most 1,024.
use Rattle.std.specs.Prelude.{ℕ, ◌+◌, ◌≤◌, ◌<◌, ◌≡◌, List, true, length, Ok}
use Rattle.text_words.specs.Hex.{is_hex}
use Rattle.text_lines.specs.Lines.{longest}
use Rattle.base_bytes.specs.declared.Part.{Part}
use Rattle.base_bytes.specs.Bytes.{part_of}
use Rattle.record_door.specs.declared.Call.{Call}
use Rattle.record_door.specs.declared.Call.TheVariants as call
use Rattle.script_line.specs.Orders.{most_buffer, order_of}
use Rattle.script_line.specs.declared.Order.{Order}
use Rattle.script_line.specs.declared.Order.TheVariants as order

pub record Fits (s : List ℕ) (p : Part) : Type 0 where
  pub some : 0 < p.len
  pub inside : p.start + p.len ≤ length s
  pub short : p.start + p.len ≤ longest
  pub hex : is_hex (part_of s p) ≡ true

-- the parts that a call names; of two the first ends before the second begins, so that both together have at most 2,048 bytes
abbrev pub CallFits : List ℕ → Call → Type 0
CallFits s (call.Command verdict bytes) = Fits s bytes
CallFits s (call.Keyed aid) = Fits s aid
CallFits s (call.Stored aid n) = Fits s aid
CallFits s (call.Finished aid policy mark) = Fits s aid
CallFits s call.Tick = Unit {0}
CallFits s call.Lost = Unit {0}
CallFits s (call.PolicyUpdate speaker bytes) = (speaker.start + speaker.len ≤ bytes.start) × (Fits s speaker × Fits s bytes)

abbrev pub OrderFits : List ℕ → Order → Type 0
OrderFits s order.Nothing = Unit {0}
OrderFits s (order.Fresh asked) = Fits s asked.eid × Fits s asked.aid
OrderFits s (order.Call x room) = CallFits s x × (room ≤ most_buffer)
OrderFits s (order.Record at) = Unit {0}

abbrev pub OrdersFit : Type 0
OrdersFit = (s : List ℕ) (o : Order) → Ok o ≡ order_of s → OrderFits s o
