-- The calls that lines ask for, by computing: each with the bytes that its own words spell.
use Prim.Native.Nat.{ℕ}
use Prim.Native.String.{String}
use mathlib.Core.Path.{◌≡◌, refl}
use mathlib.Core.List.{List, [], ◌∷◌, map}
use Rattle.std.specs.Prelude.{Result, Ok, Err}
use Rattle.base_choice.specs.Choice.{pick, at_most, is_below, is_same}
use Rattle.base_bytes.specs.Bytes.{same_bytes}
use Rattle.text_words.specs.Words.{before, leading, words_on, words_of, word_from, word_at}
use Rattle.text_words.specs.Numbers.{digits_on, decimal_of}
use Rattle.text_words.specs.Hex.{nibble_of, pairs_of, is_hex, byte_of, spelled}
use Rattle.rule_run.specs.Calls.{Call, Call.Command, Call.Keyed, Call.Stored, Call.Finished, Call.Tick, Call.Lost, Call.PolicyUpdate}
use Rattle.script_words.specs.Ascii.{ascii}
use Rattle.script_words.specs.Arguments.{bytes_at, value_at}
use Rattle.script_line.specs.Orders.{verb_in, verb_of, count_ok, words_counted, value_or, sent_at, command_at, keyed_at, stored_at, finished_at, policy_line_at, order_by, order_of}
use Rattle.script_words.specs.declared.Reason.{Reason}
use Rattle.script_line.specs.declared.Order.{Order}
use Rattle.script_line.specs.declared.Order.TheVariants as order
use Rattle.script_reply.specs.Replies.{call_spelled}

-- the call of an order that is one
abbrev called : List ℕ → Result Order Reason → List Call
called s (Ok order.Nothing) = []
called s (Ok (order.Fresh asked)) = []
called s (Ok (order.Call x room)) = call_spelled s room x ∷ []
called s (Ok (order.Record at)) = []
called s (Err why) = []

record Example : Type 0 where
  line : String
  asks : Call

abbrev examples : List Example
examples =
    record { line = "command 1 80e2 300"; asks = Command 1 (0x80 ∷ 0xE2 ∷ []) 300 }
    ∷ record { line = "keyed A00F"; asks = Keyed (0xA0 ∷ 0x0F ∷ []) }
    ∷ record { line = "stored A00F 120"; asks = Stored (0xA0 ∷ 0x0F ∷ []) 120 }
    ∷ record { line = "finished A00F 4 0"; asks = Finished (0xA0 ∷ 0x0F ∷ []) 4 0 }
    ∷ record { line = "tick"; asks = Tick }
    ∷ record { line = "lost"; asks = Lost }
    ∷ record { line = "policy A00F 80e288"; asks = PolicyUpdate (0xA0 ∷ 0x0F ∷ []) (0x80 ∷ 0xE2 ∷ 0x88 ∷ []) 256 }
    ∷ record { line = "policy - 80E2 0"; asks = PolicyUpdate [] (0x80 ∷ 0xE2 ∷ []) 0 }
    ∷ []

asks-so : map (λ (e : Example). called (ascii e.line) (order_of (ascii e.line))) examples ≡ map (λ (e : Example). e.asks ∷ []) examples
unfolding order_of order_by verb_in verb_of count_ok words_counted command_at keyed_at stored_at finished_at policy_line_at sent_at bytes_at value_at value_or pick at_most is_below is_same before leading same_bytes words_on words_of word_from word_at digits_on decimal_of nibble_of pairs_of is_hex byte_of spelled
asks-so = refl
