-- Lines of each kind and of each fault, by computing.
use Prim.Native.Nat.{ℕ, ◌+◌, ◌-◌}
use Prim.Native.String.{String}
use mathlib.Core.Path.{◌≡◌, refl}
use mathlib.Core.List.{List, [], ◌∷◌, ◌++◌, map}
use lib.ListN.{replicate}
use Rattle.std.specs.Prelude.{Result, Ok, Err}
use Rattle.base_choice.specs.Choice.{pick, at_most, is_below, is_same}
use Rattle.base_bytes.specs.Bytes.{same_bytes}
use Rattle.text_words.specs.Words.{before, leading, words_on, words_of, word_from, word_at}
use Rattle.text_words.specs.Numbers.{digits_on, decimal_of}
use Rattle.text_words.specs.Hex.{nibble_of, pairs_of, is_hex}
use Rattle.card_isdp.specs.Sizes.{most_places}
use Rattle.script_words.specs.Ascii.{ascii}
use Rattle.script_words.proofs.Dashes.{dashes}
use Rattle.script_words.specs.Arguments.{bytes_at, value_at}
use Rattle.script_line.specs.Orders.{verb_in, verb_of, count_ok, words_counted, inner, value_or, sent_at, order_by, order_of}
use Rattle.script_line.specs.Orders.{fresh_with, fresh_at, command_at, keyed_at, stored_at, finished_at, policy_line_at}
use Rattle.script_words.specs.declared.Reason.{Reason}
use Rattle.script_words.specs.declared.Reason.TheVariants.{TooLong, UnknownWord, WordsMissing, TooManyWords, BadHex, BadNumber}
use Rattle.record_door.specs.declared.Call.TheVariants.{Command, Keyed, Stored, Finished, Tick, Lost, PolicyUpdate}
use Rattle.script_line.specs.declared.Order.{Order}
use Rattle.script_line.specs.declared.Order.TheVariants.{Nothing, Fresh, Record}
use Rattle.script_line.specs.declared.Order.TheVariants as order

record Example : Type 0 where
  line : String
  says : Result Order Reason

abbrev examples : List Example
examples =
    record { line = "   "; says = Ok Nothing }
    ∷ record { line = "  # tick"; says = Ok Nothing }
    ∷ record { line = " tick "; says = Ok (inner Tick) }
    ∷ record { line = "lost"; says = Ok (inner Lost) }
    ∷ record { line = "fresh - A000000001 1000 00500 0 4294967295"; says = Ok (Fresh (record { eid = record { start = 6; len = 1 }; aid = record { start = 8; len = 10 }; capacity = 1000; quota = 500; used = 0; volatile = 4294967295 })) }
    ∷ record { line = "command 255  80e2"; says = Ok (order.Call (Command 255 (record { start = 13; len = 4 })) 256) }
    ∷ record { line = "command 0 - 1024"; says = Ok (order.Call (Command 0 (record { start = 10; len = 1 })) 1024) }
    ∷ record { line = "keyed A000000002"; says = Ok (inner (Keyed (record { start = 6; len = 10 }))) }
    ∷ record { line = "stored A000000002 120"; says = Ok (inner (Stored (record { start = 7; len = 10 }) 120)) }
    ∷ record { line = "finished A000000002 4"; says = Ok (inner (Finished (record { start = 9; len = 10 }) 4 1)) }
    ∷ record { line = "finished A000000002 4 0"; says = Ok (inner (Finished (record { start = 9; len = 10 }) 4 0)) }
    ∷ record { line = "finished A000000002 4 255"; says = Ok (inner (Finished (record { start = 9; len = 10 }) 4 255)) }
    ∷ record { line = "finished A000000002 4 256"; says = Err BadNumber }
    ∷ record { line = "finished A000000002 4 1 1"; says = Err TooManyWords }
    ∷ record { line = "policy A000000001 80e2"; says = Ok (order.Call (PolicyUpdate (record { start = 7; len = 10 }) (record { start = 18; len = 4 })) 256) }
    ∷ record { line = "policy -  80E2 0"; says = Ok (order.Call (PolicyUpdate (record { start = 7; len = 1 }) (record { start = 10; len = 4 })) 0) }
    ∷ record { line = "policy A0"; says = Err WordsMissing }
    ∷ record { line = "policy A0 80 256 1"; says = Err TooManyWords }
    ∷ record { line = "policy A0F 80 1025"; says = Err BadHex }
    ∷ record { line = "policy A0 8 1025"; says = Err BadHex }
    ∷ record { line = "policy A0 80 1025"; says = Err BadNumber }
    ∷ record { line = "Tick"; says = Err UnknownWord }
    ∷ record { line = "keyed"; says = Err WordsMissing }
    ∷ record { line = "tick tick"; says = Err TooManyWords }
    ∷ record { line = "stored A0F 4294967296"; says = Err BadHex }
    ∷ record { line = "stored A0 4294967296"; says = Err BadNumber }
    ∷ record { line = "command 0 80 1025"; says = Err BadNumber }
    ∷ []

says_so : map (λ (e : Example). order_of (ascii e.line)) examples ≡ map (λ (e : Example). e.says) examples
unfolding order_of order_by verb_in verb_of count_ok words_counted fresh_with fresh_at command_at keyed_at stored_at finished_at policy_line_at sent_at bytes_at value_at value_or pick at_most is_below is_same before leading same_bytes words_on words_of word_from word_at digits_on decimal_of nibble_of pairs_of is_hex
says_so = refl

-- a `card` line with so many words for its places
abbrev card-line : ℕ → Result Order Reason
card-line n = order_of (ascii "card 89 0 0 0 0 0 Q -" ++ dashes n)

card-lines : (card-line (most_places - 1) ∷ card-line most_places ∷ card-line (most_places + 1) ∷ []) ≡ Err WordsMissing ∷ Ok (Record 4) ∷ Err TooManyWords ∷ []
unfolding order_of order_by verb_in verb_of count_ok words_counted pick at_most is_below is_same before leading same_bytes words_on words_of word_from word_at
card-lines = refl

-- a line of 4,096 bytes at the most
too_long : order_of (replicate 4097 32) ≡ Err TooLong
unfolding order_of pick is_below
too_long = refl
