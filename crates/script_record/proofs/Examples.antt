-- `card` lines, fine and with each fault, and the words of KEPT, by computing.
use Prim.Native.Nat.{ℕ, ◌-◌}
use Prim.Native.String.{String}
use mathlib.Core.Path.{◌≡◌, refl}
use mathlib.Core.List.{List, [], ◌∷◌, ◌++◌, map}
use lib.ListN.{replicate}
use Rattle.std.specs.Prelude.{Option, Some, None, Result, Ok}
use Rattle.base_choice.specs.Choice.{pick, at_most, is_below, is_same}
use Rattle.base_bytes.specs.Bytes.{same_bytes}
use Rattle.text_words.specs.Words.{before, leading, word_from, word_at, field_at}
use Rattle.text_words.specs.Numbers.{digits_on, decimal_of}
use Rattle.text_words.specs.Hex.{nibble_of, pairs_of, is_hex, byte_of, spelled, hex_byte_of, hex_read_of}
use Rattle.card_isdp.specs.Aids.{padded}
use Rattle.card_isdp.specs.Sizes.{most_places}
use Rattle.card_isdp.specs.Profile.{profile}
use Rattle.card_isdp.specs.Place.{vacant}
use Rattle.card_record.specs.Cards.{card_with, no_place}
use Rattle.card_record.specs.declared.Card.{Card}
use Rattle.card_record.specs.declared.Phase.TheVariants.{Trial}
use Rattle.script_words.specs.Ascii.{ascii}
use Rattle.script_words.proofs.Dashes.{dashes}
use Rattle.script_words.specs.Arguments.{on_ok, bytes_at, value_at}
use Rattle.script_record.specs.Colons.{number_field, open_fields, trial_fields, phase_word, sizes_fields, place_with, place_word}
use Rattle.script_record.specs.Records.{phase_at, kept_in, kept_at, pending_at, record_memory_at, record_head_at, place_at, places_on, record_with, record_at}
use Rattle.script_words.specs.declared.Reason.{Reason}
use Rattle.script_words.specs.declared.Reason.TheVariants.{BadHex, BadNumber, BadPlace, BadPhase}

-- a line that gives its first places, and `-` for each of the others
abbrev given : String → ℕ → List ℕ
given line first = ascii line ++ dashes (most_places - first)

-- the reason, of a line that is wrong
abbrev wrong : Result Card Reason → Option Reason
wrong r = on_ok r Some (λ c. None)

record Fault : Type 0 where
  line : String
  first : ℕ
  reads : Option Reason

-- what is wrong with the words of a record
abbrev faults : List Fault
faults =
    record { line = "card 89 0 0 0 0 0 Q -"; first = 0; reads = Some BadHex }
    ∷ record { line = "card 89001012012341234012345678901224 0 0 0 0 0 t:0:0:0 255"; first = 0; reads = Some BadPhase }
    ∷ record { line = "card 89001012012341234012345678901224 0 0 0 0 0 Q 255 A0"; first = 1; reads = Some BadNumber }
    ∷ record { line = "card 89001012012341234012345678901224 0 0 0 0 0 Q - A0:3F:1:2:3:4:5"; first = 1; reads = Some BadPlace }
    ∷ record { line = "card 89001012012341234012345678901224 0 0 0 0 0 Q - A0:3F:1:2:3"; first = 1; reads = Some BadPlace }
    ∷ record { line = "card 89001012012341234012345678901224 0 0 0 0 0 Q - A0:3F:1:2:3:256"; first = 1; reads = Some BadPlace }
    ∷ record { line = "card 89001012012341234012345678901224 0 0 0 65536 0 Q -"; first = 0; reads = Some BadNumber }
    ∷ record { line = "card 89001012012341234012345678901224 0 0 4294967296 0 0 Q -"; first = 0; reads = Some BadNumber }
    ∷ record { line = "card 89001012012341234012345678901224 0 0 4294967295 0 0 F:255:65535 254 -:00:0:0:0:0"; first = 1; reads = None }
    ∷ []

reads_so : map (λ (e : Fault). wrong (record_at (given e.line e.first) 4)) faults ≡ map (λ (e : Fault). e.reads) faults
unfolding bytes_at value_at number_field open_fields trial_fields phase_word sizes_fields place_with place_word phase_at kept_in kept_at pending_at record_memory_at record_head_at place_at places_on record_with record_at pick at_most is_below is_same before leading same_bytes word_from word_at field_at digits_on decimal_of nibble_of pairs_of is_hex byte_of spelled hex_byte_of hex_read_of padded
reads_so = refl

-- the record that a `card` line hands in
handed-in : record_at (given "card 89001012012341234012345678901224 1000 20 100 7 1 T:0:10:7 1 A000000001:1F:500:9:1:1 a000000002:3f:00400:0:255:255" 2) 4
    ≡ Ok
    (card_with (0x89 ∷ 0x00 ∷ 0x10 ∷ 0x12 ∷ 0x01 ∷ 0x23 ∷ 0x41 ∷ 0x23 ∷ 0x40 ∷ 0x12 ∷ 0x34 ∷ 0x56 ∷ 0x78 ∷ 0x90 ∷ 0x12 ∷ 0x24 ∷ []) 1000 20 100 7 1 (Trial 0 10 7) 1
    (profile (record { bytes = 0xA0 ∷ 0 ∷ 0 ∷ 0 ∷ 1 ∷ replicate 11 0; len = 5 }) 0x1F 500 9 1 1
    ∷ profile (record { bytes = 0xA0 ∷ 0 ∷ 0 ∷ 0 ∷ 2 ∷ replicate 11 0; len = 5 }) 0x3F 400 0 255 255
    ∷ replicate (most_places - 2) vacant))
unfolding bytes_at value_at number_field open_fields trial_fields phase_word sizes_fields place_with place_word phase_at kept_in kept_at pending_at record_memory_at record_head_at place_at places_on record_with record_at pick at_most is_below is_same before leading same_bytes word_from word_at field_at digits_on decimal_of nibble_of pairs_of is_hex byte_of spelled hex_byte_of hex_read_of padded
handed-in = refl

-- KEPT: `-` and every number under 255
record Kept : Type 0 where
  word : String
  read : Option ℕ

abbrev keeps : List Kept
keeps =
    record { word = "-"; read = Some no_place }
    ∷ record { word = "0"; read = Some 0 }
    ∷ record { word = "31"; read = Some 31 }
    ∷ record { word = "200"; read = Some 200 }
    ∷ record { word = "254"; read = Some 254 }
    ∷ record { word = "255"; read = None }
    ∷ record { word = "256"; read = None }
    ∷ record { word = "x"; read = None }
    ∷ record { word = ""; read = None }
    ∷ []

keeps-so : map (λ (e : Kept). kept_in (ascii e.word)) keeps ≡ map (λ (e : Kept). e.read) keeps
unfolding kept_in pick is_below same_bytes digits_on decimal_of
keeps-so = refl
