-- Document 01, 'Status words', the rows that a command meets while it is read: of every byte string the word that reading it gives, in numbers.
use Rattle.std.specs.Prelude.{ℕ, ◌≡◌, List}
use Rattle.base_status.specs.StatusWords.{number_of}
use Rattle.read_tlv.specs.Encoding.{Bytes}
use Rattle.read_frame.specs.Headers.{printed_instructions, printed_headers, framing_word, field_word}
use Rattle.read_command.specs.Requests.{data_wrong}
use Rattle.read_command.specs.Reading.{read_of, reading_word}

-- the word of framing, then 6A 80 where the data field is wrong, otherwise 90 00: the command was read
abbrev pub ReadingWords : Type 0
ReadingWords =
    (s : List ℕ) (capacity : ℕ)
    → Bytes s
    → number_of (reading_word (read_of s capacity)) ≡ framing_word printed_instructions printed_headers s (field_word (data_wrong s capacity))
