-- Request 2026-06, "01's framing rows": of every byte string that is sent to an operator's domain the word that reading it gives, in numbers.
use Rattle.std.specs.Prelude.{ℕ, ◌≡◌, List, [], ◌∷◌}
use Rattle.base_status.specs.StatusWords.{number_of}
use Rattle.read_tlv.specs.Encoding.{Bytes}
use Rattle.read_frame.specs.Headers.{store_data_headers, framing_word, field_word}
use Rattle.read_operator.specs.Reading.{policy_wrong, update_of, update_word}

-- INS E2 alone, with P1 88 to 8F and P2 00
abbrev pub UpdateWords : Type 0
UpdateWords =
    (s : List ℕ)
    → Bytes s
    → number_of (update_word (update_of s)) ≡ framing_word (0xE2 ∷ []) (store_data_headers []) s (field_word (policy_wrong s))
