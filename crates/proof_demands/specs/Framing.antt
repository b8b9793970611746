-- Document 01, 'Status words', the first seven rows, in numbers: of every card and every byte string that is sent as a command, or as a policy update
-- (request 2026-06), the word of the first of them that holds, and otherwise one of the words of the rows after them or of success.
use Rattle.std.specs.Prelude.{ℕ, ◌≡◌, List, [], ◌∷◌, true, cond, ltb}
use Rattle.base_status.specs.StatusWords.{number_of}
use Rattle.card_record.specs.Sound.{sound}
use Rattle.card_record.specs.Answers.{Outcome}
use Rattle.card_record.specs.declared.Card.{Card}
use Rattle.read_tlv.specs.Encoding.{Bytes}
use Rattle.read_frame.specs.Classes.{is_among}
use Rattle.read_frame.specs.Headers.{printed_instructions, Header, store_data_headers, printed_headers, framing_word}
use Rattle.rule_run.specs.Calls.{Call.Command, Call.PolicyUpdate}
use Rattle.rule_run.specs.Step.{step}

-- the words of the rows after the length shape, and of success: none of them is a word of framing
abbrev pub later_words : List ℕ
later_words = 0x6A80 ∷ 0x6985 ∷ 0x6A88 ∷ 0x69E1 ∷ 0x6982 ∷ 0x6A84 ∷ 0x9000 ∷ 0x6310 ∷ []

-- "6F 00: the card is not sound", "6F 02: response buffer under 256 bytes", then framing
pub record FirstRows (c : Card) (instructions : List ℕ) (headers : List Header) (s : List ℕ) (room : ℕ) (o : Outcome) : Type 0 where
  pub otherwise : ℕ
  pub later : is_among otherwise later_words ≡ true
  pub word : number_of o.status ≡ cond (sound c) (cond (ltb room 256) 0x6F02 (framing_word instructions headers s otherwise)) 0x6F00

pub record FramingAnswered : Type 0 where
  pub command :
      (c : Card) (verdict : ℕ) (s : List ℕ) (room : ℕ)
      → Bytes s
      → FirstRows c printed_instructions printed_headers s room (step c (Command verdict s room))
  pub update :
      (c : Card) (speaker s : List ℕ) (room : ℕ)
      → Bytes s
      → FirstRows c (0xE2 ∷ []) (store_data_headers []) s room (step c (PolicyUpdate speaker s room))
