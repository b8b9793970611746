-- Document 01, 'Status words' and 'Reading a command', first two paragraphs, in numbers: which INS are known, which P1 and P2 are right with each,
-- and of every byte string the word with which it is refused before its data field is read. The tests of the readers are held against these.
use Rattle.std.specs.Prelude.{ℕ, ◌+◌, ◌≡◌, List, [], ◌∷◌, Bool, false, not, cond, ◌&&◌, ◌||◌, length, ltb, leb, eqb}
use Rattle.base_bytes.specs.Bytes.{byte}
use Rattle.base_status.specs.StatusWords.{number_of}
use Rattle.base_status.specs.Rows.{word_of}
use Rattle.base_status.specs.declared.Status.TheVariants.{Done}
use Rattle.read_tlv.specs.Encoding.{Bytes}
use Rattle.read_frame.specs.Framing.{length_wrong, class_wrong, instruction_wrong, parameters_wrong, shape_wrong}
use Rattle.read_frame.specs.Classes.{is_among, is_printed}
use Rattle.read_frame.specs.Rows.{rows_by}

-- "INS not E6, E4, E2, F2, CA"
abbrev pub printed_instructions : List ℕ
printed_instructions = 0xE6 ∷ 0xE4 ∷ 0xE2 ∷ 0xF2 ∷ 0xCA ∷ []

pub record Header : Type 0 where
  pub instruction : ℕ
  pub p1 : ℕ
  pub p2 : ℕ

abbrev pub header : ℕ → ℕ → ℕ → Header
header instruction p1 p2 = record { instruction = instruction; p1 = p1; p2 = p2 }

-- "E2 P1 88 to 8F (Table 35, low three bits RFU), P2 00", and after them others
abbrev pub store_data_headers : List Header → List Header
store_data_headers others =
    header 0xE2 0x88 0x00
    ∷ header 0xE2 0x89 0x00
    ∷ header 0xE2 0x8A 0x00
    ∷ header 0xE2 0x8B 0x00
    ∷ header 0xE2 0x8C 0x00
    ∷ header 0xE2 0x8D 0x00
    ∷ header 0xE2 0x8E 0x00
    ∷ header 0xE2 0x8F 0x00
    ∷ others

-- "create as in 000's creation table" (Tables 7 and 8); "E4 00/40"; those of E2; "F2 40/02", and request 2026-05 40/03; "CA FF/21"
abbrev pub printed_headers : List Header
printed_headers =
    header 0xE6 0x0C 0x00
    ∷ header 0xE4 0x00 0x40
    ∷ store_data_headers
    (header 0xF2 0x40 0x02
    ∷ header 0xF2 0x40 0x03
    ∷ header 0xCA 0xFF 0x21
    ∷ [])

unfoldable pub has_header : ℕ → ℕ → ℕ → List Header → Bool
has_header instruction p1 p2 [] = false
has_header instruction p1 p2 (h ∷ rest) =
    (eqb instruction h.instruction && (eqb p1 h.p1 && eqb p2 h.p2)) || has_header instruction p1 p2 rest

-- of each byte INS, and of each three bytes INS, P1 and P2
pub record HeaderBytes : Type 0 where
  pub known : (s : List ℕ) → Bytes s → instruction_wrong s ≡ not (is_among (byte s 1) printed_instructions)
  pub right : (s : List ℕ) → Bytes s → parameters_wrong s ≡ not (has_header (byte s 1) (byte s 2) (byte s 3) printed_headers)

-- "GET DATA is exactly 5 bytes, the fifth 00. All others have Lc 1 to 255, then Lc bytes, then nothing or Le 00"
abbrev pub is_shaped : List ℕ → Bool
is_shaped s =
    cond (eqb (byte s 1) 0xCA) (eqb (length s) 5 && eqb (byte s 4) 0x00)
    (leb 1 (byte s 4) && (eqb (length s) (5 + byte s 4) || (eqb (length s) (6 + byte s 4) && eqb (byte s (5 + byte s 4)) 0x00)))

-- "Given exactly when, in this order": under 4 or over 261 bytes, the class, the instruction, P1 and P2, the length shape; where none of these is wrong, another word
abbrev pub framing_word : List ℕ → List Header → List ℕ → ℕ → ℕ
framing_word instructions headers s otherwise =
    cond (ltb (length s) 4 || ltb 261 (length s)) 0x6700
    (cond (not (is_printed (byte s 0))) 0x6E00
    (cond (not (is_among (byte s 1) instructions)) 0x6D00
    (cond (not (has_header (byte s 1) (byte s 2) (byte s 3) headers)) 0x6A86
    (cond (not (is_shaped s)) 0x6700 otherwise))))

-- 6A 80 where the data field is wrong, and otherwise 90 00
abbrev pub field_word : Bool → ℕ
field_word wrong = cond wrong 0x6A80 0x9000

-- of every byte string, whatever is found in its data field
abbrev pub FramingWords : Type 0
FramingWords =
    (s : List ℕ) (wrong : Bool)
    → Bytes s
    → number_of (word_of Done (rows_by (length_wrong s) (class_wrong s) (instruction_wrong s) (parameters_wrong s) (shape_wrong s) wrong))
    ≡ framing_word printed_instructions printed_headers s (field_word wrong)
