-- Document 01, 'Status words' and the first two paragraphs of 'Reading a command': what a command is before its data field is read.
-- Codes from 000: Tables 7 and 8 (E6), 17 to 19 (E4), 12, 15, 35 and 60 (E2), 25 and 26 (F2), 21 (CA).
-- A byte that is not there reads as 00.
use Rattle.std.specs.Prelude.{ℕ, ◌+◌, List, Bool, not, ◌&&◌, ◌||◌, length, ltb, leb, eqb}
use Rattle.base_bytes.specs.Bytes.{byte}

-- 67 00: command under 4 or over 261 bytes
unfoldable pub length_wrong : List ℕ → Bool
length_wrong s = ltb (length s) 4 || ltb 261 (length s)

-- low to high, both taken
abbrev pub is_within : ℕ → ℕ → ℕ → Bool
is_within low high value = leb low value && leb value high

-- GP 11.1.4 in its printed order: 80-8F, C0-CF, E0-EF (decisions 5, B88)
unfoldable pub class_right : ℕ → Bool
class_right class =
    is_within 0x80 0x8F class
    || is_within 0xC0 0xCF class
    || is_within 0xE0 0xEF class

-- 6E 00: CLA outside 80-8F, C0-CF, E0-EF
unfoldable pub class_wrong : List ℕ → Bool
class_wrong s = not (class_right (byte s 0))

-- 6D 00: INS not E6, E4, E2, F2, CA
unfoldable pub instruction_wrong : List ℕ → Bool
instruction_wrong s =
    not
    (eqb (byte s 1) 0xE6
    || (eqb (byte s 1) 0xE4 || (eqb (byte s 1) 0xE2 || (eqb (byte s 1) 0xF2 || eqb (byte s 1) 0xCA))))

-- create 0C/00; E4 00/40; E2 P1 88 to 8F, P2 00; F2 40/02, and 40/03: request 2026-05; CA FF/21 (decisions 3, 4, 6, B73)
unfoldable pub parameters_right : ℕ → ℕ → ℕ → Bool
parameters_right instruction p1 p2 =
    (eqb instruction 0xE6 && (eqb p1 0x0C && eqb p2 0x00))
    || ((eqb instruction 0xE4 && (eqb p1 0x00 && eqb p2 0x40))
    || ((eqb instruction 0xE2 && (is_within 0x88 0x8F p1 && eqb p2 0x00))
    || ((eqb instruction 0xF2 && (eqb p1 0x40 && (eqb p2 0x02 || eqb p2 0x03))) || (eqb instruction 0xCA && (eqb p1 0xFF && eqb p2 0x21)))))

-- 6A 86: P1 or P2 not as below
unfoldable pub parameters_wrong : List ℕ → Bool
parameters_wrong s = not (parameters_right (byte s 1) (byte s 2) (byte s 3))

-- the place after the Lc bytes
abbrev pub data_end : List ℕ → ℕ
data_end s = 5 + byte s 4

-- exactly 5 bytes, the fifth 00 (decision 19)
abbrev pub is_bare : List ℕ → Bool
is_bare s = eqb (length s) 5 && eqb (byte s 4) 0

-- Lc 1 to 255, then Lc bytes, then nothing or Le 00 (decisions 16, 17, 18)
abbrev pub is_filled : List ℕ → Bool
is_filled s =
    not (eqb (byte s 4) 0) && (eqb (length s) (data_end s) || (eqb (length s) (data_end s + 1) && eqb (byte s (data_end s)) 0))

-- GET DATA is bare, all others are filled
unfoldable pub shape_right : List ℕ → Bool
shape_right s = (eqb (byte s 1) 0xCA && is_bare s) || (not (eqb (byte s 1) 0xCA) && is_filled s)

-- 67 00: length shape wrong
unfoldable pub shape_wrong : List ℕ → Bool
shape_wrong s = not (shape_right s)
