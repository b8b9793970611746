-- The header's bytes and the words of framing, in numbers. One byte is computed over all 256 values; three bytes are sorted by the instruction, whose
-- headers are a list of P1 with one P2, so that only P1 is computed. Then the rows one by one.
use Prim.Native.Nat.{ℕ, ◌+◌, ◌<◌}
use mathlib.Core.Path.{◌≡◌, refl, sym, ap, ◌∙◌}
use mathlib.Core.List.{List, [], ◌∷◌}
use mathlib.Core.Bool.{Bool, true, false, not, cond, ◌&&◌, ◌||◌, and-false, or-false}
use native.Mathlib.Omega.{arith}
use lib.Dec.{leb, eqb}
use borrow.Author.Tests.{le-leb, ne_eqb, eqb-true, eqb-false}
use Rattle.base_choice.proofs.Branches.{on-eq}
use Rattle.base_bytes.specs.Bytes.{byte}
use Rattle.base_status.specs.StatusWords.{number_of}
use Rattle.base_status.specs.Rows.{word_of}
use Rattle.base_status.specs.declared.Status.TheVariants.{Done}
use Rattle.read_tlv.specs.Encoding.{Bytes}
use Rattle.read_frame.specs.Framing.{is_within, length_wrong, class_wrong, instruction_wrong, parameters_right, parameters_wrong, shape_right, shape_wrong}
use Rattle.read_frame.specs.Classes.{is_among, is_printed}
use Rattle.read_frame.specs.Rows.{rows_by}
use Rattle.read_frame.specs.Headers.{printed_instructions, Header, header, printed_headers, has_header, HeaderBytes, is_shaped, field_word, FramingWords}
use Rattle.read_frame.proofs.Classes.{answers_under, alike, class-byte}

-- ---- INS

instructions : answers_under (λ i. instruction_wrong (0 ∷ i ∷ [])) 256 ≡ answers_under (λ i. not (is_among i printed_instructions)) 256
unfolding answers_under instruction_wrong is_among
instructions = refl

known : (s : List ℕ) → Bytes s → instruction_wrong s ≡ not (is_among (byte s 1) printed_instructions)
unfolding instruction_wrong
known s b = alike (λ i. instruction_wrong (0 ∷ i ∷ [])) (λ i. not (is_among i printed_instructions)) 256 instructions (byte s 1) (b 1)

-- ---- P1 and P2

-- the headers of one instruction with these P1 and one P2
with_first : ℕ → ℕ → List ℕ → List Header → List Header
with_first instruction p2 [] others = others
with_first instruction p2 (p1 ∷ rest) others = header instruction p1 p2 ∷ with_first instruction p2 rest others

gather : (i x y q r : Bool) → ((i && (x && q)) || ((i && (y && q)) || r)) ≡ ((i && ((x || y) && q)) || r)
gather false x y q r = refl
gather true true y true r = refl
gather true true true false r = refl
gather true true false false r = refl
gather true false y q r = refl

gathered : (i p q instruction p2 : ℕ) (values : List ℕ) (others : List Header)
    → has_header i p q (with_first instruction p2 values others) ≡ ((eqb i instruction && (is_among p values && eqb q p2)) || has_header i p q others)
unfolding has_header with_first is_among
gathered i p q instruction p2 [] others = rw (and-false (eqb i instruction)) refl
gathered i p q instruction p2 (v ∷ rest) others =
    ap (λ (b : Bool). (eqb i instruction && (eqb p v && eqb q p2)) || b) (gathered i p q instruction p2 rest others)
    ∙ gather (eqb i instruction) (eqb p v) (is_among p rest) (eqb q p2) (has_header i p q others)

-- "E2 P1 88 to 8F"
storing : List ℕ
storing = 0x88 ∷ 0x89 ∷ 0x8A ∷ 0x8B ∷ 0x8C ∷ 0x8D ∷ 0x8E ∷ 0x8F ∷ []

range : answers_under (is_within 0x88 0x8F) 256 ≡ answers_under (λ p. is_among p storing) 256
unfolding answers_under is_among storing
range = refl

-- two values of P2
either : (i p x y r : Bool) → ((i && (p && (x || y))) || r) ≡ ((i && (p && x)) || ((i && (p && y)) || r))
either false p x y r = refl
either true false x y r = refl
either true true true y r = refl
either true true false y r = refl

-- E4 by its P2; the others past it
right_of : (i p q : ℕ) → p < 256 → parameters_right i p q ≡ has_header i p q printed_headers
unfolding parameters_right has_header with_first storing
right_of i p q h =
    let last = eqb i 0xCA && (eqb p 0xFF && eqb q 0x21) in
    let listings : List Header = header 0xF2 0x40 0x02 ∷ header 0xF2 0x40 0x03 ∷ header 0xCA 0xFF 0x21 ∷ [] in
    let f2 : ((eqb i 0xF2 && (eqb p 0x40 && (eqb q 0x02 || eqb q 0x03))) || last) ≡ has_header i p q listings =
    either (eqb i 0xF2) (eqb p 0x40) (eqb q 0x02) (eqb q 0x03) last ∙ rw (or-false last) refl in
    let e2 : ((eqb i 0xE2 && (is_within 0x88 0x8F p && eqb q 0x00)) || has_header i p q listings) ≡ has_header i p q (with_first 0xE2 0x00 storing listings) =
    ap (λ (b : Bool). (eqb i 0xE2 && (b && eqb q 0x00)) || has_header i p q listings) (alike (is_within 0x88 0x8F) (λ v. is_among v storing) 256 range p h)
    ∙ sym (gathered i p q 0xE2 0x00 storing listings) in
    on-eq i 0xE4
    (λ (e : i ≡ 0xE4). rw e (on-eq q 0x40 (λ (k : q ≡ 0x40). rw k refl) (λ (k : q ≡ 0x40 → ⊥). rw (ne_eqb q 0x40 k) refl)))
    (λ (n : i ≡ 0xE4 → ⊥). rw (ne_eqb i 0xE4 n)
    (ap (λ (b : Bool). (eqb i 0xE6 && (eqb p 0x0C && eqb q 0x00)) || ((eqb i 0xE2 && (is_within 0x88 0x8F p && eqb q 0x00)) || b)) f2
    ∙ ap (λ (b : Bool). (eqb i 0xE6 && (eqb p 0x0C && eqb q 0x00)) || b) e2))

right : (s : List ℕ) → Bytes s → parameters_wrong s ≡ not (has_header (byte s 1) (byte s 2) (byte s 3) printed_headers)
unfolding parameters_wrong
right s b = ap not (right_of (byte s 1) (byte s 2) (byte s 3) (b 2))

pub header-bytes : HeaderBytes
header-bytes = record { known = known; right = right }

-- ---- the rows

pub class-in-numbers : (s : List ℕ) → Bytes s → class_wrong s ≡ not (is_printed (byte s 0))
unfolding class_wrong
class-in-numbers s b = ap not (class-byte.as-it-is (byte s 0) (b 0))

some-case : (n : ℕ) (z : Bool) → eqb n 0 ≡ z → not z ≡ leb 1 n
some-case n true e = rw (eqb-true n 0 e) refl
some-case n false e = let h : n ≡ 0 → ⊥ = eqb-false n 0 e in sym (le-leb 1 n (omega arith))

one_more : (n : ℕ) → 5 + n + 1 ≡ 6 + n
one_more n = omega arith

shape-case : (g bare filled : Bool) → ((g && bare) || (not g && filled)) ≡ cond g bare filled
shape-case true bare filled = or-false bare
shape-case false bare filled = refl

pub shape-in-numbers : (s : List ℕ) → shape_wrong s ≡ not (is_shaped s)
unfolding shape_wrong shape_right
shape-in-numbers s =
    rw (some-case (byte s 4) (eqb (byte s 4) 0) refl, one_more (byte s 4)) (ap not (shape-case (eqb (byte s 1) 0xCA) _ _))

-- the word of the rows, condition by condition
pub rows-word : (l c i p h f : Bool) → number_of (word_of Done (rows_by l c i p h f)) ≡ cond l 0x6700 (cond c 0x6E00 (cond i 0x6D00 (cond p 0x6A86 (cond h 0x6700 (field_word f)))))
unfolding word_of
rows-word true c i p h f = refl
rows-word false true i p h f = refl
rows-word false false true p h f = refl
rows-word false false false true h f = refl
rows-word false false false false true f = refl
rows-word false false false false false true = refl
rows-word false false false false false false = refl

pub framing-words : FramingWords
unfolding length_wrong
framing-words s wrong b =
    rw (rows-word (length_wrong s) (class_wrong s) (instruction_wrong s) (parameters_wrong s) (shape_wrong s) wrong, class-in-numbers s b, known s b, right s b, shape-in-numbers s) refl
