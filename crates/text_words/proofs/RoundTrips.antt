-- What is written is read back: a byte string in hex, a number in decimal. For hex each digit's value is the four bits that it was
-- written for; for decimal, reading the digits of n from nothing comes to n, by induction over how many there are.
use Prim.Native.Nat.{ℕ, zero, suc, ◌+◌, ◌-◌, ◌*◌, ◌/◌, ◌%◌, ◌^◌, ◌≤◌, ◌<◌}
use mathlib.Core.Path.{◌≡◌, refl, sym, ap, ◌∙◌}
use mathlib.Core.List.{List, [], ◌∷◌, ◌++◌, append-nil, append_assoc}
use mathlib.Core.Bool.{true, and-false}
use native.Mathlib.Omega.{arith}
use native.Mathlib.Nat.{pow-suc}
use lib.ListN.{length, length-append}
use lib.Dec.{eqb}
use Rattle.base_bytes.specs.Bytes.{same_bytes}
use Rattle.text_words.specs.Hex.{nibble_of, pairs_of, is_hex, byte_of, spelled, hex_read_of, hex_left, glyph_of, hex_text, hex_word}
use Rattle.text_words.specs.Numbers.{digits_on, digits_text, decimal_text}
use Rattle.std.specs.Prelude.{Some, Ok}
use Rattle.text_words.specs.RoundTrips.{Octets, none, one, HexAgain, DecimalAgain}
use Rattle.base_choice.proofs.Branches.{by-lt, yes!, no!, le!, nle!, nlt! }
use Rattle.text_words.proofs.NumberLaws.{decimal-some}

nibble-glyph : (n : ℕ) → nibble_of (glyph_of n) ≡ Some (n % 16)
unfolding glyph_of nibble_of
nibble-glyph n =
    let h : n % 16 < 16 = omega arith in
    by-lt (λ (g : ℕ). nibble_of g ≡ Some (n % 16)) (n % 16) 10
    (λ l. sym (nlt! _ (omega arith) (le! _ (omega arith) (ap Some (omega arith)))))
    (λ l. sym (nlt! _ (omega arith) (nle! _ (omega arith) (nlt! _ (omega arith) (le! _ (omega arith) (ap Some (omega arith)))))))

byte-glyphs : (b : ℕ) → b < 256 → byte_of (glyph_of (b / 16)) (glyph_of b) ≡ b
unfolding byte_of
byte-glyphs b h = rw (nibble-glyph (b / 16), nibble-glyph b) (omega arith)

spelled-text : {bs : List ℕ} → Octets bs → spelled (hex_text bs) ≡ bs
unfolding spelled hex_text
spelled-text none = refl
spelled-text (one {b} {bs} h o) = rw (byte-glyphs b h, spelled-text o) refl

pairs-text : (bs : List ℕ) → pairs_of (hex_text bs) ≡ true
unfolding pairs_of hex_text
pairs-text [] = refl
pairs-text (b ∷ bs) =
    rw (nibble-glyph (b / 16), nibble-glyph b) (sym (no! _ refl (no! _ refl (sym (pairs-text bs)))))

word-is-hex : (bs : List ℕ) → is_hex (hex_word bs) ≡ true
unfolding is_hex hex_word hex_text same_bytes
word-is-hex [] = sym (yes! _ refl refl)
word-is-hex (b ∷ bs) = sym (no! _ (and-false (eqb (glyph_of (b / 16)) 45)) (sym (pairs-text (b ∷ bs))))

spelled-dash : spelled (45 ∷ []) ≡ []
unfolding spelled
spelled-dash = refl

word-spelled : {bs : List ℕ} → Octets bs → spelled (hex_word bs) ≡ bs
unfolding hex_word
word-spelled none = spelled-dash
word-spelled (one h o) = spelled-text (one h o)

pub hex-again : HexAgain
unfolding hex_read_of hex_left
hex-again bs room o h =
    let e = word-spelled o in
    let k : length (spelled (hex_word bs)) ≤ room = rw e h in
    (sym (yes! _ (word-is-hex bs) (nlt! _ k (ap (λ (x : List ℕ). Ok (length x)) (sym e)))), sym (yes! _ (word-is-hex bs) (nlt! _ k (sym e))))

-- a digit is read
digit-again : (most value d : ℕ) (rest : List ℕ) → d < 10 → value * 10 + d ≤ most → digits_on most value ((48 + d) ∷ rest) ≡ digits_on most (value * 10 + d) rest
unfolding digits_on
digit-again most value d rest h k =
    let e : 48 + d - 48 ≡ d = omega arith in
    sym (nlt! _ (omega arith) (nlt! _ (omega arith) (nlt! _ (omega arith) (ap (λ (x : ℕ). digits_on most (value * 10 + x) rest) (sym e)))))

one_again : (most n : ℕ) (rest : List ℕ) → n < 10 → n ≤ most → digits_on most 0 ((48 + n % 10) ∷ rest) ≡ digits_on most n rest
one_again most n rest h k =
    let e : 0 * 10 + n % 10 ≡ n = omega arith in
    digit-again most 0 (n % 10) rest (omega arith) (omega arith) ∙ ap (λ (x : ℕ). digits_on most x rest) e

digits-again : (k most n : ℕ) (rest : List ℕ) → n < 10 ^ suc k → n ≤ most → digits_on most 0 (digits_text k n ++ rest) ≡ digits_on most n rest
unfolding digits_text
digits-again zero most n rest h p = one_again most n rest (omega arith) p
digits-again (suc k) most n rest h p =
    let q = pow-suc 10 (suc k) in
    by-lt (λ (x : List ℕ). digits_on most 0 (x ++ rest) ≡ digits_on most n rest) n 10
    (λ l. one_again most n rest l p)
    (λ l.
    let a : n / 10 < 10 ^ suc k = omega arith in
    let e : n / 10 * 10 + n % 10 ≡ n = omega arith in
    ap (digits_on most 0) (append_assoc (digits_text k (n / 10)) ((48 + n % 10) ∷ []) rest)
    ∙ digits-again k most (n / 10) ((48 + n % 10) ∷ rest) a (omega arith)
    ∙ digit-again most (n / 10) (n % 10) rest (omega arith) (omega arith)
    ∙ ap (λ (x : ℕ). digits_on most x rest) e)

some-digits : (k n : ℕ) → length (digits_text k n) ≡ 0 → ⊥
unfolding digits_text
some-digits zero n h = omega arith
some-digits (suc k) n h =
    by-lt (λ (x : List ℕ). length x ≡ 0 → ⊥) n 10
    (λ l q. absurd (omega arith))
    (λ l q. let e = length-append (digits_text k (n / 10)) ((48 + n % 10) ∷ []) in absurd (omega arith))
    h

pub decimal-again : DecimalAgain
unfolding digits_on
decimal-again most n p h =
    decimal-some most (decimal_text n) (some-digits 19 n)
    ∙ ap (digits_on most 0) (sym (append-nil (decimal_text n)))
    ∙ digits-again 19 most n [] h p
