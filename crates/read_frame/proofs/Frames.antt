-- Framing, both ways: a framed command has the right shape and its data field stands at 5 up to data_end; a command of the right
-- shape that is not GET DATA is framed. By the length of the string, and the byte after the data field where there is one.
use Prim.Native.Nat.{ℕ, suc, ◌+◌, ◌≤◌}
use mathlib.Core.Path.{◌≡◌, refl}
use mathlib.Core.List.{List, [], ◌∷◌, ◌++◌}
use mathlib.Core.Bool.{Bool, true, false, not, ◌&&◌, ◌||◌, false≢true}
use native.Mathlib.Omega.{arith}
use lib.ListN.{length, get_or, take, drop, length-append, take-append-drop, drop_of_length-le}
use lib.Seq.{get_or-append_seam, length-take-le, drop-cons}
use lib.Dec.{eqb}
use borrow.Author.Tests.{eq-eqb, ne_eqb, eqb-true, eqb-false, not-true}
use Rattle.base_bytes.specs.Bytes.{byte}
use Rattle.read_frame.specs.Framing.{shape_right, is_filled}
use Rattle.read_frame.specs.Frame.{le_of, framed, data_field, has_le}
use Rattle.std.proofs.lemmas.Bool.{and_parts}

-- a place past the header, counted from there
pub five : (n : ℕ) → 5 + n ≡ suc (suc (suc (suc (suc n))))
five n = omega arith

byte_past : (a b c d n : ℕ) (rest : List ℕ) (i : ℕ) → get_or (a ∷ b ∷ c ∷ d ∷ n ∷ rest) (5 + i) 0 ≡ get_or rest i 0
byte_past a b c d n rest i = rw (five i) refl

module _ (class instruction p1 p2 : ℕ) (field : List ℕ) where
  pub framed-length : (b : Bool) → length (framed class instruction p1 p2 field b) ≡ 5 + (length field + length (le_of b))
  framed-length b = simp length-append (omega arith)

  filled : (b : Bool) → 1 ≤ length field → is_filled (framed class instruction p1 p2 field b) ≡ true
  filled false h =
      rw (ne_eqb (length field) 0 (omega arith))
      (rw (eq-eqb (length (framed class instruction p1 p2 field false)) (5 + length field) (let l = framed-length false in omega arith)) refl)
  filled true h =
      rw (ne_eqb (length field) 0 (omega arith))
      (rw (ne_eqb (length (framed class instruction p1 p2 field true)) (5 + length field) (let l = framed-length true in omega arith))
      (rw (eq-eqb (length (framed class instruction p1 p2 field true)) (5 + length field + 1) (let l = framed-length true in omega arith))
      (rw (byte_past class instruction p1 p2 (length field) (field ++ 0 ∷ []) (length field)) (rw (get_or-append_seam field 0 [] 0) refl))))

  pub framed-shape : (b : Bool) → 1 ≤ length field → (instruction ≡ 0xCA → ⊥) → shape_right (framed class instruction p1 p2 field b) ≡ true
  unfolding shape_right
  framed-shape b h n = rw (ne_eqb instruction 0xCA n) (filled b h)

filled_of : (s : List ℕ) → (byte s 1 ≡ 0xCA → ⊥) → shape_right s ≡ true → is_filled s ≡ true
unfolding shape_right
filled_of s n h = rw (ne_eqb (byte s 1) 0xCA n) at h

-- what is left after n bytes
tail-case : (n : ℕ) (rest : List ℕ) (b : Bool) → eqb (5 + length rest) (5 + n) ≡ b
    → (b || (eqb (5 + length rest) (5 + n + 1) && eqb (get_or rest n 0) 0)) ≡ true → (length (take n rest) ≡ n) × (drop n rest ≡ le_of (not b))
tail-case n rest true e h =
    let q : 5 + length rest ≡ 5 + n = eqb-true _ _ e in
    (length-take-le n rest (omega arith), drop_of_length-le rest {i = n} (omega arith))
tail-case n rest false e h =
    let q : 5 + length rest ≡ 5 + n + 1 = eqb-true _ _ (and_parts (eqb (5 + length rest) (5 + n + 1)) _ h).0 in
    let z : get_or rest n 0 ≡ 0 = eqb-true _ _ (and_parts (eqb (5 + length rest) (5 + n + 1)) _ h).1 in
    let d : drop (suc n) rest ≡ [] = drop_of_length-le rest {i = suc n} (omega arith) in
    (length-take-le n rest (omega arith), rw (drop-cons rest n 0 (omega arith)) (rw (z, d) refl))

whole : (a b c d n : ℕ) (rest : List ℕ) → is_filled (a ∷ b ∷ c ∷ d ∷ n ∷ rest) ≡ true
    → a ∷ b ∷ c ∷ d ∷ n ∷ rest ≡ framed a b c d (take n rest) (has_le (a ∷ b ∷ c ∷ d ∷ n ∷ rest))
whole a b c d n rest h =
    let g = rw (← five (length rest), byte_past a b c d n rest n) at (and_parts (not (eqb n 0)) _ h).1 in
    let t = tail-case n rest (eqb (5 + length rest) (5 + n)) refl g in
    rw (← five (length rest)) (rw t.0 (rw (← t.1) (rw take-append-drop refl)))

pub framed-whole : (s : List ℕ) → (byte s 1 ≡ 0xCA → ⊥) → shape_right s ≡ true → s ≡ framed (byte s 0) (byte s 1) (byte s 2) (byte s 3) (data_field s) (has_le s)
framed-whole [] n h = absurd (false≢true (filled_of [] n h))
framed-whole (a ∷ []) n h = absurd (false≢true (filled_of (a ∷ []) n h))
framed-whole (a ∷ b ∷ []) n h = absurd (false≢true (filled_of (a ∷ b ∷ []) n h))
framed-whole (a ∷ b ∷ c ∷ []) n h = absurd (false≢true (filled_of (a ∷ b ∷ c ∷ []) n h))
framed-whole (a ∷ b ∷ c ∷ d ∷ []) n h = absurd (false≢true (filled_of (a ∷ b ∷ c ∷ d ∷ []) n h))
framed-whole (a ∷ b ∷ c ∷ d ∷ n ∷ rest) m h = whole a b c d n rest (filled_of (a ∷ b ∷ c ∷ d ∷ n ∷ rest) m h)

filled-length : (a b c d n : ℕ) (rest : List ℕ) → is_filled (a ∷ b ∷ c ∷ d ∷ n ∷ rest) ≡ true → (1 ≤ n) × (length (take n rest) ≡ n)
filled-length a b c d n rest h =
    let g = rw (← five (length rest), byte_past a b c d n rest n) at (and_parts (not (eqb n 0)) _ h).1 in
    let z : n ≡ 0 → ⊥ = eqb-false n 0 (not-true (eqb n 0) (and_parts (not (eqb n 0)) _ h).0) in
    (omega arith, (tail-case n rest (eqb (5 + length rest) (5 + n)) refl g).0)

-- Lc is at least 1, and the data field has so many bytes
pub field-length : (s : List ℕ) → (byte s 1 ≡ 0xCA → ⊥) → shape_right s ≡ true → (1 ≤ byte s 4) × (length (data_field s) ≡ byte s 4)
field-length [] n h = absurd (false≢true (filled_of [] n h))
field-length (a ∷ []) n h = absurd (false≢true (filled_of (a ∷ []) n h))
field-length (a ∷ b ∷ []) n h = absurd (false≢true (filled_of (a ∷ b ∷ []) n h))
field-length (a ∷ b ∷ c ∷ []) n h = absurd (false≢true (filled_of (a ∷ b ∷ c ∷ []) n h))
field-length (a ∷ b ∷ c ∷ d ∷ []) n h = absurd (false≢true (filled_of (a ∷ b ∷ c ∷ d ∷ []) n h))
field-length (a ∷ b ∷ c ∷ d ∷ n ∷ rest) m h = filled-length a b c d n rest (filled_of (a ∷ b ∷ c ∷ d ∷ n ∷ rest) m h)
