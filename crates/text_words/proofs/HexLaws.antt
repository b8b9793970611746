-- Laws of hex. Those on a loop take its equation first, so that a proof finds the numbers by it; then they say which way the next
-- pair of digits, or the end, decides.
use mathlib.Core.Path.{◌≡◌, refl, ap, sym, ◌∙◌}
use Prim.Native.Nat.{ℕ, ◌+◌, ◌*◌, ◌/◌, ◌≤◌, ◌<◌}
use native.Mathlib.Omega.{arith}
use mathlib.Core.List.{List, [], ◌∷◌, ◌++◌, append_assoc}
use mathlib.Core.Bool.{Bool, true, false, ◌&&◌}
use lib.ListN.{length, get_or, set, take, drop, length-drop, length-set}
use Rattle.std.proofs.lemmas.List.{take_more, take_more_set}
use Rattle.base_choice.specs.Choice.{pick}
use Rattle.base_bytes.specs.Bytes.{same_bytes}
use Rattle.text_words.specs.Hex.{nibble_of, pairs_of, is_hex, byte_of, spelled, spelled_in, hex_byte_of, hex_read_of, hex_left, glyph_of, hex_text, hex_word}
use Rattle.text_words.specs.declared.hex.HexError.TheVariants.{NoRoom, Wrong}
use Rattle.std.specs.Prelude.{Option, Some, None, is_some, is_none, ◌%◌, Ok, Err}
use Rattle.std.specs.List.{list_all}
use Rattle.base_bytes.specs.Put.{put}
use Rattle.base_choice.proofs.Branches.{each, yes!, no!, lt!, nlt! }
use Rattle.base_bytes.proofs.PutLaws.{put-none, put-cons}
use Rattle.base_bytes.proofs.Rest.{rest, rest-two}

-- pairs of digits are an even number of digits
digit_pair : (x y : Option ℕ) {p q : Bool} → p ≡ q → (is_some x && (is_some y && p)) ≡ pick (is_none x) false (pick (is_none y) false q)
unfolding pick
digit_pair None y e = refl
digit_pair (Some a) None e = refl
digit_pair (Some a) (Some b) e = e

pub pairs_even : (s : List ℕ) → length s % 2 ≡ 0 → list_all (λ c. is_some (nibble_of c)) s ≡ pairs_of s
unfolding pairs_of
pairs_even [] h = refl
pairs_even (a ∷ []) h = let z : ◌≡◌ {A = ℕ} 1 0 = h in absurd (omega arith)
pairs_even (a ∷ b ∷ r) h = digit_pair (nibble_of a) (nibble_of b) (pairs_even r (omega arith))

pub pairs_odd : (s : List ℕ) → (length s % 2 ≡ 0 → ⊥) → false ≡ pairs_of s
unfolding pairs_of
pairs_odd [] h = absurd (h refl)
pairs_odd (a ∷ []) h = refl
pairs_odd (a ∷ b ∷ r) h =
    each (λ (x : Bool). false ≡ x) (is_none (nibble_of a)) (λ e. refl)
    (λ e. each (λ (x : Bool). false ≡ x) (is_none (nibble_of b)) (λ f. refl) (λ f. pairs_odd r (λ k. h (omega arith))))

-- two digits a byte, and half a pair none
pub spelled-length : (s : List ℕ) → length (spelled s) ≡ length s / 2
unfolding spelled
spelled-length [] = refl
spelled-length (a ∷ []) = refl
spelled-length (a ∷ b ∷ r) = let e = spelled-length r in omega arith

none_of : (l : List ℕ) → length l ≤ 1 → spelled l ≡ []
unfolding spelled
none_of [] h = refl
none_of (a ∷ []) h = refl
none_of (a ∷ b ∷ r) h = absurd (omega arith)

module _ (s : List ℕ) (k : ℕ) (l o : List ℕ) (q : put l k (spelled (rest s (k * 2))) ≡ o) where
  pub spell_next : (v : ℕ) → v ≡ byte_of (get_or s (k * 2) 0) (get_or s (k * 2 + 1) 0) → k < length s / 2
      → put (set l k v) (k + 1) (spelled (rest s ((k + 1) * 2))) ≡ o
  unfolding spelled
  spell_next v e h =
      let i = k * 2 in
      let j : (k + 1) * 2 ≡ i + 2 = omega arith in
      let p : i + 1 < length s = omega arith in
      ap (λ (n : ℕ). put (set l k v) (k + 1) (spelled (rest s n))) j
      ∙ sym (put-cons l k v (spelled (rest s (i + 2))))
      ∙ ap (λ (u : ℕ). put l k (u ∷ spelled (rest s (i + 2)))) e
      ∙ (rw (rest-two s i p) at q)

  pair-none : length s / 2 ≤ k → spelled (rest s (k * 2)) ≡ []
  unfolding rest
  pair-none h = none_of (drop (k * 2) s) (simp length-drop (omega arith))

  pub spell-end : length s / 2 ≤ k → l ≡ o
  spell-end h = sym (put-none l k) ∙ ap (put l k) (sym (pair-none h)) ∙ q

-- two digits a byte, written pair by pair
pub hex-length : (s : List ℕ) → length (hex_text s) ≡ length s * 2
unfolding hex_text
hex-length [] = refl
hex-length (b ∷ bs) = let e = hex-length bs in omega arith

-- the digits of one byte more
hex-append : (xs ys : List ℕ) → hex_text (xs ++ ys) ≡ hex_text xs ++ hex_text ys
unfolding hex_text
hex-append [] ys = refl
hex-append (b ∷ bs) ys = rw (hex-append bs ys)

pub hex_next : (s : List ℕ) (i : ℕ) → i < length s → hex_text (take i s) ++ hex_text (get_or s i 0 ∷ []) ≡ hex_text (take (i + 1) s)
hex_next s i h = sym (hex-append (take i s) (get_or s i 0 ∷ [])) ∙ ap hex_text (sym (take_more s i 0 h))

-- a turn of the loop that fills a list with them: those of byte i stand after those of the bytes before it
pub fill_turn : (l s : List ℕ) (i u v : ℕ) → take (i * 2) l ≡ hex_text (take i s) → u ≡ glyph_of (get_or s i 0 / 16) → v ≡ glyph_of (get_or s i 0)
    → length l ≡ length s * 2 → i < length s → take ((i + 1) * 2) (set (set l (i * 2) u) (i * 2 + 1) v) ≡ hex_text (take (i + 1) s)
unfolding hex_text
fill_turn l s i u v q e f n h =
    let k = i * 2 in
    let j : (i + 1) * 2 ≡ k + 1 + 1 = omega arith in
    let a = take_more_set (set l k u) (k + 1) v (simp length-set (omega arith)) in
    let b = take_more_set l k u (omega arith) in
    rw (j, a, b, append_assoc, q, e, f) (hex_next s i h)

-- two digits that are a byte
pub byte-not : (s : List ℕ) → (length s ≡ 2 → ⊥) → None ≡ hex_byte_of s
unfolding hex_byte_of
byte-not [] h = refl
byte-not (a ∷ []) h = refl
byte-not (a ∷ b ∷ []) h = absurd (h refl)
byte-not (a ∷ b ∷ c ∷ r) h = refl

pub byte_high : (s : List ℕ) → length s ≡ 2 → None ≡ nibble_of (get_or s 0 0) → None ≡ hex_byte_of s
unfolding hex_byte_of
byte_high [] h e = refl
byte_high (a ∷ []) h e = refl
byte_high (a ∷ b ∷ []) h e = rw (← e) (yes! _ refl refl)
byte_high (a ∷ b ∷ c ∷ r) h e = refl

pub byte_low : (s : List ℕ) → length s ≡ 2 → None ≡ nibble_of (get_or s 1 0) → None ≡ hex_byte_of s
unfolding hex_byte_of
byte_low [] h e = refl
byte_low (a ∷ []) h e = refl
byte_low (a ∷ b ∷ []) h e = each (λ (x : Option ℕ). None ≡ x) (is_none (nibble_of a)) (λ f. refl) (λ f. rw (← e) (yes! _ refl refl))
byte_low (a ∷ b ∷ c ∷ r) h e = refl

pub byte_both : (s : List ℕ) (m n : ℕ) → length s ≡ 2 → Some m ≡ nibble_of (get_or s 0 0) → Some n ≡ nibble_of (get_or s 1 0) → Some (m * 16 + n) ≡ hex_byte_of s
unfolding hex_byte_of byte_of
byte_both [] m n h e f = absurd (omega arith)
byte_both (a ∷ []) m n h e f = absurd (omega arith)
byte_both (a ∷ b ∷ []) m n h e f = rw (← e, ← f) (no! _ refl (no! _ refl refl))
byte_both (a ∷ b ∷ c ∷ r) m n h e f = absurd (omega arith)

-- a byte string, where some text stands
pub hex-none : (s : List ℕ) → length s ≡ 0 → false ≡ is_hex s
unfolding is_hex
hex-none [] h = refl
hex-none (c ∷ cs) h = absurd (omega arith)

pub hex-some : (s : List ℕ) → (length s ≡ 0 → ⊥) → is_hex s ≡ pick (same_bytes s (45 ∷ [])) true (pairs_of s)
unfolding is_hex
hex-some [] h = absurd (h refl)
hex-some (c ∷ cs) h = refl

-- the three answers of reading, and what each leaves; without the test, the two that are left
module _ (s : List ℕ) (room : ℕ) where
  pub in-fits : length s / 2 ≤ room → spelled s ≡ spelled_in s room
  in-fits h = let k : length (spelled s) ≤ room = rw (spelled-length s) h in nlt! _ k refl

  pub in-full : room < length s / 2 → [] ≡ spelled_in s room
  in-full h = let k : room < length (spelled s) = rw (spelled-length s) h in lt! _ k refl

  pub hex-fits : is_hex s ≡ true → length s / 2 ≤ room → (Ok (length s / 2) ≡ hex_read_of s room) × (spelled s ≡ hex_left s room)
  unfolding hex_read_of hex_left
  hex-fits e h =
      let k : length (spelled s) ≤ room = rw (spelled-length s) h in
      (yes! _ e (nlt! _ k (ap Ok (sym (spelled-length s)))), yes! _ e (nlt! _ k refl))

  pub hex-full : is_hex s ≡ true → room < length s / 2 → (Err NoRoom ≡ hex_read_of s room) × ([] ≡ hex_left s room)
  unfolding hex_read_of hex_left
  hex-full e h = let k : room < length (spelled s) = rw (spelled-length s) h in (yes! _ e (lt! _ k refl), yes! _ e (lt! _ k refl))

  pub hex-wrong : is_hex s ≡ false → (Err Wrong ≡ hex_read_of s room) × ([] ≡ hex_left s room)
  unfolding hex_read_of hex_left
  hex-wrong e = (no! _ e refl, no! _ e refl)

-- a byte string as a word
pub word_none : (s : List ℕ) → length s ≡ 0 → 45 ∷ [] ≡ hex_word s
unfolding hex_word
word_none [] h = refl
word_none (b ∷ bs) h = absurd (omega arith)

pub word_some : (s : List ℕ) → (length s ≡ 0 → ⊥) → hex_text s ≡ hex_word s
unfolding hex_word
word_some [] h = absurd (h refl)
word_some (b ∷ bs) h = refl
