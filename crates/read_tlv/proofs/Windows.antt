-- Windows of a list of bytes: a window is its first part and the rest, wherever it is cut; and a window that is known to start with some
-- bytes has these bytes there, and the others after them. By the laws of take and drop.
use Prim.Native.Nat.{ℕ, suc, ◌+◌, ◌-◌, ◌≤◌, ◌<◌}
use mathlib.Core.Path.{◌≡◌, refl, sym, ap, ◌∙◌}
use mathlib.Core.List.{List, [], ◌∷◌, ◌++◌}
use native.Mathlib.Omega.{arith}
use native.Mathlib.Numerals.{add-one}
use lib.ListN.{length, take, drop, length-append, take-append-drop}
use lib.Seq.{take-take, length-take-le, drop-append-le, take_at, drop_at, slice_empty, slice-cons, length-slice}
use Rattle.base_bytes.specs.Bytes.{byte, between, part_of}
use Rattle.std.proofs.lemmas.List.{drop-take}
use Rattle.read_tlv.specs.Encoding.{window}

module _ (s : List ℕ) where
  pub window-none : (to : ℕ) → window s to to ≡ []
  unfolding window
  window-none to = slice_empty to s

  pub window-length : (from to : ℕ) → to ≤ length s → length (window s from to) ≡ to - from
  unfolding window
  window-length from to h = length-slice from to s h

  -- the part between two places is the window
  pub window-part : (from to : ℕ) → from ≤ to → part_of s (between from to) ≡ window s from to
  unfolding window
  window-part from to h =
      let e : from + (to - from) ≡ to = omega arith in
      sym (drop-take from (to - from) s) ∙ ap (λ (n : ℕ). drop from (take n s)) e

  pub window-cut : (from mid to : ℕ) → from ≤ mid → mid ≤ to → to ≤ length s → window s from to ≡ window s from mid ++ window s mid to
  unfolding window
  window-cut from mid to h i j =
      let front : take mid (take to s) ≡ take mid s = take-take mid to s i in
      let n : length (take mid s) ≡ mid = length-take-le mid s (omega arith) in
      let whole : take to s ≡ take mid s ++ drop mid (take to s) = sym (take-append-drop mid (take to s)) ∙ ap (λ (l : List ℕ). l ++ drop mid (take to s)) front in
      ap (drop from) whole ∙ drop-append-le from (take mid s) (drop mid (take to s)) (omega arith)

  pub window-first : (from to : ℕ) → from < to → to ≤ length s → window s from to ≡ byte s from ∷ window s (from + 1) to
  unfolding window
  window-first from to h i = rw (add-one from) (slice-cons from to s 0 h i)

  module _ (from to : ℕ) (ordered : from ≤ to) (held : to ≤ length s) where
    -- the window starts with x, and `l` follows
    pub record Starts (x : ℕ) (l : List ℕ) : Type 0 where
      pub room : from < to
      pub first : byte s from ≡ x
      pub after : window s (from + 1) to ≡ l

    pub window-starts : (x : ℕ) (l : List ℕ) → window s from to ≡ x ∷ l → Starts x l
    window-starts x l q =
        let n : to - from ≡ suc (length l) = sym (window-length from to held) ∙ ap length q in
        let r : from < to = omega arith in
        let e : byte s from ∷ window s (from + 1) to ≡ x ∷ l = sym (window-first from to r held) ∙ q in
        record { room = r; first = cc; after = cc }

    -- the window starts with the bytes of a, and b follows
    pub record Begins (a b : List ℕ) : Type 0 where
      pub room : from + length a ≤ to
      pub front : window s from (from + length a) ≡ a
      pub after : window s (from + length a) to ≡ b

    pub window-begins : (a b : List ℕ) → window s from to ≡ a ++ b → Begins a b
    window-begins a b q =
        let n : to - from ≡ length a + length b = sym (window-length from to held) ∙ ap length q ∙ length-append a b in
        let r : from + length a ≤ to = omega arith in
        let mid = from + length a in
        let f : length (window s from mid) ≡ length a = window-length from mid (omega arith) ∙ (omega arith) in
        let e : window s from mid ++ window s mid to ≡ a ++ b = sym (window-cut from mid to (omega arith) r held) ∙ q in
        record {
          room = r;
          front = sym (take_at (window s from mid) (window s mid to) (length a) f) ∙ ap (take (length a)) e ∙ take_at a b (length a) refl;
          after = sym (drop_at (window s from mid) (window s mid to) (length a) f) ∙ ap (drop (length a)) e ∙ drop_at a b (length a) refl;
        }
