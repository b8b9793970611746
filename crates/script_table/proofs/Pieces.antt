-- One turn of the loops over the places: what is known of the places so far, and of one more. Assumes nothing.
use mathlib.Core.Path.{◌≡◌, ap, sym, ◌∙◌}
use Prim.Native.Nat.{ℕ, zero, suc, ◌+◌, ◌<◌, max}
use native.Mathlib.Nat.{add-zero, add-suc, suc-add}
use native.Mathlib.Numerals.{add-one}
use native.Mathlib.Omega.{arith}
use mathlib.Core.List.{List, [], ◌∷◌, ◌++◌, append-nil, append_assoc}
use lib.ListN.{length, take, get_or}
use Rattle.card_isdp.specs.Aids.{aid_of}
use Rattle.card_isdp.specs.declared.Isdp.{Isdp}
use Rattle.script_table.specs.Profiles.{place_text, rows_text, widest_of}

widest_suc : (l : List Isdp) (i : ℕ) (d : Isdp) → i < length l → widest_of (take (suc i) l) ≡ max (widest_of (take i l)) (length (aid_of (get_or l i d)))
unfolding widest_of
widest_suc [] i d h = absurd (omega arith)
widest_suc (p ∷ ps) zero d h = omega arith
widest_suc (p ∷ ps) (suc i) d h = let e = widest_suc ps i d (omega arith) in omega arith

pub widest_more : (l : List Isdp) (i n : ℕ) (d : Isdp) → i < length l → n ≡ length (aid_of (get_or l i d)) → widest_of (take (i + 1) l) ≡ max (widest_of (take i l)) n
widest_more l i n d h e = rw (add-one i) (widest_suc l i d h ∙ ap (max (widest_of (take i l))) (sym e))

module _ (holder widest : ℕ) where
  rows_suc : (l : List Isdp) (i k : ℕ) (d : Isdp) → i < length l → rows_text holder widest k (take (suc i) l) ≡ rows_text holder widest k (take i l) ++ place_text (get_or l i d) (k + i) holder widest
  unfolding rows_text
  rows_suc [] i k d h = absurd (omega arith)
  rows_suc (p ∷ ps) zero k d h = append-nil _ ∙ ap (λ (n : ℕ). place_text p n holder widest) (sym (add-zero k))
  rows_suc (p ∷ ps) (suc i) k d h =
      ap (◌++◌ (place_text p k holder widest)) (rows_suc ps i (suc k) d (omega arith))
      ∙ sym (append_assoc (place_text p k holder widest) _ _)
      ∙ ap (λ (n : ℕ). (place_text p k holder widest ++ rows_text holder widest (suc k) (take i ps)) ++ place_text (get_or ps i d) n holder widest) (suc-add k i ∙ sym (add-suc k i))

  pub rows_more : (l : List Isdp) (i : ℕ) (d : Isdp) → i < length l → rows_text holder widest 0 (take (i + 1) l) ≡ rows_text holder widest 0 (take i l) ++ place_text (get_or l i d) i holder widest
  rows_more l i d h = rw (add-one i) (rows_suc l i 0 d h ∙ ap (λ (n : ℕ). rows_text holder widest 0 (take i l) ++ place_text (get_or l i d) n holder widest) (omega arith))
