-- Laws of the window's numbers: what a clamped place stands for, and what moving bytes to the front leaves.
use Prim.Native.Nat.{ℕ, zero, suc, ◌-◌, ◌≤◌, min}
use mathlib.Core.Path.{◌≡◌, refl, sym, ap, ◌∙◌}
use mathlib.Core.List.{List, [], ◌∷◌, ◌++◌}
use mathlib.Core.Bool.{Bool}
use native.Mathlib.Omega.{arith}
use native.Mathlib.Nat.{zero-add}
use native.Mathlib.Numerals.{unary_clauses}
use lib.ListN.{length, take, drop, length-drop, length-take}
use lib.Seq.{take-nil}
use Rattle.std.proofs.lemmas.List.{take_min, drop_min}
use Rattle.text_words.specs.Words.{part}
use Rattle.base_bytes.specs.Put.{put}
use Rattle.base_bytes.proofs.PutLaws.{put_front}
use Rattle.std.specs.List.{copy_within}
use Rattle.text_lines.specs.Window.{window_of}

pub window-end : (at : ℕ) {e f : ℕ} (skipping : Bool) → e ≡ f → window_of at e skipping ≡ window_of at f skipping
window-end at skipping h = ap (λ (e : ℕ). window_of at e skipping) h

-- more elements than there are, or fewer
pub drop-least : (n m : ℕ) (l : List ℕ) → drop (min n (min m (length l))) (take m l) ≡ drop n (take m l)
drop-least n m l = rw (← length-take m l) (drop_min n (take m l))

-- what stands before an end, from a place on
pub drop-part : (a e : ℕ) (l : List ℕ) → drop a (take e l) ≡ part l a e
drop-part zero e l = simp unary_clauses
drop-part (suc a) zero l = let e : 0 - suc a ≡ 0 = omega arith in rw e refl
drop-part (suc a) (suc e) [] = sym (take-nil (suc e - suc a))
drop-part (suc a) (suc e) (c ∷ cs) = simp unary_clauses (drop-part a e cs)

-- the part moved to the front
pub moved-front : (l : List ℕ) (a e : ℕ) → a ≤ e → e ≤ length l → copy_within l a e 0 ≡ put l 0 (part l a e)
moved-front l a e h k =
    let s : List ℕ = part l a e in
    let n : length s ≡ e - a = simp (length-take, length-drop) (omega arith) in
    ap (λ (i : ℕ). s ++ drop i l) (zero-add (e - a) ∙ sym n) ∙ sym (put_front l s (omega arith))

-- clamped places hold the same bytes
module _ (at end : ℕ) (l : List ℕ) (a e : ℕ) (p : e ≡ min end (length l)) (q : a ≡ min at e) where
  pub held-part : part l a e ≡ drop at (take end l)
  held-part =
      sym (drop-part a e l)
      ∙ ap (λ (k : ℕ). drop a (take k l)) p
      ∙ ap (drop a) (take_min end l)
      ∙ ap (λ (k : ℕ). drop k (take end l)) (q ∙ ap (min at) p)
      ∙ drop-least at end l

  pub held-length : e - a ≡ length (drop at (take end l))
  held-length =
      let n : length (part l a e) ≡ e - a = simp (length-take, length-drop) (omega arith) in
      sym n ∙ ap length held-part
