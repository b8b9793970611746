-- Laws of writing, all without a bound: what does not fit is dropped, now or in a later text. Texts written one after the other are
-- one text (`wrote_then`, `written_then`).
use Prim.Native.Nat.{ℕ, suc, ◌+◌, ◌-◌, ◌≤◌, ◌<◌, min}
use mathlib.Core.Path.{◌≡◌, refl, sym, ap, subst, ◌∙◌}
use mathlib.Core.List.{List, [], ◌∷◌, ◌++◌}
use native.Mathlib.Nat.{add-zero, add-suc, suc-add, zero-add}
use native.Mathlib.Omega.{arith}
use native.Mathlib.Numerals.{add-one}
use mathlib.Core.Bool.{Bool, true, false}
use lib.Dec.{leb}
use borrow.Author.Tests.{leb-true, leb-false}
use lib.ListN.{length, take, drop, set, get_or, length-append}
use lib.Seq.{sets, length-sets, sets-eq, set_out, get_or-set_other, take_all}
use borrow.Rule.Slice.PartMut.{put_mid}
use Rattle.std.proofs.lemmas.List.{length-take-le, take-append-drop, append_assoc}
use Rattle.std.proofs.lemmas.Slice.{put_mid-paste}
use Rattle.std.proofs.lemmas.List.Edits.{paste_all}
use Rattle.base_bytes.specs.declared.writer.Writer.{Writer}
use Rattle.base_bytes.specs.Put.{put, after, Wrote, Written}

-- what it is where vs fits: the list before i, vs, and the list past vs, untouched
pub put_is : (l : List ℕ) (i : ℕ) (vs : List ℕ) → i + length vs ≤ length l → put l i vs ≡ take i l ++ vs ++ drop (i + length vs) l
unfolding put
put_is l i vs h = sets-eq vs l i h

-- from the first byte on: vs, and the rest as it was
pub put_front : (l vs : List ℕ) → length vs ≤ length l → put l 0 vs ≡ vs ++ drop (length vs) l
put_front l vs h = put_is l 0 vs (omega arith) ∙ ap (λ (k : ℕ). vs ++ drop k l) (zero-add (length vs))

pub length-put : (l : List ℕ) (i : ℕ) (vs : List ℕ) → length (put l i vs) ≡ length l
unfolding put
length-put l i vs = length-sets l i vs

pub put-none : (l : List ℕ) (i : ℕ) → put l i [] ≡ l
unfolding put
put-none l i = refl

pub set-put : (l : List ℕ) (i v : ℕ) → set l i v ≡ put l i (v ∷ [])
unfolding put
set-put l i v = refl

-- nothing is written past the end
sets-past : (l : List ℕ) (i : ℕ) (vs : List ℕ) → length l ≤ i → sets l i vs ≡ l
sets-past l i [] h = refl
sets-past l i (v ∷ vs) h =
    let k : length l ≤ suc i = omega arith in
    ap (λ (m : List ℕ). sets m (suc i) vs) (set_out l i v h) ∙ sets-past l (suc i) vs k

pub put-past : (l : List ℕ) (i : ℕ) (vs : List ℕ) → length l ≤ i → put l i vs ≡ l
unfolding put
put-past l i vs h = sets-past l i vs h

-- the place after: how far, and that one text after another ends where both do
pub after-fits : (size at count : ℕ) → at + count ≤ size → after size at count ≡ at + count
unfolding after
after-fits size at count h = omega arith

pub after_none : (size at : ℕ) → after size at 0 ≡ at
unfolding after
after_none size at = omega arith

pub after-after : (size at m n : ℕ) → after size (after size at m) n ≡ after size at (m + n)
unfolding after
after-after size at m n = omega arith

-- what stands past what is written is as it was
sets-above : (l : List ℕ) (i : ℕ) (vs : List ℕ) (j : ℕ) → i + length vs ≤ j → get_or (sets l i vs) j 0 ≡ get_or l j 0
sets-above l i [] j h = refl
sets-above l i (v ∷ vs) j h =
    let k : suc i + length vs ≤ j = omega arith in
    sets-above (set l i v) (suc i) vs j k ∙ get_or-set_other l i j v 0 (λ e. absurd (omega arith))

pub put-above : (l : List ℕ) (i : ℕ) (vs : List ℕ) (j : ℕ) → i + length vs ≤ j → get_or (put l i vs) j 0 ≡ get_or l j 0
unfolding put
put-above l i vs j h = sets-above l i vs j h

-- one put after another, and the first byte by itself
sets-sets : (l : List ℕ) (i : ℕ) (xs ys : List ℕ) → sets (sets l i xs) (i + length xs) ys ≡ sets l i (xs ++ ys)
sets-sets l i [] ys = ap (λ (k : ℕ). sets l k ys) (add-zero i)
sets-sets l i (x ∷ xs) ys =
    ap (λ (k : ℕ). sets (sets (set l i x) (suc i) xs) k ys) (add-suc i (length xs) ∙ sym (suc-add i (length xs)))
    ∙ sets-sets (set l i x) (suc i) xs ys

pub put-cons : (l : List ℕ) (k v : ℕ) (vs : List ℕ) → put l k (v ∷ vs) ≡ put (set l k v) (k + 1) vs
unfolding put
put-cons l k v vs = rw (add-one k) refl

-- where xs fits, ys goes on after it; where it does not, both end at the end
put-case : (l : List ℕ) (i : ℕ) (xs : List ℕ) (j : ℕ) (ys : List ℕ) (fits : Bool) → leb (i + length xs) (length l) ≡ fits → j ≡ i + min (length xs) (length l - i)
    → sets (sets l i xs) j ys ≡ sets l i (xs ++ ys)
put-case l i xs j ys true t e =
    let h = leb-true (i + length xs) (length l) t in
    let f : j ≡ i + length xs = omega arith in
    ap (λ (k : ℕ). sets (sets l i xs) k ys) f ∙ sets-sets l i xs ys
put-case l i xs j ys false t e =
    let h = leb-false (i + length xs) (length l) t in
    let k : length l ≤ j = omega arith in
    let m : length (sets l i xs) ≤ j = rw (length-sets l i xs) k in
    let n : length (sets l i xs) ≤ i + length xs = rw (length-sets l i xs) (omega arith) in
    sets-past (sets l i xs) j ys m ∙ sym (sets-past (sets l i xs) (i + length xs) ys n) ∙ sets-sets l i xs ys

pub put-put : (l : List ℕ) (i : ℕ) (xs : List ℕ) (j : ℕ) (ys : List ℕ) → j ≡ after (length l) i (length xs) → put (put l i xs) j ys ≡ put l i (xs ++ ys)
unfolding put after
put-put l i xs j ys e = put-case l i xs j ys (leb (i + length xs) (length l)) refl e

pub wrote_then : {l m₁ m₂ xs ys : List ℕ} {at r₁ r₂ : ℕ} → Wrote l at xs r₁ m₁ → Wrote m₁ r₁ ys r₂ m₂ → Wrote l at (xs ++ ys) r₂ m₂
wrote_then {l} {m₁} {m₂} {xs} {ys} {at} {r₁} p q =
    let e : length m₁ ≡ length l = ap length p.content ∙ length-put l at xs in
    record {
      place =
          q.place
          ∙ ap (λ (n : ℕ). after n r₁ (length ys)) e
          ∙ ap (λ (k : ℕ). after (length l) k (length ys)) p.place
          ∙ after-after (length l) at (length xs) (length ys)
          ∙ ap (after (length l) at) (sym (length-append xs ys));
      content = q.content ∙ ap (λ (m : List ℕ). put m r₁ ys) p.content ∙ put-put l at xs r₁ ys p.place;
    }

-- nothing, and one byte, by a store or past the end
pub wrote_none : (l : List ℕ) (at : ℕ) → Wrote l at [] at l
wrote_none l at = record { place = sym (after_none (length l) at); content = sym (put-none l at) }

pub wrote-store : (l : List ℕ) (at v : ℕ) → at < length l → Wrote l at (v ∷ []) (at + 1) (set l at v)
wrote-store l at v h = record { place = sym (after-fits (length l) at 1 (omega arith)); content = set-put l at v }

pub wrote-past : (l : List ℕ) (at : ℕ) (vs : List ℕ) → length l ≤ at → Wrote l at vs at l
unfolding after
wrote-past l at vs h = record { place = omega arith; content = sym (put-past l at vs h) }

-- of a text that does not fit, the part that does is written
put_cut : (l : List ℕ) (i : ℕ) (vs : List ℕ) (n : ℕ) (fits : Bool) → leb (length vs) (length l - i) ≡ fits → i ≤ length l → n ≡ min (length vs) (length l - i)
    → put l i (take n vs) ≡ put l i vs
put_cut l i vs n true t h e =
    let k = leb-true (length vs) (length l - i) t in
    ap (put l i) (take_all n vs (omega arith))
put_cut l i vs n false t h e =
    let k = leb-false (length vs) (length l - i) t in
    let f : length (take n vs) ≡ n = length-take-le n vs (omega arith) in
    let j : i + n ≡ after (length l) i (length (take n vs)) = rw f (sym (after-fits (length l) i n (omega arith))) in
    sym (put-past (put l i (take n vs)) (i + n) (drop n vs) (omega (arith, length-put l i (take n vs))))
    ∙ put-put l i (take n vs) (i + n) (drop n vs) j
    ∙ ap (put l i) (take-append-drop n vs)

-- a copy of that part over the bytes where it goes
pub wrote_cut : (l : List ℕ) (at : ℕ) (vs : List ℕ) (n k : ℕ) {ys : List ℕ} → at ≤ length l → n ≡ min (length vs) (length l - at) → k ≡ n → ys ≡ take n vs
    → Wrote l at vs (at + n) (put_mid at k l ys)
unfolding after
wrote_cut l at vs n k {ys} h e f p =
    let w : n ≡ length (take n vs) = sym (length-take-le n vs (omega arith)) in
    let u : put_mid at k l ys ≡ take at l ++ (take n vs ++ drop (at + n) l) = put_mid-paste at k l ys (take n vs) n p (sym f) w ∙ paste_all l at (take n vs) n w in
    let v : put l at (take n vs) ≡ take at l ++ take n vs ++ drop (at + length (take n vs)) l = put_is l at (take n vs) (omega arith) in
    record {
      place = omega arith;
      content = u ∙ sym (rw (← w) at v ∙ append_assoc (take at l) (take n vs) (drop (at + n) l)) ∙ put_cut l at vs n (leb (length vs) (length l - at)) refl h e;
    }

-- a text over the bytes where it goes, where all of it fits
pub wrote_over : (l : List ℕ) (at : ℕ) (vs : List ℕ) (k : ℕ) {r : ℕ} {ys : List ℕ} → at + length vs ≤ length l → k ≡ length vs → ys ≡ vs → r ≡ at + length vs
    → Wrote l at vs r (put_mid at k l ys)
wrote_over l at vs k h f p e =
    let q : length vs ≡ length vs = refl in
    rw e (wrote_cut l at vs (length vs) k (omega arith) (omega arith) f (p ∙ sym (take_all (length vs) vs (omega arith))))

-- the same text, said otherwise
pub put_as : {l vs ws : List ℕ} (l₀ : List ℕ) (i : ℕ) → vs ≡ ws → l ≡ put l₀ i vs → l ≡ put l₀ i ws
put_as l₀ i e p = p ∙ ap (put l₀ i) e

pub put-kept : (l : List ℕ) (i : ℕ) {ws : List ℕ} → [] ≡ ws → l ≡ put l i ws
put-kept l i e = sym (put-none l i) ∙ ap (put l i) e

pub wrote_as : {l m vs : List ℕ} {at r : ℕ} (ws : List ℕ) → vs ≡ ws → Wrote l at vs r m → Wrote l at ws r m
wrote_as {l} {m} {vs} {at} {r} ws e = subst (λ (xs : List ℕ). Wrote l at xs r m) e

-- the same laws of a writer
pub written_then : {w v u : Writer} {xs ys : List ℕ} → Written w xs v → Written v ys u → Written w (xs ++ ys) u
written_then p q = record { lent = q.lent ∙ p.lent; wrote = wrote_then p.wrote q.wrote }

pub written_none : (w : Writer) → Written w [] w
written_none w = record { lent = refl; wrote = wrote_none w.buf.now w.at }

-- what a writer that was made for a buffer left there
pub wrote_by : {l m xs : List ℕ} {at : ℕ} {w v : Writer} → (w.buf.now ≡ l) × (w.at ≡ at) → m ≡ v.buf.now → Written w xs v → Wrote l at xs v.at m
wrote_by {xs} {v} e f p = rw (f, sym e.0, sym e.1) p.wrote

pub written_as : {w v : Writer} {xs : List ℕ} (ys : List ℕ) → xs ≡ ys → Written w xs v → Written w ys v
written_as ys e p = record { lent = p.lent; wrote = wrote_as ys e p.wrote }
