-- Laws of lines: a text with LF is its first line and the lines of the rest (`lines_cut`); one without is one line (`lines-last`);
-- and what the search for LF gives where a text is followed by another. By induction over the text.
use Prim.Native.Nat.{ℕ, suc, ◌+◌, ◌≤◌, ◌<◌}
use mathlib.Core.Path.{◌≡◌, refl, sym, ap, ◌∙◌}
use mathlib.Core.List.{List, [], ◌∷◌, ◌++◌, append-nil, append_assoc}
use native.Mathlib.Omega.{arith}
use native.Mathlib.Nat.{zero-add}
use lib.ListN.{length, take, drop, length-append, drop_of_length-le}
use lib.Seq.{take-append-le, take-append-add, drop-append-le, drop-append-add}
use Rattle.text_words.specs.Words.{before}
use Rattle.text_words.proofs.WordLists.{before-found, before-other, before-le}
use Rattle.base_choice.proofs.Branches.{on-eq, on-lt, eq!, ne!, lt! }
use Rattle.text_lines.specs.Lines.{Line, TooLong, line_read, last_of, lines_on, lines_of}

module _ (b : ℕ) where
  -- what follows does not matter where b was found; where not, the search goes on in it
  pub before-in : (t f : List ℕ) → before b t < length t → before b (t ++ f) ≡ before b t
  before-in [] f h = absurd (omega arith)
  before-in (c ∷ cs) f h =
      on-eq c b
      (λ e. before-found b c (cs ++ f) e ∙ sym (before-found b c cs e))
      (λ e. let m = before-other b c cs e in before-other b c (cs ++ f) e ∙ ap suc (before-in cs f (omega arith)) ∙ sym m)

  pub before_on : (t f : List ℕ) → before b t ≡ length t → before b (t ++ f) ≡ length t + before b f
  before_on [] f h = sym (zero-add (before b f))
  before_on (c ∷ cs) f h =
      on-eq c b
      (λ e. let m = before-found b c cs e in absurd (omega arith))
      (λ e. let m = before-other b c cs e in let k = before_on cs f (omega arith) in before-other b c (cs ++ f) e ∙ omega arith)

-- a text with LF: its first line, and the lines after it
lines-on-cut : (line t : List ℕ) → before 10 t < length t → lines_on line t ≡ line_read (line ++ take (before 10 t) t) ∷ lines_of (drop (suc (before 10 t)) t)
unfolding lines_on lines_of
lines-on-cut line [] h = absurd (omega arith)
lines-on-cut line (c ∷ cs) h =
    on-eq c 10
    (λ e. sym (eq! _ e (rw (before-found 10 c cs e, append-nil line) refl)))
    (λ e. sym (ne! _ e (let m = before-other 10 c cs e in rw (m, ← append_assoc line (c ∷ []) (take (before 10 cs) cs)) (sym (lines-on-cut (line ++ (c ∷ [])) cs (omega arith))))))

pub lines_cut : (t : List ℕ) → before 10 t < length t → lines_of t ≡ line_read (take (before 10 t) t) ∷ lines_of (drop (suc (before 10 t)) t)
unfolding lines_of
lines_cut t h = lines-on-cut [] t h

-- a text without LF: one line, if any
lines-on-last : (line t : List ℕ) → before 10 t ≡ length t → lines_on line t ≡ last_of (line ++ t)
unfolding lines_on
lines-on-last line [] h = ap last_of (sym (append-nil line))
lines-on-last line (c ∷ cs) h =
    on-eq c 10
    (λ e. let m = before-found 10 c cs e in absurd (omega arith))
    (λ e. sym (ne! _ e (let m = before-other 10 c cs e in sym (lines-on-last (line ++ (c ∷ [])) cs (omega arith) ∙ ap last_of (append_assoc line (c ∷ []) cs)))))

pub lines-last : (t : List ℕ) → before 10 t ≡ length t → lines_of t ≡ last_of t
unfolding lines_of
lines-last t h = lines-on-last [] t h

pub last_some : (t : List ℕ) → 0 < length t → last_of t ≡ line_read t ∷ []
unfolding last_of
last_some [] h = absurd (omega arith)
last_some (c ∷ cs) h = refl

pub line-long : (t : List ℕ) → 4096 < length t → line_read t ≡ TooLong
unfolding line_read
line-long t h = sym (lt! _ h refl)

-- where LF was found in t, what follows t comes after the rest of it
pub lines-in : (t f : List ℕ) → before 10 t < length t → lines_of (t ++ f) ≡ line_read (take (before 10 t) t) ∷ lines_of (drop (suc (before 10 t)) t ++ f)
lines-in t f h =
    let n : ℕ = before 10 t in
    let b : before 10 (t ++ f) ≡ n = before-in 10 t f h in
    let k : before 10 (t ++ f) < length (t ++ f) = omega (arith, length-append t f) in
    let p : n ≤ length t = omega arith in
    let q : suc n ≤ length t = omega arith in
    lines_cut (t ++ f) k
    ∙ ap (λ (m : ℕ). line_read (take m (t ++ f)) ∷ lines_of (drop (suc m) (t ++ f))) b
    ∙ ap (λ (x : List ℕ). line_read x ∷ lines_of (drop (suc n) (t ++ f))) (take-append-le n t f p)
    ∙ ap (λ (x : List ℕ). line_read (take n t) ∷ lines_of x) (drop-append-le (suc n) t f q)

-- where t has more than 4,096 bytes and no LF, a line that is too long, and the lines after its end
pub lines_none : lines_of [] ≡ []
unfolding lines_of lines_on last_of
lines_none = refl

over-cut : (t f : List ℕ) → before 10 t ≡ length t → 4096 < length t → before 10 f < length f → lines_of (t ++ f) ≡ TooLong ∷ lines_of (drop (suc (before 10 f)) f)
over-cut t f h k j =
    let m : ℕ = before 10 f in
    let n : ℕ = length t + m in
    let b : before 10 (t ++ f) ≡ n = before_on 10 t f h in
    let a : before 10 (t ++ f) < length (t ++ f) = omega (arith, length-append t f) in
    let e : suc n ≡ length t + suc m = omega arith in
    let l : 4096 < length (t ++ take m f) = omega (arith, length-append t (take m f)) in
    lines_cut (t ++ f) a
    ∙ ap (λ (i : ℕ). line_read (take i (t ++ f)) ∷ lines_of (drop (suc i) (t ++ f))) b
    ∙ ap (λ (x : List ℕ). line_read x ∷ lines_of (drop (suc n) (t ++ f))) (take-append-add t f m)
    ∙ ap (λ (i : ℕ). line_read (t ++ take m f) ∷ lines_of (drop i (t ++ f))) e
    ∙ ap (λ (x : List ℕ). line_read (t ++ take m f) ∷ lines_of x) (drop-append-add t f (suc m))
    ∙ ap (λ (x : Line). x ∷ lines_of (drop (suc m) f)) (line-long (t ++ take m f) l)

over_last : (t f : List ℕ) → before 10 t ≡ length t → 4096 < length t → length f ≤ before 10 f → lines_of (t ++ f) ≡ TooLong ∷ lines_of (drop (suc (before 10 f)) f)
over_last t f h k j =
    let g = before-le 10 f in
    let n = length-append t f in
    let e : length f ≤ suc (before 10 f) = omega arith in
    let b : before 10 (t ++ f) ≡ length (t ++ f) = omega (arith, before_on 10 t f h) in
    lines-last (t ++ f) b
    ∙ last_some (t ++ f) (omega arith)
    ∙ ap (λ (x : Line). x ∷ []) (line-long (t ++ f) (omega arith))
    ∙ ap (λ (x : List Line). TooLong ∷ x) (sym lines_none ∙ ap lines_of (sym (drop_of_length-le f e)))

pub lines-over : (t f : List ℕ) → before 10 t ≡ length t → 4096 < length t → lines_of (t ++ f) ≡ TooLong ∷ lines_of (drop (suc (before 10 f)) f)
lines-over t f h k = on-lt (before 10 f) (length f) (over-cut t f h k) (over_last t f h k)

-- the end of a line that is passed over: not in t, or in t
pub past-on : (t f : List ℕ) → before 10 t ≡ length t → lines_of (drop (suc (before 10 (t ++ f))) (t ++ f)) ≡ lines_of (drop (suc (before 10 f)) f)
past-on t f h =
    let e : suc (before 10 (t ++ f)) ≡ length t + suc (before 10 f) = omega (arith, before_on 10 t f h) in
    ap (λ (i : ℕ). lines_of (drop i (t ++ f))) e ∙ ap lines_of (drop-append-add t f (suc (before 10 f)))

pub past-in : (t f : List ℕ) → before 10 t < length t → lines_of (drop (suc (before 10 (t ++ f))) (t ++ f)) ≡ lines_of (drop (suc (before 10 t)) t ++ f)
past-in t f h =
    let p : suc (before 10 t) ≤ length t = omega arith in
    ap (λ (i : ℕ). lines_of (drop (suc i) (t ++ f))) (before-in 10 t f h) ∙ ap lines_of (drop-append-le (suc (before 10 t)) t f p)
