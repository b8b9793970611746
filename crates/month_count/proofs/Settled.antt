-- The lines while AIDs are noted, up to the end of a month: an AID that was noted has its line or all 64 are taken, so its line never moves;
-- and no two lines bear the same AID, so a line is that of the AIDs that are the same. By the three ends of `noted`. Assumes nothing.
use mathlib.Core.Path.{◌≡◌, refl, ap, sym, subst, ◌∙◌}
use Prim.Native.Nat.{ℕ, suc, ◌≤◌, ◌<◌}
use native.Mathlib.Omega.{arith}
use mathlib.Core.List.{List, [], ◌∷◌, ◌++◌, append-nil, append_assoc}
use mathlib.Core.Bool.{Bool, true, false, not, cond, ◌||◌, false≢true}
use lib.ListN.{length, get_or, length-set, length-append, length-replicate, length-take, get_or-append}
use lib.Seq.{get_or-append_seam}
use lib.Dec.{ltb, eqb}
use borrow.Author.Tests.{ltb-true, ltb-false, lt-ltb, le-ltb, eq-eqb, ne_eqb}
use Rattle.base_bytes.proofs.Alike.{same_true}
use Rattle.card_isdp.specs.Aids.{no_aid, bytes_of}
use Rattle.card_isdp.specs.declared.Aid.{Aid}
use Rattle.month_tally.specs.Lines.{most_lines, rest_line, same_aid, seek_aid, aids_in, has_line, line_of, no_names, noted}
use Rattle.month_tally.specs.declared.Names.{Names}
use Rattle.month_tally.proofs.Seeking.{seek-kept, seek-last}
use Rattle.month_tally.proofs.Noting.{lines-most, with_line, by-noting, aids-new}
use Rattle.month_count.specs.Statements.{is_among_aids}

-- one that is not found is found where it is put, behind the others
added-case : (t : Bool) (n m l : ℕ) → suc l ≤ cond t 0 (suc n) → (l ≤ n → l ≤ m) → suc l ≤ cond t 0 (suc m)
added-case true n m l h f = absurd (omega arith)
added-case false n m l h f = let k = f (omega arith) in omega arith

seek-behind : (a : Aid) (l r : List Aid) → length l ≤ seek_aid a l → length l ≤ seek_aid a (l ++ r)
unfolding seek_aid
seek-behind a [] r h = omega arith
seek-behind a (x ∷ xs) r h = added-case (same_aid x a) (seek_aid a xs) (seek_aid a (xs ++ r)) (length xs) h (seek-behind a xs r)

-- what is found is the same
found-case : (t : Bool) (x a : Aid) (xs : List Aid) (n : ℕ) → same_aid x a ≡ t → cond t 0 (suc n) < suc (length xs) → (n < length xs → same_aid (get_or xs n no_aid) a ≡ true) → same_aid (get_or (x ∷ xs) (cond t 0 (suc n)) no_aid) a ≡ true
found-case true x a xs n e h f = e
found-case false x a xs n e h f = f (omega arith)

seek_found : (a : Aid) (l : List Aid) → seek_aid a l < length l → same_aid (get_or l (seek_aid a l) no_aid) a ≡ true
unfolding seek_aid
seek_found a [] h = absurd (omega arith)
seek_found a (x ∷ xs) h = found-case (same_aid x a) x a xs (seek_aid a xs) refl h (seek_found a xs)

-- the same AID is found at the same place
seek-same : (a b : Aid) (l : List Aid) → bytes_of a ≡ bytes_of b → seek_aid a l ≡ seek_aid b l
unfolding seek_aid
seek-same a b [] e = refl
seek-same a b (x ∷ xs) e = rw (e, seek-same a b xs e)

among-case : (t : Bool) (n m : ℕ) (b : Bool) → ltb n m ≡ b → ltb (cond t 0 (suc n)) (suc m) ≡ (t || b)
among-case true n m b e = lt-ltb 0 (suc m) (omega arith)
among-case false n m true e = let h = ltb-true n m e in lt-ltb (suc n) (suc m) (omega arith)
among-case false n m false e = let h = ltb-false n m e in le-ltb (suc n) (suc m) (omega arith)

seek-among : (a : Aid) (l : List Aid) → ltb (seek_aid a l) (length l) ≡ is_among_aids a l
unfolding seek_aid is_among_aids
seek-among a [] = refl
seek-among a (x ∷ xs) = among-case (same_aid x a) (seek_aid a xs) (length xs) (is_among_aids a xs) (seek-among a xs)

-- as many AIDs as there are lines, and each line is found at its own place
abbrev Own : List Aid → Type 0
Own xs = (i : ℕ) → i < length xs → seek_aid (get_or xs i no_aid) xs ≡ i

pub record Fit (n : Names) : Type 0 where
  pub size : length n.aids ≡ most_lines
  pub own : Own (aids_in n)

-- the AID has its line, or shares that of the rest because no line is left
pub data Settled (n : Names) (a : Aid) : Type 0 where
  on_line : seek_aid a (aids_in n) < length (aids_in n) → Settled n a
  in_rest : length (aids_in n) ≤ seek_aid a (aids_in n) → most_lines ≤ length (aids_in n) → n.more ≡ true → Settled n a

-- the lines later on: behind the lines that there are, and none where all are taken
pub record Later (n m : Names) : Type 0 where
  pub new : List Aid
  pub grown : aids_in m ≡ aids_in n ++ new
  pub taken : most_lines ≤ length (aids_in n) → aids_in m ≡ aids_in n

pub later-self : (n : Names) → Later n n
later-self n = record { new = []; grown = sym (append-nil (aids_in n)); taken = λ h. refl }

pub later-then : {n m l : Names} → Later n m → Later m l → Later n l
later-then {n} {m} {l} p q =
    record {
      new = p.new ++ q.new;
      grown = q.grown ∙ ap (λ (xs : List Aid). xs ++ q.new) p.grown ∙ append_assoc (aids_in n) p.new q.new;
      taken = λ h. q.taken (subst (λ (xs : List Aid). most_lines ≤ length xs) (sym (p.taken h)) h) ∙ p.taken h;
    }

-- the line of an AID, by whether it is found
abbrev line_in : List Aid → Aid → ℕ
line_in xs a = cond (ltb (seek_aid a xs) (length xs)) (seek_aid a xs) rest_line

pub line-found : (xs : List Aid) (a : Aid) → seek_aid a xs < length xs → line_in xs a ≡ seek_aid a xs
line-found xs a h = rw (lt-ltb (seek_aid a xs) (length xs) h)

pub line-rest : (xs : List Aid) (a : Aid) → length xs ≤ seek_aid a xs → line_in xs a ≡ rest_line
line-rest xs a h = rw (le-ltb (seek_aid a xs) (length xs) h)

-- the line of an AID that was noted never moves
pub line_stays : (n m : Names) (a : Aid) → Later n m → Settled n a → line_of m a ≡ line_of n a
line_stays n m a p (on_line h) =
    let e = seek-kept a (aids_in n) p.new h in
    let f = length-append (aids_in n) p.new in
    ap (λ (xs : List Aid). line_in xs a) p.grown ∙ line-found (aids_in n ++ p.new) a (omega arith) ∙ e ∙ sym (line-found (aids_in n) a h)
line_stays n m a p (in_rest h k e) = ap (λ (xs : List Aid). line_in xs a) (p.taken k)

pub none-fit : Fit no_names
none-fit = record { size = length-replicate most_lines no_aid; own = λ i h. absurd (omega arith) }

-- what holds of the names m once an AID is noted in n
pub record After (n : Names) (a : Aid) (m : Names) : Type 0 where
  pub fits : Fit m
  pub settled : Settled m a
  pub later : Later n m

module _ (n : Names) (a : Aid) (fit : Fit n) where
  -- with a line more
  module _ (miss : has_line n a ≡ false) (room : n.count < most_lines) where
    unfound : length (aids_in n) ≤ seek_aid a (aids_in n)
    unfound = ltb-false (seek_aid a (aids_in n)) (length (aids_in n)) miss

    new-place : seek_aid a (aids_in n ++ a ∷ []) ≡ length (aids_in n)
    new-place = omega (arith, seek-last a (aids_in n), seek-behind a (aids_in n) (a ∷ []) unfound)

    own-case : (i : ℕ) (b : Bool) → ltb i (length (aids_in n)) ≡ b → i < length (aids_in n ++ a ∷ []) → seek_aid (get_or (aids_in n ++ a ∷ []) i no_aid) (aids_in n ++ a ∷ []) ≡ i
    own-case i true e h =
        let k = ltb-true i (length (aids_in n)) e in
        let o = fit.own i k in
        ap (λ (x : Aid). seek_aid x (aids_in n ++ a ∷ [])) (get_or-append (aids_in n) (a ∷ []) no_aid i k) ∙ seek-kept (get_or (aids_in n) i no_aid) (aids_in n) (a ∷ []) (omega arith) ∙ o
    own-case i false e h =
        let k = ltb-false i (length (aids_in n)) e in
        let l = length-append (aids_in n) (a ∷ []) in
        let last : i ≡ length (aids_in n) = omega arith in
        rw last (rw (get_or-append_seam (aids_in n) a [] no_aid) new-place)

    new_line : After n a (with_line n a)
    new_line =
        let lines = aids-new n fit.size a room in
        record {
          fits = record {
            size = length-set n.aids n.count a ∙ fit.size;
            own = subst Own (sym lines) (λ i h. own-case i (ltb i (length (aids_in n))) refl h);
          };
          settled = on_line (subst (λ (l : List Aid). seek_aid a l < length l) (sym lines) (omega (arith, new-place, length-append (aids_in n) (a ∷ []))));
          later = record { new = a ∷ []; grown = lines; taken = λ h. absurd (omega (arith, length-take n.count n.aids)) };
        }

  pub after : After n a (noted n a)
  after =
      by-noting (After n a) n a
      (λ e. record { fits = fit; settled = on_line (ltb-true (seek_aid a (aids_in n)) (length (aids_in n)) e); later = later-self n })
      new_line
      (λ e h. record {
        fits = record { size = fit.size; own = fit.own };
        settled = in_rest (ltb-false (seek_aid a (aids_in n)) (length (aids_in n)) e) (omega (arith, length-take n.count n.aids, fit.size)) refl;
        later = record { new = []; grown = sym (append-nil (aids_in n)); taken = λ k. refl };
      })

-- which AIDs are on a line, and which are on none
line-is-case : (xs : List Aid) (i : ℕ) (a : Aid) (t b : Bool) → Own xs → length xs ≤ most_lines → i < length xs
    → same_aid (get_or xs i no_aid) a ≡ t → ltb (seek_aid a xs) (length xs) ≡ b → eqb (line_in xs a) i ≡ t
line-is-case xs i a true b own m h e f =
    let same = seek-same a (get_or xs i no_aid) xs (sym (same_true _ _ e)) ∙ own i h in
    eq-eqb (line_in xs a) i (line-found xs a (omega arith) ∙ same)
line-is-case xs i a false true own m h e f =
    let k = ltb-true (seek_aid a xs) (length xs) f in
    ne_eqb (line_in xs a) i (λ q. false≢true (sym e ∙ subst (λ (j : ℕ). same_aid (get_or xs j no_aid) a ≡ true) (sym (line-found xs a k) ∙ q) (seek_found a xs k)))
line-is-case xs i a false false own m h e f =
    let k = line-rest xs a (ltb-false (seek_aid a xs) (length xs) f) in
    ne_eqb (line_in xs a) i (λ q. absurd (omega arith))

pub line-is : (n : Names) (i : ℕ) (a : Aid) → Fit n → i < length (aids_in n) → eqb (line_of n a) i ≡ same_aid (get_or (aids_in n) i no_aid) a
line-is n i a fit h =
    line-is-case (aids_in n) i a (same_aid (get_or (aids_in n) i no_aid) a) (has_line n a) fit.own (lines-most n fit.size) h refl refl

rest-is-case : (xs : List Aid) (a : Aid) (b : Bool) → length xs ≤ most_lines → ltb (seek_aid a xs) (length xs) ≡ b
    → eqb (cond b (seek_aid a xs) rest_line) rest_line ≡ not b
rest-is-case xs a true m e = let k = ltb-true (seek_aid a xs) (length xs) e in ne_eqb (seek_aid a xs) rest_line (λ q. absurd (omega arith))
rest-is-case xs a false m e = refl

pub rest-is : (n : Names) (a : Aid) → Fit n → eqb (line_of n a) rest_line ≡ not (is_among_aids a (aids_in n))
rest-is n a fit = rest-is-case (aids_in n) a (has_line n a) (lines-most n fit.size) refl ∙ ap not (seek-among a (aids_in n))
