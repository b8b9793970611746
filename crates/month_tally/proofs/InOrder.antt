-- The lines are the first 64 different AIDs, in order (specs/Statements). `but ds l` is the list l without what is the same as one of ds: noting the
-- AIDs of a list from names ds on leaves `take 64 (ds ++ but ds (firsts l))`, by induction over the list; from no names on that is the statement.
use mathlib.Core.Path.{◌≡◌, refl, ap, sym, ◌∙◌}
use Prim.Native.Nat.{ℕ, zero, suc, ◌≤◌, ◌<◌, min}
use native.Mathlib.Omega.{arith}
use mathlib.Core.List.{List, [], ◌∷◌, ◌++◌, append-nil, append_assoc}
use mathlib.Core.Bool.{Bool, true, false, cond, ◌||◌, or-true, or-false}
use lib.ListN.{length, take, length-take, length-append}
use lib.Seq.{take-append-le, take_all}
use lib.Dec.{ltb}
use borrow.Author.Tests.{ltb-true, ltb-false, lt-ltb, le-ltb}
use Rattle.base_bytes.specs.Bytes.{same_bytes}
use Rattle.base_bytes.proofs.Alike.{same_true, same_self}
use Rattle.card_isdp.specs.Aids.{bytes_of, padded}
use Rattle.card_isdp.specs.declared.Aid.{Aid}
use Rattle.month_tally.specs.Lines.{most_lines, rest_line, same_aid, seek_aid, aids_in, has_line, no_names}
use Rattle.month_tally.specs.declared.Names.{Names}
use Rattle.month_tally.specs.Statements.{noted_all, others, firsts, lines_after, SameAids, FirstSixtyFour, RestFromSixtyFifth, LineOfEach, LinesInOrder, LinesShown, many_aids}
use Rattle.month_tally.proofs.Noting.{with_line, with_rest, by-noting, noted-full, aids-new, lines-most}

same-aids : SameAids
same-aids a b = (λ e. same_true (bytes_of a) (bytes_of b) e, λ e. rw e (same_self (bytes_of b)))

-- taking away: one that is the same takes away the same, twice is once, and the order does not matter
others-alike : (a d : Aid) (l : List Aid) → same_aid d a ≡ true → others d l ≡ others a l
unfolding others
others-alike a d [] e = refl
others-alike a d (x ∷ xs) e = rw (same_true (bytes_of d) (bytes_of a) e, others-alike a d xs e) refl

again-case : (a x : Aid) (l : List Aid) (b : Bool) → same_aid a x ≡ b → others a (others a l) ≡ others a l → others a (cond b (others a l) (x ∷ others a l)) ≡ cond b (others a l) (x ∷ others a l)
unfolding others
again-case a x l true e h = h
again-case a x l false e h = rw (e, h) refl

others-again : (a : Aid) (l : List Aid) → others a (others a l) ≡ others a l
unfolding others
others-again a [] = refl
others-again a (x ∷ xs) = again-case a x xs (same_aid a x) refl (others-again a xs)

order-case : (a d x : Aid) (l : List Aid) (b c : Bool) → same_aid a x ≡ b → same_aid d x ≡ c → others d (others a l) ≡ others a (others d l) → others d (cond b (others a l) (x ∷ others a l)) ≡ others a (cond c (others d l) (x ∷ others d l))
unfolding others
order-case a d x l true true e f h = h
order-case a d x l true false e f h = rw (e, h) refl
order-case a d x l false true e f h = rw (f, h) refl
order-case a d x l false false e f h = rw (e, f, h) refl

others-order : (a d : Aid) (l : List Aid) → others d (others a l) ≡ others a (others d l)
unfolding others
others-order a d [] = refl
others-order a d (x ∷ xs) = order-case a d x xs (same_aid a x) (same_aid d x) refl refl (others-order a d xs)

unfoldable but : List Aid → List Aid → List Aid
but [] l = l
but (d ∷ ds) l = but ds (others d l)

-- one of ds is taken away, another one stays
had-case : (a d : Aid) (ds l : List Aid) (b : Bool) → same_aid d a ≡ b → cond b 0 (suc (seek_aid a ds)) < suc (length ds) → ((r : List Aid) → seek_aid a ds < length ds → but ds (a ∷ others a r) ≡ but ds r) → but ds (others d (a ∷ others a l)) ≡ but ds (others d l)
unfolding others
had-case a d ds l true e h f = rw (e, others-alike a d (others a l) e, others-again a l, others-alike a d l e) refl
had-case a d ds l false e h f = rw (e, others-order a d l) (f (others d l) (omega arith))

but-had : (a : Aid) (ds l : List Aid) → seek_aid a ds < length ds → but ds (a ∷ others a l) ≡ but ds l
unfolding but seek_aid
but-had a [] l h = absurd (omega arith)
but-had a (d ∷ ds) l h = had-case a d ds l (same_aid d a) refl h (but-had a ds)

new-case : (a d : Aid) (ds l : List Aid) (b : Bool) → same_aid d a ≡ b → suc (length ds) ≤ cond b 0 (suc (seek_aid a ds)) → ((r : List Aid) → length ds ≤ seek_aid a ds → but ds (a ∷ r) ≡ a ∷ but ds r) → but ds (others d (a ∷ l)) ≡ a ∷ but ds (others d l)
unfolding others
new-case a d ds l true e h f = absurd (omega arith)
new-case a d ds l false e h f = rw e (f (others d l) (omega arith))

but-new : (a : Aid) (ds l : List Aid) → length ds ≤ seek_aid a ds → but ds (a ∷ l) ≡ a ∷ but ds l
unfolding but seek_aid
but-new a [] l h = refl
but-new a (d ∷ ds) l h = new-case a d ds l (same_aid d a) refl h (but-new a ds)

but_last : (a : Aid) (ds l : List Aid) → but (ds ++ a ∷ []) l ≡ but ds (others a l)
unfolding but
but_last a [] l = refl
but_last a (d ∷ ds) l = but_last a ds (others d l) ∙ ap (but ds) (sym (others-order a d l))

but-none : (ds : List Aid) → but ds [] ≡ []
unfolding but others
but-none [] = refl
but-none (d ∷ ds) = but-none ds

-- the lines of n, and the different AIDs of a list that come after them
abbrev ahead : Names → List Aid → List Aid
ahead n l = aids_in n ++ but (aids_in n) (firsts l)

-- r has the first 64 of these
record Lined (n : Names) (l : List Aid) (r : Names) : Type 0 where
  aids : aids_in r ≡ take 64 (ahead n l)
  rest : r.more ≡ (n.more || ltb 64 (length (ahead n l)))

module _ (n : Names) (f : length n.aids ≡ most_lines) where
  lined-none : Lined n [] n
  unfolding firsts
  lined-none =
      let e : ahead n [] ≡ aids_in n = rw (but-none (aids_in n)) (append-nil (aids_in n)) in
      let m = lines-most n f in
      let h : length (aids_in n) ≤ 64 = omega arith in
      record { aids = rw (e, take_all 64 (aids_in n) h) refl; rest = rw (e, le-ltb 64 (length (aids_in n)) h) (sym (or-false n.more)) }

  module _ (a : Aid) (l : List Aid) where
    ahead-had : has_line n a ≡ true → ahead n (a ∷ l) ≡ ahead n l
    unfolding firsts
    ahead-had e = rw (but-had a (aids_in n) (firsts l) (ltb-true (seek_aid a (aids_in n)) (length (aids_in n)) e)) refl

    after-new : has_line n a ≡ false → ahead n (a ∷ l) ≡ aids_in n ++ a ∷ but (aids_in n) (others a (firsts l))
    unfolding firsts
    after-new e = rw (but-new a (aids_in n) (others a (firsts l)) (ltb-false (seek_aid a (aids_in n)) (length (aids_in n)) e)) refl

    ahead-new : has_line n a ≡ false → n.count < most_lines → ahead (with_line n a) l ≡ ahead n (a ∷ l)
    ahead-new e h =
        rw (aids-new n f a h, but_last a (aids_in n) (firsts l), after-new e)
        (append_assoc (aids_in n) (a ∷ []) (but (aids_in n) (others a (firsts l))))

    -- the lines are full: nothing more is taken, and there is one more
    rest-lined : (r : Names) → has_line n a ≡ false → most_lines ≤ n.count → Lined (with_rest n) l r → Lined n (a ∷ l) r
    rest-lined r e h p =
        let k = length-take n.count n.aids in
        let s = length-append (aids_in n) (a ∷ but (aids_in n) (others a (firsts l))) in
        let t = take-append-le 64 (aids_in n) (but (aids_in n) (firsts l)) (omega arith) in
        let u = take-append-le 64 (aids_in n) (a ∷ but (aids_in n) (others a (firsts l))) (omega arith) in
        record {
          aids = p.aids ∙ t ∙ sym u ∙ ap (take 64) (sym (after-new e));
          rest = rw (after-new e, lt-ltb 64 (length (aids_in n ++ a ∷ but (aids_in n) (others a (firsts l)))) (omega arith)) (p.rest ∙ sym (or-true n.more));
        }

    moved : (m r : Names) → m.more ≡ n.more → ahead m l ≡ ahead n (a ∷ l) → Lined m l r → Lined n (a ∷ l) r
    moved m r e q p = record { aids = rw (← q) p.aids; rest = rw (← q, ← e) p.rest }

lined : (l : List Aid) (n : Names) → length n.aids ≡ most_lines → Lined n l (noted_all n l)
unfolding noted_all
lined [] n f = lined-none n f
lined (a ∷ l) n f =
    by-noting (λ (m : Names). length m.aids ≡ most_lines → Lined n (a ∷ l) (noted_all m l)) n a
    (λ e g. moved n f a l n (noted_all n l) refl (sym (ahead-had n f a l e)) (lined l n g))
    (λ e h g. moved n f a l (with_line n a) (noted_all (with_line n a) l) refl (ahead-new n f a l e h) (lined l (with_line n a) g))
    (λ e h g. rest-lined n f a l (noted_all (with_rest n) l) e h (lined l (with_rest n) g))
    (noted-full n a f)

all-lined : (enabled : List Aid) → Lined no_names enabled (lines_after enabled)
all-lined enabled = lined enabled no_names refl

first-64 : FirstSixtyFour
unfolding but
first-64 enabled = (all-lined enabled).aids

rest-from-65 : RestFromSixtyFifth
unfolding but
rest-from-65 enabled = (all-lined enabled).rest

-- a search in the first k
take-case : (b : Bool) (n k s : ℕ) → n ≡ min k s → cond b 0 (suc n) ≡ min (suc k) (cond b 0 (suc s))
take-case true n k s e = omega arith
take-case false n k s e = omega arith

seek-take : (a : Aid) (k : ℕ) (l : List Aid) → seek_aid a (take k l) ≡ min k (seek_aid a l)
unfolding seek_aid
seek-take a zero l = omega arith
seek-take a (suc k) [] = omega arith
seek-take a (suc k) (x ∷ xs) = take-case (same_aid x a) (seek_aid a (take k xs)) k (seek_aid a xs) (seek-take a k xs)

min-case : (b : Bool) (s m : ℕ) → ltb (min 64 s) (min 64 m) ≡ b → s < m → cond b (min 64 s) rest_line ≡ min 64 s
min-case true s m e h = refl
min-case false s m e h =
    let k = ltb-false (min 64 s) (min 64 m) e in
    omega arith

line-of-each : LineOfEach
line-of-each enabled a h =
    rw (first-64 enabled, seek-take a 64 (firsts enabled), length-take 64 (firsts enabled))
    (min-case (ltb (min 64 (seek_aid a (firsts enabled))) (min 64 (length (firsts enabled)))) (seek_aid a (firsts enabled)) (length (firsts enabled)) refl h)

pub lines-in-order : LinesInOrder
lines-in-order =
    record { same-aids = same-aids; first-64 = first-64; rest-from-65 = rest-from-65; line-of-each = line-of-each }

pub lines-shown : LinesShown
unfolding noted_all seek_aid same_bytes padded many_aids
lines-shown = record { few = refl; all-have-lines = (refl, refl); one-too-many = (refl, (refl, refl)) }
