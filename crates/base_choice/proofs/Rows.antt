-- The rules of rows in order: to pass a row, to stop at one, to rename the answers; and how every table is read. By induction over the rows.
-- Assumes nothing.
use mathlib.Core.Path.{◌≡◌, refl, sym, ap, ◌∙◌}
use mathlib.Core.List.{List, [], ◌∷◌, ◌++◌}
use mathlib.Core.Bool.{Bool, true, false, cond}
use Rattle.base_choice.specs.Rows.{Row, row, first_of, renamed, NoneHolding, FirstHolding, NoneAnswers, ReadInOrder}

module _ {A : Type 0} (otherwise : A) where
  -- a row whose condition does not hold is passed
  pub pass : {condition : Bool} (answer : A) (rs : List (Row A)) → condition ≡ false → first_of otherwise (row condition answer ∷ rs) ≡ first_of otherwise rs
  unfolding first_of
  pass answer rs e = rw e

  -- and the first whose condition holds answers
  pub stop : {condition : Bool} (answer : A) (rs : List (Row A)) → condition ≡ true → first_of otherwise (row condition answer ∷ rs) ≡ answer
  unfolding first_of
  stop answer rs e = rw e

  first_holds : (xs : List (Row A)) (x : Row A) (ys : List (Row A)) → NoneHolding xs → x.when ≡ true → first_of otherwise (xs ++ x ∷ ys) ≡ x.answer
  unfolding first_of
  first_holds [] x ys n h = rw h
  first_holds (r ∷ xs) x ys n h = rw n.0 (first_holds xs x ys n.1 h)

  none : (rs : List (Row A)) → NoneHolding rs → first_of otherwise rs ≡ otherwise
  unfolding first_of
  none [] n = refl
  none (r ∷ rs) n = rw n.0 (none rs n.1)

  first-case : (x : Row A) (xs : List (Row A)) (answer : A) (t : Bool) → x.when ≡ t → cond t x.answer (first_of otherwise xs) ≡ answer
      → (first_of otherwise xs ≡ answer → FirstHolding xs answer) → FirstHolding (x ∷ xs) answer
  first-case x xs answer true h e f = record { before = []; this = x; after = xs; split = refl; none_before = tt; holds = h; is = e }
  first-case x xs answer false h e f =
      let g = f e in
      record {
        before = x ∷ g.before;
        this = g.this;
        after = g.after;
        split = ap (λ (l : List (Row A)). x ∷ l) g.split;
        none_before = (h, g.none_before);
        holds = g.holds;
        is = g.is;
      }

  only-first : (rs : List (Row A)) (answer : A) → (answer ≡ otherwise → ⊥) → first_of otherwise rs ≡ answer → FirstHolding rs answer
  unfolding first_of
  only-first [] answer n e = absurd (n (sym e))
  only-first (x ∷ xs) answer n e = first-case x xs answer x.when refl e (only-first xs answer n)

  none-case : (x : Row A) (xs : List (Row A)) (t : Bool) → x.when ≡ t → cond t x.answer (first_of otherwise xs) ≡ otherwise
      → (x.answer ≡ otherwise → ⊥) → (first_of otherwise xs ≡ otherwise → NoneHolding xs) → NoneHolding (x ∷ xs)
  none-case x xs true h e n f = absurd (n e)
  none-case x xs false h e n f = (h, f e)

  only_none : (rs : List (Row A)) → NoneAnswers otherwise rs → first_of otherwise rs ≡ otherwise → NoneHolding rs
  unfolding first_of
  only_none [] n e = tt
  only_none (x ∷ xs) n e = none-case x xs x.when refl e n.0 (only_none xs n.1)

  pub read-in-order : (rs : List (Row A)) → ReadInOrder otherwise rs
  read-in-order rs =
      record {
        first = λ answer f. ap (first_of otherwise) f.split ∙ first_holds f.before f.this f.after f.none_before f.holds ∙ f.is;
        only-first = only-first rs;
        none = none rs;
        only_none = only_none rs;
      }

-- renamed rows answer the name of the answer
named-case : {A B : Type 0} (f : A → B) (t : Bool) (x y : A) → cond t (f x) (f y) ≡ f (cond t x y)
named-case f true x y = refl
named-case f false x y = refl

pub rename : {A B : Type 0} (f : A → B) (otherwise : A) (rs : List (Row A)) → first_of (f otherwise) (renamed f rs) ≡ f (first_of otherwise rs)
unfolding first_of
rename f otherwise [] = refl
rename f otherwise (r ∷ rs) = ap (cond r.when (f r.answer)) (rename f otherwise rs) ∙ named-case f r.when r.answer (first_of otherwise rs)
