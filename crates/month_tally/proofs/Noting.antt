-- When an AID has a line, and what noting one does: once is enough, and the line of an AID that was noted does not move.
-- By cases on whether it has a line and whether there is room; a list's laws go down the AIDs. `length n.aids ≡ most_lines` is what the type has.
use mathlib.Core.Path.{◌≡◌, refl, ap, sym, ◌∙◌, subst}
use Prim.Native.Nat.{ℕ, ◌+◌, ◌≤◌, ◌<◌}
use native.Mathlib.Numerals.{add-one}
use native.Mathlib.Omega.{arith}
use mathlib.Core.List.{[], ◌∷◌, ◌++◌}
use mathlib.Core.Bool.{Bool, true, false, cond}
use lib.ListN.{length, set, length-take, length-append, length-set}
use lib.Seq.{take-suc-set}
use lib.Dec.{ltb}
use borrow.Author.Tests.{ltb-true, ltb-false, lt-ltb, le-ltb}
use Rattle.card_isdp.specs.declared.Aid.{Aid}
use Rattle.month_tally.specs.Lines.{most_lines, rest_line, seek_aid, aids_in, has_line, line_of, noted}
use Rattle.month_tally.specs.declared.Names.{Names}
use Rattle.month_tally.proofs.Seeking.{seek-last, seek-kept}

-- a line is below the rest's exactly where the AID has one
below-case : (b : Bool) (s : ℕ) → cond b s rest_line < rest_line → b ≡ true
below-case true s h = refl
below-case false s h = absurd (omega arith)

pub has-below : (n : Names) (a : Aid) → line_of n a < rest_line → has_line n a ≡ true
has-below n a h = below-case (has_line n a) (seek_aid a (aids_in n)) h

module _ (n : Names) (f : length n.aids ≡ most_lines) where
  pub lines-most : length (aids_in n) ≤ most_lines
  lines-most =
      let e = length-take n.count n.aids in
      omega arith

  rest-case : (b : Bool) (a : Aid) → has_line n a ≡ b → rest_line ≤ cond b (seek_aid a (aids_in n)) rest_line → b ≡ false
  rest-case true a e h =
      let k = ltb-true (seek_aid a (aids_in n)) (length (aids_in n)) e in
      let m = lines-most in
      absurd (omega arith)
  rest-case false a e h = refl

  pub has-not : (a : Aid) → rest_line ≤ line_of n a → has_line n a ≡ false
  has-not a h = rest-case (has_line n a) a refl h

  line-case : (b : Bool) (a : Aid) → has_line n a ≡ b → cond b (seek_aid a (aids_in n)) rest_line ≤ rest_line
  line-case true a e =
      let k = ltb-true (seek_aid a (aids_in n)) (length (aids_in n)) e in
      let m = lines-most in
      omega arith
  line-case false a e = omega arith

  -- every AID has a line, or that of the rest
  pub line-most : (a : Aid) → line_of n a ≤ rest_line
  line-most a = line-case (has_line n a) a refl

-- the names with one line more, and with one AID more among the rest
abbrev pub with_line : Names → Aid → Names
with_line n a = record { aids = set n.aids n.count a; count = n.count + 1; more = n.more }

abbrev pub with_rest : Names → Names
with_rest n = record { aids = n.aids; count = n.count; more = true }

-- what noting does, of an AID that has a line, of one that gets it, and of one among the rest
module _ (n : Names) (a : Aid) where
  pub noted-had : has_line n a ≡ true → noted n a ≡ n
  noted-had e = rw e

  pub noted-new : has_line n a ≡ false → n.count < most_lines → noted n a ≡ with_line n a
  noted-new e h = rw (e, lt-ltb n.count most_lines h)

  pub noted-rest : has_line n a ≡ false → most_lines ≤ n.count → noted n a ≡ with_rest n
  noted-rest e h = rw (e, le-ltb n.count most_lines h)

-- the three together, for a property of the names after it
pub by-noting : (P : Names → Type 0) (n : Names) (a : Aid) → (has_line n a ≡ true → P n) → (has_line n a ≡ false → n.count < most_lines → P (with_line n a)) → (has_line n a ≡ false → most_lines ≤ n.count → P (with_rest n)) → P (noted n a)
by-noting P n a had new rest = cases (has_line n a) (ltb n.count most_lines) refl refl
  where
    cases : (b d : Bool) → has_line n a ≡ b → ltb n.count most_lines ≡ d → P (noted n a)
    cases true d e k = subst P (sym (noted-had n a e)) (had e)
    cases false true e k =
        let h = ltb-true n.count most_lines k in
        subst P (sym (noted-new n a e h)) (new e h)
    cases false false e k =
        let h = ltb-false n.count most_lines k in
        subst P (sym (noted-rest n a e h)) (rest e h)

-- the names stay within their array
pub noted-full : (n : Names) (a : Aid) → length n.aids ≡ most_lines → length (noted n a).aids ≡ most_lines
noted-full n a f =
    by-noting (λ (m : Names). length m.aids ≡ most_lines) n a
    (λ e. f)
    (λ e h. length-set n.aids n.count a ∙ f)
    (λ e h. f)

module _ (n : Names) (f : length n.aids ≡ most_lines) where
  -- the new line stands after the others
  pub aids-new : (a : Aid) → n.count < most_lines → aids_in (with_line n a) ≡ aids_in n ++ a ∷ []
  aids-new a h = rw add-one (take-suc-set n.aids n.count a (omega arith))

  pub has_new : (a : Aid) → n.count < most_lines → has_line (with_line n a) a ≡ true
  has_new a h =
      let s = seek-last a (aids_in n) in
      let l = length-append (aids_in n) (a ∷ []) in
      rw (aids-new a h) (lt-ltb (seek_aid a (aids_in n ++ a ∷ [])) (length (aids_in n ++ a ∷ [])) (omega arith))

  -- an AID noted twice is noted once
  pub noted-twice : (a : Aid) → noted (noted n a) a ≡ noted n a
  noted-twice a =
      by-noting (λ (m : Names). noted m a ≡ m) n a
      (λ e. noted-had n a e)
      (λ e h. noted-had (with_line n a) a (has_new a h))
      (λ e h. noted-rest (with_rest n) a e h)

  -- one that was noted has a line, or there is no room for it
  noted-room : (a : Aid) → noted n a ≡ n → has_line n a ≡ false → n.count < most_lines → ⊥
  noted-room a e q h =
      let c = ap (λ (m : Names). m.count) (sym (noted-new n a q h) ∙ e) in
      omega arith

  has_kept : (a b : Aid) → has_line n a ≡ true → n.count < most_lines → line_of (with_line n b) a ≡ line_of n a
  has_kept a b e h =
      let k = ltb-true (seek_aid a (aids_in n)) (length (aids_in n)) e in
      let l = length-append (aids_in n) (b ∷ []) in
      rw (aids-new b h, seek-kept a (aids_in n) (b ∷ []) k, e, lt-ltb (seek_aid a (aids_in n)) (length (aids_in n ++ b ∷ [])) (omega arith)) refl

  kept_case : (a b : Aid) (t : Bool) → has_line n a ≡ t → noted n a ≡ n → n.count < most_lines → line_of (with_line n b) a ≡ line_of n a
  kept_case a b true q e h = has_kept a b q h
  kept_case a b false q e h = absurd (noted-room a e q h)

  -- the line of an AID that was noted does not move
  pub line_stays : (a b : Aid) → noted n a ≡ n → line_of (noted n b) a ≡ line_of n a
  line_stays a b e =
      by-noting (λ (m : Names). line_of m a ≡ line_of n a) n b
      (λ q. refl)
      (λ q h. kept_case a b (has_line n a) refl e h)
      (λ q h. refl)
