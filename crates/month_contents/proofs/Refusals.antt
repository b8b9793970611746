-- `contents_wrong` test by test: the three that ask how long the file is, and what is left to ask where it passes them; and all of them
-- passed, as facts about numbers. Assumes nothing.
use mathlib.Core.Path.{◌≡◌, ◌∙◌}
use Prim.Native.Nat.{ℕ, ◌+◌, ◌≤◌, ◌<◌}
use mathlib.Core.List.{List}
use mathlib.Core.Bool.{true, false, ◌||◌}
use lib.ListN.{length}
use lib.Dec.{ltb}
use borrow.Author.Tests.{lt-ltb, le-ltb, ltb-false, eqb-true, eq-eqb, not-false}
use Rattle.std.proofs.lemmas.Bool.{or_parts}
use Rattle.month_contents.specs.Below.{some_below, sum_below}
use Rattle.month_contents.specs.Contents.{most_file, sections, body_length, contents_end, kind_wrong, body_wrong, not_filled, contents_wrong}
use Rattle.month_contents.proofs.Below.{some-each, each-some}

module _ (s : List ℕ) where
  pub too_long : most_file < length s → true ≡ contents_wrong s
  unfolding contents_wrong
  too_long h = rw (lt-ltb most_file (length s) h)

  module _ (h : length s ≤ most_file) where
    pub too_short : length s < 4 → true ≡ contents_wrong s
    unfolding contents_wrong
    too_short k = rw (le-ltb most_file (length s) h, lt-ltb (length s) 4 k)

    module _ (k : 4 ≤ length s) where
      pub fits_not : length s < contents_end s → true ≡ contents_wrong s
      unfolding contents_wrong
      fits_not l = rw (le-ltb most_file (length s) h, le-ltb (length s) 4 k, lt-ltb (length s) (contents_end s) l)

      pub fits : contents_end s ≤ length s → contents_wrong s ≡ (some_below (sections s) (kind_wrong s) || (some_below (sections s) (body_wrong s) || not_filled s))
      unfolding contents_wrong
      fits l = rw (le-ltb most_file (length s) h, le-ltb (length s) 4 k, le-ltb (length s) (contents_end s) l)

-- every test is passed
pub record Passed (s : List ℕ) : Type 0 where
  pub most : length s ≤ most_file
  pub least : 4 ≤ length s
  pub held : contents_end s ≤ length s
  pub kinds : (i : ℕ) → i < sections s → kind_wrong s i ≡ false
  pub bodies : (i : ℕ) → i < sections s → body_wrong s i ≡ false
  pub full : contents_end s + sum_below (sections s) (body_length s) ≡ length s

pub passed : (s : List ℕ) → contents_wrong s ≡ false → Passed s
unfolding contents_wrong
passed s e₁ =
    let bodies = some_below (sections s) (body_wrong s) in
    let after-3 = some_below (sections s) (kind_wrong s) || (bodies || not_filled s) in
    let after-2 = ltb (length s) (contents_end s) || after-3 in
    let e₂ = (or_parts (ltb most_file (length s)) (ltb (length s) 4 || after-2) e₁).1 in
    let e₃ = (or_parts (ltb (length s) 4) after-2 e₂).1 in
    let e₄ = (or_parts (ltb (length s) (contents_end s)) after-3 e₃).1 in
    let e₅ = (or_parts (some_below (sections s) (kind_wrong s)) (bodies || not_filled s) e₄).1 in
    record {
      most = ltb-false most_file (length s) (or_parts (ltb most_file (length s)) (ltb (length s) 4 || after-2) e₁).0;
      least = ltb-false (length s) 4 (or_parts (ltb (length s) 4) after-2 e₂).0;
      held = ltb-false (length s) (contents_end s) (or_parts (ltb (length s) (contents_end s)) after-3 e₃).0;
      kinds = some-each (kind_wrong s) (sections s) (or_parts (some_below (sections s) (kind_wrong s)) (bodies || not_filled s) e₄).0;
      bodies = some-each (body_wrong s) (sections s) (or_parts bodies (not_filled s) e₅).0;
      full = eqb-true _ _ (not-false _ (or_parts bodies (not_filled s) e₅).1);
    }

pub not-wrong : (s : List ℕ) → Passed s → contents_wrong s ≡ false
not-wrong s p =
    fits s p.most p.least p.held
    ∙ rw (each-some (kind_wrong s) (sections s) p.kinds, each-some (body_wrong s) (sections s) p.bodies, eq-eqb _ _ p.full)
