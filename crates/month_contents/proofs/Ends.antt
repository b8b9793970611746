-- What the ends of the loops say: the answer of the search for a kind, and of the lengths taken off one by one. Assumes nothing.
use mathlib.Core.Path.{◌≡◌, refl}
use Rattle.std.specs.Prelude.{Option, Some, None}
use Rattle.std.specs.Option.{option_map}
use Prim.Native.Nat.{ℕ, ◌+◌, ◌≤◌, ◌<◌}
use native.Mathlib.Omega.{arith}
use mathlib.Core.List.{List}
use mathlib.Core.Bool.{Bool, true, false, cond, not}
use lib.ListN.{length}
use lib.Dec.{ltb, eqb}
use borrow.Author.Tests.{lt-ltb, eq-eqb, ne_eqb}
use Rattle.base_bytes.specs.declared.Part.{Part}
use Rattle.base_choice.proofs.Branches.{on-eq}
use Rattle.month_contents.specs.Below.{some_below, sum_below}
use Rattle.month_contents.specs.Contents.{sections, start_at, body_length, contents_end, not_filled, of_kind, section_place, section_of}
use Rattle.month_contents.proofs.Below.{found_below, first-hit, sum-next, sum-part}

-- the section where the search for its kind ends
abbrev body_at : List ℕ → ℕ → Part
body_at s i = record { start = start_at s i; len = body_length s i }

at-case : (s : List ℕ) (i : ℕ) (b : Bool) → cond b (Some (body_at s i)) None ≡ option_map (body_at s) (cond b (Some i) None)
at-case s i true = refl
at-case s i false = refl

pub section-at : (s : List ℕ) (kind : ℕ) (r : Option ℕ) → r ≡ found_below (sections s) (of_kind s kind) → section_of s kind ≡ option_map (body_at s) r
unfolding section_of
section-at s kind r e = rw e (at-case s (section_place s kind) (ltb (section_place s kind) (sections s)))

pub section-hit : (s : List ℕ) (kind i : ℕ) → some_below i (of_kind s kind) ≡ false → of_kind s kind i ≡ true → i < sections s → Some (body_at s i) ≡ section_of s kind
unfolding section_of
section-hit s kind i f e h = rw (first-hit (of_kind s kind) i e (sections s) f h, lt-ltb i (sections s) h)

-- the lengths are too many at once
pub filled-past : (s : List ℕ) → length s < contents_end s → true ≡ not_filled s
filled-past s h = rw (ne_eqb (contents_end s + sum_below (sections s) (body_length s)) (length s) (λ w. absurd (omega arith)))

-- the lengths are too many at the next one
pub filled-over : (s : List ℕ) (i left : ℕ) → contents_end s + sum_below i (body_length s) + left ≡ length s → i < sections s → left < body_length s i → true ≡ not_filled s
filled-over s i left e h k =
    let n = sum-next i (body_length s) in
    let p = sum-part (body_length s) (i + 1) (sections s) (omega arith) in
    rw (ne_eqb (contents_end s + sum_below (sections s) (body_length s)) (length s) (λ w. absurd (omega arith)))

-- all are taken off: what is left tells
pub filled-end : (s : List ℕ) (i left : ℕ) → contents_end s + sum_below i (body_length s) + left ≡ length s → i ≤ sections s → sections s ≤ i → not (eqb left 0) ≡ not_filled s
filled-end s i left e h k =
    let q : i ≡ sections s = omega arith in
    let r = rw q at e in
    on-eq left 0
    (λ z. rw (eq-eqb left 0 z, eq-eqb (contents_end s + sum_below (sections s) (body_length s)) (length s) (omega arith)))
    (λ z. rw (ne_eqb left 0 z, ne_eqb (contents_end s + sum_below (sections s) (body_length s)) (length s) (λ w. absurd (z (omega arith)))))
