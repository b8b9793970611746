-- What an entry of the contents says where neither its kind nor its body is wrong, as facts about numbers; and the other way round.
-- Assumes nothing.
use mathlib.Core.Path.{◌≡◌}
use Prim.Native.Nat.{ℕ, ◌≤◌, ◌<◌}
use mathlib.Core.Logic.{◌⊎◌, ⊎_elim, ⊎_map}
use mathlib.Core.List.{List}
use mathlib.Core.Bool.{Bool, true, false, not, ◌||◌, or-true}
use lib.ListN.{length}
use lib.Dec.{leb, ltb}
use borrow.Author.Tests.{ltb-false, leb-true, eqb-false, le-leb, le-ltb, ne_eqb, not-false}
use Rattle.std.proofs.lemmas.Bool.{or_parts, or_cases}
use Rattle.month_contents.specs.Below.{some_below}
use Rattle.month_contents.specs.Contents.{is_known, kind_at, start_at, stop_at, contents_end, same_kind, kind_wrong, apart, overlap, body_wrong}
use Rattle.month_contents.proofs.Below.{some-each, each-some}

-- two bodies that lie apart, as numbers
lies-apart : (start stop begin end : ℕ) → apart start stop begin end ≡ true → (end ≤ start) ⊎ (stop ≤ begin)
lies-apart start stop begin end e = ⊎_map (leb-true end start) (leb-true stop begin) (or_cases (leb end start) (leb stop begin) e)

-- the kind is known, and none before it is the same
module _ (s : List ℕ) (i : ℕ) where
  pub kind-known : kind_wrong s i ≡ false → is_known (kind_at s i) ≡ true
  kind-known e = not-false (is_known (kind_at s i)) (or_parts (not (is_known (kind_at s i))) (some_below i (same_kind s i)) e).0

  pub kind-new : kind_wrong s i ≡ false → (j : ℕ) → j < i → kind_at s j ≡ kind_at s i → ⊥
  kind-new e j h = eqb-false (kind_at s j) (kind_at s i) (some-each (same_kind s i) i (or_parts (not (is_known (kind_at s i))) (some_below i (same_kind s i)) e).1 j h)

  pub kind-right : is_known (kind_at s i) ≡ true → ((j : ℕ) → j < i → kind_at s j ≡ kind_at s i → ⊥) → kind_wrong s i ≡ false
  kind-right k f = rw (k, each-some (same_kind s i) i (λ j h. ne_eqb (kind_at s j) (kind_at s i) (f j h)))

-- the body lies past the contents, inside the file, and apart from those listed before it
module _ (s : List ℕ) (i : ℕ) where
  abbrev late : Bool
  late = ltb (length s) (stop_at s i) || some_below i (overlap s i)

  pub body-after : body_wrong s i ≡ false → contents_end s ≤ start_at s i
  body-after e = ltb-false (start_at s i) (contents_end s) (or_parts (ltb (start_at s i) (contents_end s)) late e).0

  not_late : body_wrong s i ≡ false → late ≡ false
  not_late e = (or_parts (ltb (start_at s i) (contents_end s)) late e).1

  pub body-inside : body_wrong s i ≡ false → stop_at s i ≤ length s
  body-inside e = ltb-false (length s) (stop_at s i) (or_parts (ltb (length s) (stop_at s i)) (some_below i (overlap s i)) (not_late e)).0

  pub body-apart : body_wrong s i ≡ false → (j : ℕ) → j < i → (stop_at s j ≤ start_at s i) ⊎ (stop_at s i ≤ start_at s j)
  body-apart e j h =
      let f = some-each (overlap s i) i (or_parts (ltb (length s) (stop_at s i)) (some_below i (overlap s i)) (not_late e)).1 j h in
      lies-apart (start_at s i) (stop_at s i) (start_at s j) (stop_at s j) (not-false (apart (start_at s i) (stop_at s i) (start_at s j) (stop_at s j)) f)

  pub body-right : contents_end s ≤ start_at s i → stop_at s i ≤ length s → ((j : ℕ) → j < i → (stop_at s j ≤ start_at s i) ⊎ (stop_at s i ≤ start_at s j)) → body_wrong s i ≡ false
  body-right h k f =
      rw (le-ltb (start_at s i) (contents_end s) h, le-ltb (length s) (stop_at s i) k)
      (each-some (overlap s i) i (λ j l. ⊎_elim
      (λ q. rw (le-leb (stop_at s j) (start_at s i) q))
      (λ q. rw (le-leb (stop_at s i) (start_at s j) q, or-true (leb (stop_at s j) (start_at s i))))
      (f j l)))
