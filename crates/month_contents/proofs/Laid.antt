-- The bodies lie end to end exactly where the contents are not wrong. Bodies that lie inside and apart hold each place at most once;
-- the places that they hold are as many as their lengths add up to; so the lengths fill the file exactly where each place is held once.
-- Assumes nothing.
use mathlib.Core.Path.{◌≡◌, sym, ap, ◌∙◌}
use Prim.Native.Nat.{ℕ, ◌+◌, ◌-◌, ◌≤◌, ◌<◌}
use native.Mathlib.Omega.{arith}
use mathlib.Core.Logic.{◌⊎◌, inl, inr, ⊎_elim}
use mathlib.Core.List.{List}
use mathlib.Core.Bool.{true, false, cond, ◌&&◌}
use lib.ListN.{length}
use lib.Dec.{leb, ltb}
use borrow.Author.Tests.{ltb-true, leb-true, le-leb, lt-leb, lt-ltb}
use Rattle.std.proofs.lemmas.Bool.{and_parts}
use Rattle.base_choice.proofs.Branches.{on-lt}
use Rattle.month_contents.specs.Below.{sum_below, count_below}
use Rattle.month_contents.specs.Contents.{sections, kind_at, start_at, body_length, stop_at, contents_end}
use Rattle.month_contents.specs.Statements.{holds, Laid, EndToEnd, NothingElseWrong}
use Rattle.month_contents.proofs.Below.{sum_same, sum-swap, sum-tight, count_none, count-once, count-two, count-range}
use Rattle.month_contents.proofs.Refusals.{Passed, passed, not-wrong}
use Rattle.month_contents.proofs.Entries.{kind-known, kind-new, kind-right, body-after, body-inside, body-apart, body-right}

-- `holds` as numbers
module _ (s : List ℕ) (p i : ℕ) where
  held : start_at s i ≤ p → p < stop_at s i → holds s p i ≡ true
  held h k = rw (le-leb (start_at s i) p h, lt-ltb p (stop_at s i) k)

  held-from : holds s p i ≡ true → start_at s i ≤ p
  held-from e = leb-true (start_at s i) p (and_parts (leb (start_at s i) p) (ltb p (stop_at s i)) e).0

  held_to : holds s p i ≡ true → p < stop_at s i
  held_to e = ltb-true p (stop_at s i) (and_parts (leb (start_at s i) p) (ltb p (stop_at s i)) e).1

  not-held : p < start_at s i → holds s p i ≡ false
  not-held h = rw (lt-leb (start_at s i) p h)

-- the places that the bodies hold are as many as their lengths add up to
module _ (s : List ℕ) (inside : (i : ℕ) → i < sections s → stop_at s i ≤ length s) where
  one-body : (i : ℕ) → i < sections s → sum_below (length s) (λ p. cond (holds s p i) 1 0) ≡ body_length s i
  one-body i h = let e = count-range (start_at s i) (stop_at s i) (length s) (omega arith) in omega (arith, inside i h)

  places-held : sum_below (length s) (λ p. count_below (sections s) (holds s p)) ≡ sum_below (sections s) (body_length s)
  places-held =
      sum-swap (λ p i. cond (holds s p i) 1 0) (length s) (sections s)
      ∙ sum_same (λ i. sum_below (length s) (λ p. cond (holds s p i) 1 0)) (body_length s) (sections s) one-body

-- one for each place of the file past the contents
abbrev past : List ℕ → ℕ → ℕ
past s p = cond (leb (contents_end s) p && ltb p (length s)) 1 0

past_all : (s : List ℕ) → contents_end s ≤ length s → sum_below (length s) (past s) ≡ length s - contents_end s
past_all s h = let e = count-range (contents_end s) (length s) (length s) h in omega arith

-- contents that are not wrong
module _ (s : List ℕ) (p : Passed s) where
  abbrev inside : (i : ℕ) → i < sections s → stop_at s i ≤ length s
  inside i h = body-inside s i (p.bodies i h)

  -- no place lies in two bodies, and none before the end of the contents in any
  held-once : (q : ℕ) → count_below (sections s) (holds s q) ≤ 1
  held-once q =
      count-once (holds s q) (sections s) (λ i j h k a b.
      let i-from = held-from s q i a in
      let i-to = held_to s q i a in
      let j-from = held-from s q j b in
      let j-to = held_to s q j b in
      ⊎_elim (λ l. absurd (omega arith)) (λ l. absurd (omega arith)) (body-apart s j (p.bodies j k) i h))

  held-past : (q : ℕ) → q < length s → count_below (sections s) (holds s q) ≤ past s q
  held-past q h =
      on-lt q (contents_end s)
      (λ k. let z = count_none (holds s q) (sections s) (λ i l. not-held s q i (omega (arith, body-after s i (p.bodies i l)))) in omega arith)
      (λ k. rw (le-leb (contents_end s) q k, lt-ltb q (length s) h) (held-once q))

  held-each : (q : ℕ) → contents_end s ≤ q → q < length s → count_below (sections s) (holds s q) ≡ 1
  held-each q h k =
      let all = places-held s inside in
      let e = past_all s p.held in
      let t = sum-tight (λ r. count_below (sections s) (holds s r)) (past s) (length s) held-past (omega (arith, p.full)) q k in
      t ∙ rw (le-leb (contents_end s) q h, lt-ltb q (length s) k)

  kinds-once : (i j : ℕ) → i < sections s → j < sections s → kind_at s i ≡ kind_at s j → i ≡ j
  kinds-once i j h k e =
      on-lt i j
      (λ l. absurd (kind-new s j (p.kinds j k) i l e))
      (λ l. on-lt j i (λ m. absurd (kind-new s i (p.kinds i h) j m (sym e))) (λ m. omega arith))

  begin-in-turn : (i j : ℕ) → i < sections s → j < sections s → start_at s i < start_at s j → stop_at s i ≤ start_at s j
  begin-in-turn i j h k l =
      on-lt i j
      (λ m. ⊎_elim (λ q. q) (λ q. absurd (omega arith)) (body-apart s j (p.bodies j k) i m))
      (λ m. on-lt j i
      (λ n. ⊎_elim (λ q. absurd (omega arith)) (λ q. q) (body-apart s i (p.bodies i h) j n))
      (λ n. let e : i ≡ j = omega arith in absurd (omega (arith, ap (start_at s) e))))

pub end_to_end : EndToEnd
end_to_end s e =
    let p = passed s e in
    record {
      least = p.least;
      most = p.most;
      fits = p.held;
      known = λ i h. kind-known s i (p.kinds i h);
      once = kinds-once s p;
      after-contents = λ i h. body-after s i (p.bodies i h);
      inside = λ i h. body-inside s i (p.bodies i h);
      filled = held-each s p;
      in-turn = begin-in-turn s p;
    }

-- contents that are so laid
module _ (s : List ℕ) (l : Laid s) where
  laid-apart : (i j : ℕ) → i < sections s → j < i → (stop_at s j ≤ start_at s i) ⊎ (stop_at s i ≤ start_at s j)
  laid-apart i j h k =
      on-lt (start_at s j) (start_at s i)
      (λ a. inl (l.in-turn j i (omega arith) h a))
      (λ a. on-lt (start_at s i) (start_at s j)
      (λ b. inr (l.in-turn i j h (omega arith) b))
      (λ b. on-lt (start_at s i) (stop_at s j)
      (λ c. on-lt (start_at s j) (stop_at s i)
      (λ d.
      let two = count-two (holds s (start_at s i)) j i (sections s) k h (held s (start_at s i) j b c) (held s (start_at s i) i (omega arith) (omega arith)) in
      let one = l.filled (start_at s i) (l.after-contents i h) (omega (arith, l.inside i h)) in
      absurd (omega arith))
      (λ d. inr d))
      (λ c. inl c)))

  held-is-past : (q : ℕ) → q < length s → count_below (sections s) (holds s q) ≡ past s q
  held-is-past q h =
      on-lt q (contents_end s)
      (λ k. rw (lt-leb (contents_end s) q k) (count_none (holds s q) (sections s) (λ i m. not-held s q i (omega (arith, l.after-contents i m)))))
      (λ k. rw (le-leb (contents_end s) q k, lt-ltb q (length s) h) (l.filled q k h))

  lengths-fill : contents_end s + sum_below (sections s) (body_length s) ≡ length s
  lengths-fill =
      let all = places-held s l.inside in
      let same = sum_same (λ q. count_below (sections s) (holds s q)) (past s) (length s) held-is-past in
      let e = past_all s l.fits in
      omega (arith, l.fits)

pub nothing-else-wrong : NothingElseWrong
nothing-else-wrong s l =
    not-wrong s
    (record {
      most = l.most;
      least = l.least;
      held = l.fits;
      kinds = λ i h. kind-right s i (l.known i h) (λ j k e. let q = l.once j i (omega arith) h e in omega arith);
      bodies = λ i h. body-right s i (l.after-contents i h) (l.inside i h) (λ j k. laid-apart s l i j h k);
      full = lengths-fill s l;
    })
