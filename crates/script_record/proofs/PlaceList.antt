-- The places of a record, one turn of the loop after the other: what was read stands at the front of the array, and the rest of the
-- line gives the rest.
use Prim.Native.Nat.{ℕ, suc, ◌+◌, ◌-◌, ◌≤◌, ◌<◌}
use mathlib.Core.Path.{◌≡◌, refl, sym, ap, ◌∙◌}
use mathlib.Core.List.{List, [], ◌∷◌, ◌++◌}
use native.Mathlib.Omega.{arith}
use native.Mathlib.Numerals.{add-one}
use lib.ListN.{length, take, set}
use lib.Seq.{take-suc-set, take_all}
use Rattle.std.specs.Prelude.{Result, Ok, Err}
use Rattle.card_isdp.specs.Sizes.{most_places}
use Rattle.card_isdp.specs.declared.Isdp.{Isdp}
use Rattle.script_record.specs.Records.{place_at, places_on}
use Rattle.script_words.specs.declared.Reason.{Reason}

-- the same line, read on
pub same-line : (n at : ℕ) (l : List Isdp) {s t : List ℕ} → s ≡ t → places_on n s at l ≡ places_on n t at l
same-line n at l e = ap (λ (s : List ℕ). places_on n s at l) e

-- a turn reads one place of those that are left
one_left : (s : List ℕ) (at i : ℕ) (l : List Isdp) → i < most_places → places_on (most_places - i) s at l ≡ places_on (suc (most_places - (i + 1))) s at l
one_left s at i l h = let e : most_places - i ≡ suc (most_places - (i + 1)) = omega arith in ap (λ (n : ℕ). places_on n s at l) e

bad-place : (n : ℕ) (s : List ℕ) (at : ℕ) (why : Reason) (l : List Isdp) → Err why ≡ place_at s at → Err why ≡ places_on (suc n) s at l
unfolding places_on
bad-place n s at why l q = rw (← q) refl

good-place : (n : ℕ) (s : List ℕ) (at : ℕ) (p : Isdp) (e : ℕ) (l : List Isdp) → Ok (record { value = p; next = e }) ≡ place_at s at
    → places_on n s e (l ++ (p ∷ [])) ≡ places_on (suc n) s at l
unfolding places_on
good-place n s at p e l q = rw (← q) refl

none_left : (s : List ℕ) (at : ℕ) (l : List Isdp) → Ok l ≡ places_on 0 s at l
unfolding places_on
none_left s at l = refl

module _ (s : List ℕ) (at i : ℕ) (ps : List Isdp) (o : Result (List Isdp) Reason) (inv : places_on (most_places - i) s at (take i ps) ≡ o) where
  pub places-end : most_places ≤ i → length ps ≡ most_places → Ok ps ≡ o
  places-end h m =
      let e : 0 ≡ most_places - i = omega arith in
      let t = take_all i ps (omega arith) in
      ap (λ (l : List Isdp). Ok l) (sym t)
      ∙ none_left s at (take i ps)
      ∙ ap (λ (n : ℕ). places_on n s at (take i ps)) e
      ∙ inv

  pub places-bad : (why : Reason) → i < most_places → Err why ≡ place_at s at → Err why ≡ o
  places-bad why h q = bad-place _ s at why _ q ∙ sym (one_left s at i (take i ps) h) ∙ inv

  pub places-next : (p : Isdp) (e : ℕ) → i < most_places → length ps ≡ most_places → Ok (record { value = p; next = e }) ≡ place_at s at
      → places_on (most_places - (i + 1)) s e (take (i + 1) (set ps i p)) ≡ o
  places-next p e h m q =
      let k : i < length ps = omega arith in
      ap (λ (l : List Isdp). places_on (most_places - (i + 1)) s e l)
      (ap (λ (n : ℕ). take n (set ps i p)) (add-one i) ∙ take-suc-set ps i p k)
      ∙ good-place _ s at p e _ q
      ∙ sym (one_left s at i (take i ps) h)
      ∙ inv
