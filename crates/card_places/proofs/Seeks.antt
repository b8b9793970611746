-- What a search by number finds. The number of places stands for "none", and past the last place there is `vacant`. Assumes nothing.
use mathlib.Core.Path.{◌≡◌, refl, ◌∙◌}
use Prim.Native.Nat.{ℕ, suc, ◌+◌, ◌≤◌, ◌<◌}
use native.Mathlib.Omega.{arith}
use mathlib.Core.List.{List, [], ◌∷◌}
use mathlib.Core.Bool.{Bool, true, false, cond, ◌||◌}
use lib.ListN.{length, get_or-eq_default}
use lib.Dec.{ltb}
use borrow.Author.Tests.{ltb-true, ltb-false}
use Rattle.card_isdp.specs.Sizes.{most_places}
use Rattle.card_isdp.specs.LifeCycle.{is_enabled}
use Rattle.card_isdp.specs.Place.{vacant, held, is_for}
use Rattle.card_isdp.specs.declared.Isdp.{Isdp}
use Rattle.card_isdp.proofs.Bools.{and_l}
use Rattle.card_places.specs.Places.{at, seek, found_of, any_of, count_of}
use Rattle.std.specs.Prelude.{Option, Some, None}
use Rattle.std.specs.Option.{unwrap_or}

seek-case : (t : Isdp → Bool) (p : Isdp) (ps : List Isdp) (b : Bool) → t p ≡ b → t vacant ≡ false → t (at ps (seek t ps)) ≡ any_of t ps → t (at (p ∷ ps) (cond b 0 (suc (seek t ps)))) ≡ (b || any_of t ps)
seek-case t p ps true e n r = e
seek-case t p ps false e n r = r

pub seek-at : (t : Isdp → Bool) → t vacant ≡ false → (l : List Isdp) → t (at l (seek t l)) ≡ any_of t l
unfolding seek any_of
seek-at t n [] = n
seek-at t n (p ∷ ps) = seek-case t p ps (t p) refl n (seek-at t n ps)

-- a number below the length is a place that passes
below-case : (t : Isdp → Bool) (p : Isdp) (ps : List Isdp) (b : Bool) → t p ≡ b → cond b 0 (suc (seek t ps)) < suc (length ps) → (seek t ps < length ps → t (at ps (seek t ps)) ≡ true) → t (at (p ∷ ps) (cond b 0 (suc (seek t ps)))) ≡ true
below-case t p ps true e h r = e
below-case t p ps false e h r = r (omega arith)

pub seek-below : (t : Isdp → Bool) (l : List Isdp) → seek t l < length l → t (at l (seek t l)) ≡ true
unfolding seek
seek-below t [] h = absurd (omega arith)
seek-below t (p ∷ ps) h = below-case t p ps (t p) refl h (seek-below t ps)

any-case : (t : Isdp → Bool) (ps : List Isdp) (b : Bool) → 1 ≤ cond b 1 0 + count_of t ps → (1 ≤ count_of t ps → any_of t ps ≡ true) → (b || any_of t ps) ≡ true
any-case t ps true h f = refl
any-case t ps false h f = f (omega arith)

pub count-any : (t : Isdp → Bool) (l : List Isdp) → 1 ≤ count_of t l → any_of t l ≡ true
unfolding count_of any_of
count-any t [] h = absurd (omega arith)
count-any t (p ∷ ps) h = any-case t ps (t p) h (count-any t ps)

-- where one is enabled, the search finds it
pub enabled-at : (l : List Isdp) → count_of is_enabled l ≡ 1 → is_enabled (at l (seek is_enabled l)) ≡ true
enabled-at l h = seek-at is_enabled refl l ∙ count-any is_enabled l (omega arith)

-- the code's answer, taken apart
hit-case : (n e : ℕ) (b : Bool) → ltb n most_places ≡ b → ◌≡◌ {A = Option ℕ} (cond b (Some n) None) (Some e) → (n ≡ e) × (n < most_places)
hit-case n e true q r = let h : n ≡ e = cc in (h, ltb-true n most_places q)
hit-case n e false q r = let z : ◌≡◌ {A = ℕ} 0 1 = cc in absurd (omega arith)

pub found-hit : (n e : ℕ) → found_of n ≡ Some e → (n ≡ e) × (n < most_places)
found-hit n e r = hit-case n e (ltb n most_places) refl r

miss-case : (n : ℕ) (b : Bool) → ltb n most_places ≡ b → ◌≡◌ {A = Option ℕ} (cond b (Some n) None) None → most_places ≤ n
miss-case n true q r = let z : ◌≡◌ {A = ℕ} 0 1 = cc in absurd (omega arith)
miss-case n false q r = ltb-false n most_places q

pub found-miss : (n : ℕ) → found_of n ≡ None → most_places ≤ n
found-miss n r = miss-case n (ltb n most_places) refl r

-- past the last place there is none
pub past : (l : List Isdp) (n : ℕ) → length l ≤ n → at l n ≡ vacant
past l n h = get_or-eq_default l vacant {n = n} h

most-case : (b : Bool) (n m : ℕ) → n ≤ m → cond b 0 (suc n) ≤ suc m
most-case true n m h = omega arith
most-case false n m h = omega arith

pub seek-most : (t : Isdp → Bool) (l : List Isdp) → seek t l ≤ length l
unfolding seek
seek-most t [] = omega arith
seek-most t (p ∷ ps) = most-case (t p) (seek t ps) (length ps) (seek-most t ps)

-- the code's search for an AID, and the row "target AID not held"
pub held_none : (l : List Isdp) (aid : List ℕ) → length l ≡ most_places → found_of (seek (is_for aid) l) ≡ None → held (at l (seek (is_for aid) l)) ≡ false
held_none l aid n e =
    let m = found-miss (seek (is_for aid) l) e in
    rw (past l (seek (is_for aid) l) (omega arith))

pub bears : (aid : List ℕ) (p : Isdp) → is_for aid p ≡ true → held p ≡ true
unfolding is_for
bears aid p e = and_l (held p) _ e

pub held-some : (l : List Isdp) (aid : List ℕ) (t : ℕ) → length l ≡ most_places → found_of (seek (is_for aid) l) ≡ Some t → (seek (is_for aid) l ≡ t) × (held (at l (seek (is_for aid) l)) ≡ true)
held-some l aid t n e =
    let m = found-hit (seek (is_for aid) l) t e in
    (m.0, bears aid (at l (seek (is_for aid) l)) (seek-below (is_for aid) l (let k = m.1 in omega arith)))

-- what was found, or the number of places
or-case : (n : ℕ) (b : Bool) → ltb n most_places ≡ b → n ≤ most_places → unwrap_or (cond b (Some n) None) most_places ≡ n
or-case n true q h = refl
or-case n false q h = omega (arith, ltb-false n most_places q)

pub or_places : (t : Isdp → Bool) (l : List Isdp) → length l ≡ most_places → unwrap_or (found_of (seek t l)) most_places ≡ seek t l
or_places t l e = let h = seek-most t l in or-case (seek t l) (ltb (seek t l) most_places) refl (omega arith)
