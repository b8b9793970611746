-- The test of a place and its clauses in numbers, both ways: by whether the place is held; the zeros past an AID's length byte by byte.
use mathlib.Core.Path.{◌≡◌, refl, sym, subst, ◌∙◌}
use Prim.Native.Nat.{ℕ, zero, suc, ◌+◌, ◌-◌, ◌≤◌}
use native.Mathlib.Omega.{arith}
use mathlib.Core.List.{List, [], ◌∷◌}
use mathlib.Core.Logic.{◌⊎◌, inl, inr}
use mathlib.Core.Bool.{Bool, true, false, ◌||◌, false≢true}
use lib.ListN.{drop, get_or}
use lib.Seq.{get_or-drop}
use lib.Dec.{eqb}
use borrow.Author.Tests.{eq-eqb, ne_eqb, eqb-true, le-leb, leb-true}
use Rattle.card_isdp.specs.Place.{vacant, held, zeros, life_ok, place_ok}
use Rattle.card_isdp.specs.Clauses.{HeldPlace, ZeroPlace, RightPlace, PlaceClauses}
use Rattle.card_isdp.specs.declared.Isdp.{Isdp}
use Rattle.card_isdp.proofs.Bools.{and_l, and_r}
use Rattle.card_isdp.proofs.Policies.{policy-number}
use Rattle.card_isdp.proofs.Placed.{Placed, placed, placed-ok, lived, vacant-is}

-- ---- zeros, byte by byte

zeros-at : (l : List ℕ) → zeros l ≡ true → (i : ℕ) → get_or l i 0 ≡ 0
unfolding zeros
zeros-at [] e i = refl
zeros-at (x ∷ xs) e zero = eqb-true x 0 (and_l (eqb x 0) _ e)
zeros-at (x ∷ xs) e (suc i) = zeros-at xs (and_r (eqb x 0) _ e) i

at-zeros : (l : List ℕ) → ((i : ℕ) → get_or l i 0 ≡ 0) → zeros l ≡ true
unfolding zeros
at-zeros [] h = refl
at-zeros (x ∷ xs) h = rw (eq-eqb x 0 (h zero)) (at-zeros xs (λ i. h (suc i)))

-- past n bytes
past-at : (l : List ℕ) (n : ℕ) → zeros (drop n l) ≡ true → (i : ℕ) → n ≤ i → get_or l i 0 ≡ 0
past-at l n e i h =
    let k : i ≡ n + (i - n) = omega arith in
    rw k (sym (get_or-drop n l (i - n) 0) ∙ zeros-at (drop n l) e (i - n))

at-past : (l : List ℕ) (n : ℕ) → ((i : ℕ) → n ≤ i → get_or l i 0 ≡ 0) → zeros (drop n l) ≡ true
at-past l n h = at-zeros (drop n l) (λ i. get_or-drop n l i 0 ∙ h (n + i) (omega arith))

-- ---- the four life cycles

life-of : (v : ℕ) (a b c d : Bool) → eqb v 0x07 ≡ a → eqb v 0x0F ≡ b → eqb v 0x1F ≡ c → eqb v 0x3F ≡ d → (a || (b || (c || d))) ≡ true
    → (v ≡ 0x07) ⊎ (v ≡ 0x0F) ⊎ (v ≡ 0x1F) ⊎ (v ≡ 0x3F)
life-of v true b c d p q r s e = inl (eqb-true v 0x07 p)
life-of v false true c d p q r s e = inr (inl (eqb-true v 0x0F q))
life-of v false false true d p q r s e = inr (inr (inl (eqb-true v 0x1F r)))
life-of v false false false true p q r s e = inr (inr (inr (eqb-true v 0x3F s)))
life-of v false false false false p q r s e = absurd (false≢true e)

of-life : (v : ℕ) → (v ≡ 0x07) ⊎ (v ≡ 0x0F) ⊎ (v ≡ 0x1F) ⊎ (v ≡ 0x3F) → life_ok v ≡ true
of-life v (inl e) = rw e refl
of-life v (inr (inl e)) = rw e refl
of-life v (inr (inr (inl e))) = rw e refl
of-life v (inr (inr (inr e))) = rw e refl

unlived : (v : ℕ) → life_ok v ≡ true → v ≡ 0 → ⊥
unlived v o z = false≢true (rw z at o)

-- ---- a place

none-at : (i : ℕ) → get_or vacant.aid.bytes i 0 ≡ 0
unfolding zeros
none-at = zeros-at vacant.aid.bytes refl

none : ZeroPlace vacant
none = record { aid-field = refl; aid-zero = none-at; aid-none = refl; life-zero = refl; quota-zero = refl; used-zero = refl; policy-zero = refl; mark-zero = refl }

module _ (capacity : ℕ) (p : Isdp) where
  held-asked : held p ≡ true → place_ok capacity p ≡ true → HeldPlace capacity p
  held-asked h o =
      let l : life_ok p.life ≡ true = lived capacity p h o in
      let d : Placed capacity p = placed capacity p (ne_eqb p.life 0 (unlived p.life l)) o in
      record {
        aid-field = d.wide;
        aid-least = leb-true 5 p.aid.len d.five;
        aid-most = leb-true p.aid.len 16 d.sixteen;
        aid-past = past-at p.aid.bytes p.aid.len d.ended;
        life-cycle = life-of p.life _ _ _ _ refl refl refl refl l;
        quota-least = leb-true 1 p.quota d.some;
        quota-most = leb-true p.quota capacity d.most;
        used-most = leb-true p.used p.quota d.fits;
        policy-most = leb-true p.policy 4 (sym (policy-number p.policy) ∙ d.rule);
        mark-most = leb-true p.mark 1 d.mark;
      }

  held-enough : HeldPlace capacity p → place_ok capacity p ≡ true
  held-enough s =
      placed-ok capacity p (of-life p.life s.life-cycle)
      (record {
        wide = s.aid-field;
        there = rw (ne_eqb p.aid.len 0 (let k = s.aid-least in λ z. omega arith)) refl;
        five = le-leb 5 p.aid.len s.aid-least;
        sixteen = le-leb p.aid.len 16 s.aid-most;
        some = le-leb 1 p.quota s.quota-least;
        most = le-leb p.quota capacity s.quota-most;
        fits = le-leb p.used p.quota s.used-most;
        rule = policy-number p.policy ∙ le-leb p.policy 4 s.policy-most;
        mark = le-leb p.mark 1 s.mark-most;
        ended = at-past p.aid.bytes p.aid.len s.aid-past;
      })

  zero-enough : ZeroPlace p → place_ok capacity p ≡ true
  unfolding place_ok
  zero-enough s =
      rw (s.aid-field, s.aid-none, s.life-zero, s.quota-zero, s.used-zero, s.policy-zero, s.mark-zero)
      (at-zeros p.aid.bytes s.aid-zero)

  asked-case : (b : Bool) → held p ≡ b → place_ok capacity p ≡ true → RightPlace capacity p
  asked-case true h o = inl (held-asked h o)
  asked-case false h o = inr (subst ZeroPlace (sym (vacant-is capacity p h o)) none)

  enough-case : RightPlace capacity p → place_ok capacity p ≡ true
  enough-case (inl s) = held-enough s
  enough-case (inr s) = zero-enough s

pub place-clauses : PlaceClauses
place-clauses = record { asked = λ k p o. asked-case k p (held p) refl o; enough = enough-case }
