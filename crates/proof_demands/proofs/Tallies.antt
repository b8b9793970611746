-- The profiles counted and the profiles held are the same ones: every weight of AID and quota adds up to the same over both. So no order
-- and no lookup is needed; a deletion is the weight that passes over one AID. By induction over the places. Assumes nothing.
use mathlib.Core.Path.{◌≡◌, refl, ap, sym, ◌∙◌}
use Prim.Native.Nat.{ℕ, zero, suc, ◌+◌, ◌<◌}
use native.Mathlib.Omega.{arith}
use mathlib.Core.List.{List, [], ◌∷◌}
use mathlib.Core.Bool.{Bool, true, false, not, cond, ◌&&◌, false≢true}
use lib.ListN.{length, set}
use borrow.Author.Tests.{not-true}
use Rattle.std.proofs.lemmas.Bool.{and_from}
use Rattle.base_bytes.specs.Bytes.{same_bytes}
use Rattle.base_bytes.proofs.Alike.{same_true, same_self}
use Rattle.card_isdp.specs.Aids.{aid_ok, aid_of}
use Rattle.card_isdp.specs.Place.{vacant, made, held, is_for, clash, place_ok}
use Rattle.card_isdp.specs.declared.Isdp.{Isdp}
use Rattle.card_isdp.proofs.Placed.{vacant-is, made_held, made-aid}
use Rattle.card_isdp.proofs.Bools.{and_l, and_r, or_l, or_r}
use Rattle.card_isdp.proofs.Alike.{clash-none}
use Rattle.card_places.specs.Places.{at, quotas, all_of, any_of, distinct}
use Rattle.card_places.proofs.Lives.{Lives, Lives.ended, Lives.place}
use Rattle.proof_demands.specs.Free.{Made, without, room}

abbrev pub Weight : Type 0
Weight = List ℕ → ℕ → ℕ

unfoldable pub sum_made : Weight → List Made → ℕ
sum_made w [] = 0
sum_made w (m ∷ ms) = w m.aid m.quota + sum_made w ms

-- a place not held weighs nothing
abbrev pub weight : Weight → Isdp → ℕ
weight w p = cond (held p) (w (aid_of p) p.quota) 0

unfoldable pub sum_held : Weight → List Isdp → ℕ
sum_held w [] = 0
sum_held w (p ∷ ps) = weight w p + sum_held w ps

abbrev pub Tally : List Made → List Isdp → Type 0
Tally ms l = (w : Weight) → sum_made w ms ≡ sum_held w l

-- life cycles do not weigh
lives-sum : {l m : List Isdp} (w : Weight) → Lives l m → sum_held w m ≡ sum_held w l
unfolding sum_held
lives-sum w ended = refl
lives-sum w (place p v r) = rw (lives-sum w r)

pub lives-tally : {l m : List Isdp} (ms : List Made) → Lives l m → Tally ms l → Tally ms m
lives-tally ms r t w = t w ∙ sym (lives-sum w r)

-- nor does anything else of a place but its AID and quota
alike-sum : (w : Weight) (x : Isdp) (l : List Isdp) (i : ℕ) → x.aid ≡ (at l i).aid → x.quota ≡ (at l i).quota → sum_held w (set l i x) ≡ sum_held w l
unfolding sum_held
alike-sum w x [] i e g = refl
alike-sum w x (p ∷ ps) zero e g = rw (e, g)
alike-sum w x (p ∷ ps) (suc i) e g = rw (alike-sum w x ps i e g)

pub alike-tally : (ms : List Made) (x : Isdp) (l : List Isdp) (i : ℕ) → x.aid ≡ (at l i).aid → x.quota ≡ (at l i).quota → Tally ms l → Tally ms (set l i x)
alike-tally ms x l i e g t w = t w ∙ sym (alike-sum w x l i e g)

-- a profile made anew
module _ (aid : List ℕ) (life quota used : ℕ) (ok : aid_ok aid ≡ true) where
  pub made-weight : (w : Weight) → weight w (made aid life quota used) ≡ w aid quota
  made-weight w = rw (made_held aid life quota used ok, made-aid aid life quota used ok)

sum-set : (w : Weight) (x : Isdp) (l : List Isdp) (t : ℕ) → t < length l → held (at l t) ≡ false → sum_held w (set l t x) ≡ weight w x + sum_held w l
unfolding sum_held
sum-set w x [] t h n = absurd (omega arith)
sum-set w x (p ∷ ps) zero h n = rw n (omega arith)
sum-set w x (p ∷ ps) (suc t) h n = let r = sum-set w x ps t (omega arith) n in omega arith

pub create-tally : (ms : List Made) (l : List Isdp) (t : ℕ) (aid : List ℕ) (life quota used : ℕ) → aid_ok aid ≡ true → t < length l → held (at l t) ≡ false → Tally ms l → Tally (record { aid = aid; quota = quota } ∷ ms) (set l t (made aid life quota used))
unfolding sum_made
create-tally ms l t aid life quota used ok h n tally w =
    let r = sum-set w (made aid life quota used) l t h n in
    let s = made-weight aid life quota used ok w in
    let u = tally w in
    omega arith

-- the weight that passes over one AID
abbrev mask : List ℕ → Weight → Weight
mask a w x q = cond (same_bytes x a) 0 (w x q)

without-case : (w : Weight) (a : List ℕ) (m : Made) (ms : List Made) (b : Bool) → sum_made w (without a ms) ≡ sum_made (mask a w) ms → sum_made w (cond b (without a ms) (m ∷ without a ms)) ≡ cond b 0 (w m.aid m.quota) + sum_made (mask a w) ms
unfolding sum_made
without-case w a m ms true r = r ∙ omega arith
without-case w a m ms false r = rw r

sum-without : (w : Weight) (a : List ℕ) (ms : List Made) → sum_made w (without a ms) ≡ sum_made (mask a w) ms
unfolding sum_made without
sum-without w a [] = refl
sum-without w a (m ∷ ms) = without-case w a m ms (same_bytes m.aid a) (sum-without w a ms)

-- two that bear one AID clash
bearers-clash : (a : List ℕ) (p q : Isdp) → is_for a p ≡ true → is_for a q ≡ true → clash p q ≡ true
unfolding clash is_for
bearers-clash a p q e f =
    let z : aid_of p ≡ a = same_true (aid_of p) a (and_r (held p) _ e) in
    rw (and_l (held p) _ e, z) f

any_at : (t : Isdp → Bool) (l : List Isdp) (i : ℕ) → t vacant ≡ false → any_of t l ≡ false → t (at l i) ≡ false
unfolding any_of
any_at t [] i n e = n
any_at t (p ∷ ps) zero n e = or_l (t p) _ e
any_at t (p ∷ ps) (suc i) n e = any_at t ps i n (or_r (t p) _ e)

-- where the AID is not borne the mask passes over nothing; where it is, all is passed over
miss-case : (h e : Bool) (x : ℕ) → (h && e) ≡ false → cond h (cond e 0 x) 0 ≡ cond h x 0
miss-case true true x n = absurd (false≢true (sym n))
miss-case true false x n = refl
miss-case false e x n = refl

mask_one : (w : Weight) (a : List ℕ) (p : Isdp) → is_for a p ≡ false → weight (mask a w) p ≡ weight w p
unfolding is_for
mask_one w a p e = miss-case (held p) (same_bytes (aid_of p) a) (w (aid_of p) p.quota) e

mask-miss : (w : Weight) (a : List ℕ) (l : List Isdp) → any_of (is_for a) l ≡ false → sum_held (mask a w) l ≡ sum_held w l
unfolding sum_held any_of
mask-miss w a [] e = refl
mask-miss w a (p ∷ ps) e = rw (mask_one w a p (or_l (is_for a p) _ e), mask-miss w a ps (or_r (is_for a p) _ e))

hit-case : (h e : Bool) (x : ℕ) → (h && e) ≡ true → cond h (cond e 0 x) 0 ≡ 0
hit-case true true x n = refl
hit-case true false x n = absurd (false≢true n)
hit-case false e x n = refl

mask-hit : (w : Weight) (a : List ℕ) (p : Isdp) → is_for a p ≡ true → weight (mask a w) p ≡ 0
unfolding is_for
mask-hit w a p e = hit-case (held p) (same_bytes (aid_of p) a) (w (aid_of p) p.quota) e

other-case : (a : List ℕ) (p q : Isdp) (b : Bool) → is_for a q ≡ b → is_for a p ≡ true → clash p q ≡ false → b ≡ false
other-case a p q true f e n = absurd (false≢true (sym n ∙ bearers-clash a p q e f))
other-case a p q false f e n = refl

no-others : (a : List ℕ) (p : Isdp) → is_for a p ≡ true → (l : List Isdp) → any_of (clash p) l ≡ false → any_of (is_for a) l ≡ false
unfolding any_of
no-others a p e [] n = refl
no-others a p e (q ∷ qs) n = rw (other-case a p q (is_for a q) refl e (or_l (clash p q) _ n), no-others a p e qs (or_r (clash p q) _ n))

pub not-before : (a : List ℕ) (p : Isdp) (ps : List Isdp) (t : ℕ) (b : Bool) → is_for a p ≡ b → is_for a (at ps t) ≡ true → any_of (clash p) ps ≡ false → b ≡ false
not-before a p ps t true e f n = absurd (false≢true (sym (any_at (clash p) ps t (clash-none p) n) ∙ bearers-clash a p (at ps t) e f))
not-before a p ps t false e f n = refl

sum-clear : (w : Weight) (a : List ℕ) (l : List Isdp) (t : ℕ) → is_for a (at l t) ≡ true → distinct l ≡ true → sum_held (mask a w) l ≡ sum_held w (set l t vacant)
unfolding sum_held distinct
sum-clear w a [] t e d = refl
sum-clear w a (p ∷ ps) zero e d =
    let n = not-true (any_of (clash p) ps) (and_l (not (any_of (clash p) ps)) _ d) in
    rw (mask-hit w a p e, mask-miss w a ps (no-others a p e ps n))
sum-clear w a (p ∷ ps) (suc t) e d =
    let n = not-true (any_of (clash p) ps) (and_l (not (any_of (clash p) ps)) _ d) in
    let b = not-before a p ps t (is_for a p) refl e n in
    rw (mask_one w a p b, sum-clear w a ps t e (and_r (not (any_of (clash p) ps)) _ d))

pub delete-tally : (ms : List Made) (l : List Isdp) (t : ℕ) (a : List ℕ) → is_for a (at l t) ≡ true → distinct l ≡ true → Tally ms l → Tally (without a ms) (set l t vacant)
delete-tally ms l t a e d tally w = sum-without w a ms ∙ tally (mask a w) ∙ sum-clear w a l t e d

-- the weight that is the quota itself: a place not held has none
sum_room : (ms : List Made) → sum_made (λ x q. q) ms ≡ room ms
unfolding sum_made room
sum_room [] = refl
sum_room (m ∷ ms) = rw (sum_room ms)

quota-case : (h : Bool) (q : ℕ) → (h ≡ false → q ≡ 0) → cond h q 0 ≡ q
quota-case true q f = refl
quota-case false q f = sym (f refl)

empty-quota : (k : ℕ) (p : Isdp) → place_ok k p ≡ true → held p ≡ false → p.quota ≡ 0
empty-quota k p o h = ap (λ (q : Isdp). q.quota) (vacant-is k p h o)

sum-quotas : (k : ℕ) (l : List Isdp) → all_of (place_ok k) l ≡ true → sum_held (λ x q. q) l ≡ quotas l
unfolding sum_held quotas all_of
sum-quotas k [] o = refl
sum-quotas k (p ∷ ps) o =
    rw (quota-case (held p) p.quota (empty-quota k p (and_l (place_ok k p) _ o)), sum-quotas k ps (and_r (place_ok k p) _ o))

pub tally-room : (k : ℕ) (ms : List Made) (l : List Isdp) → all_of (place_ok k) l ≡ true → Tally ms l → room ms ≡ quotas l
tally-room k ms l o tally = sym (sum_room ms) ∙ tally (λ x q. q) ∙ sum-quotas k l o

-- a held place bears its own AID
pub bears-own : (p : Isdp) → held p ≡ true → is_for (aid_of p) p ≡ true
unfolding is_for
bears-own p h = and_from _ _ h (same_self (aid_of p))
