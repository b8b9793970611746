-- The hashes of AIDs noted on a walk down over the places: where the hash of a place was not seen, no place passed bears its AID. Assumes nothing.
use mathlib.Core.Path.{◌≡◌, refl, ap, sym, subst, ◌∙◌}
use Prim.Native.Nat.{ℕ, zero, suc, ◌+◌, ◌≤◌, ◌<◌}
use native.Mathlib.Omega.{arith}
use mathlib.Core.List.{List, [], ◌∷◌}
use mathlib.Core.Bool.{Bool, true, false, not, ◌&&◌, ◌||◌, or-true, false≢true}
use lib.ListN.{length, get_or, set, drop, length-set}
use lib.Seq.{get_or-set_same, drop-nil}
use borrow.Author.Tests.{eq-eqb}
use Rattle.base_bytes.specs.Bytes.{same_bytes}
use Rattle.base_bytes.proofs.Alike.{same_true}
use Rattle.card_isdp.specs.Aids.{aid_of}
use Rattle.card_isdp.specs.Place.{held, is_for, clash}
use Rattle.card_isdp.specs.declared.Isdp.{Isdp}
use Rattle.card_isdp.proofs.Bools.{and_l, and_r}
use Rattle.card_places.specs.Places.{all_of, any_of, distinct}
use Rattle.card_places.specs.Hashes.{hashes, hash_of}
use Rattle.card_places.proofs.Sets.{any-never}
use Rattle.card_places.proofs.Turns.{all-step, all_end, distinct-step, distinct-end}

-- places with one AID have one hash
pub clash-hash : (p q : Isdp) → clash p q ≡ true → (held q ≡ true) × (hash_of (aid_of q) ≡ hash_of (aid_of p))
unfolding clash is_for
clash-hash p q e =
    let f = and_r (held p) (held q && same_bytes (aid_of q) (aid_of p)) e in
    (and_l (held q) (same_bytes (aid_of q) (aid_of p)) f, ap hash_of (same_true (aid_of q) (aid_of p) (and_r (held q) (same_bytes (aid_of q) (aid_of p)) f)))

-- a place that is not held, or whose hash was seen
unfoldable pub noted : List Bool → Isdp → Bool
noted s p = not (held p) || get_or s (hash_of (aid_of p)) false

module _ (s : List Bool) (p : Isdp) (new : get_or s (hash_of (aid_of p)) false ≡ false) where
  strange : (q : Isdp) (t : Bool) → clash p q ≡ t → noted s q ≡ true → clash p q ≡ false
  unfolding noted
  strange q true e m = let k = clash-hash p q e in absurd (false≢true (rw (k.0, k.1, new) at m))
  strange q false e m = e

  -- a hash not seen: no place passed bears the AID
  unseen : (l : List Isdp) → all_of (noted s) l ≡ true → any_of (clash p) l ≡ false
  unfolding all_of any_of
  unseen [] e = refl
  unseen (q ∷ qs) e = rw (strange q (clash p q) refl (and_l (noted s q) _ e), unseen qs (and_r (noted s q) _ e))

-- a place that is not held
module _ (p : Isdp) (z : p.aid.len ≡ 0) where
  free-clash : (q : Isdp) → clash p q ≡ false
  unfolding clash
  free-clash q = rw (eq-eqb p.aid.len 0 z)

  free-noted : (s : List Bool) → noted s p ≡ true
  unfolding noted
  free-noted s = rw (eq-eqb p.aid.len 0 z)

-- one hash more
own-noted : (s : List Bool) (p : Isdp) (m : ℕ) → m ≡ hash_of (aid_of p) → m < length s → noted (set s m true) p ≡ true
unfolding noted
own-noted s p m e b = rw (← e, get_or-set_same s m true false b) (or-true (not (held p)))

kept : (s : List Bool) (m k : ℕ) → get_or s k false ≡ true → get_or (set s m true) k false ≡ true
kept [] m k e = e
kept (x ∷ xs) zero zero e = refl
kept (x ∷ xs) zero (suc k) e = e
kept (x ∷ xs) (suc m) zero e = e
kept (x ∷ xs) (suc m) (suc k) e = kept xs m k e

or-more : (a b c : Bool) → (b ≡ true → c ≡ true) → (a || b) ≡ true → (a || c) ≡ true
or-more true b c f e = refl
or-more false b c f e = f e

more-noted : (s : List Bool) (m : ℕ) (l : List Isdp) → all_of (noted s) l ≡ true → all_of (noted (set s m true)) l ≡ true
unfolding all_of noted
more-noted s m [] e = refl
more-noted s m (p ∷ ps) e =
    rw (or-more (not (held p)) (get_or s (hash_of (aid_of p)) false) (get_or (set s m true) (hash_of (aid_of p)) false) (kept s m (hash_of (aid_of p))) (and_l (noted s p) _ e))
    (more-noted s m ps (and_r (noted s p) _ e))

-- what is known where the walk has come down to i
pub record Walked (l : List Isdp) (i : ℕ) (s : List Bool) : Type 0 where
  pub size : length s ≡ hashes
  pub alone : distinct (drop i l) ≡ true
  pub all_noted : all_of (noted s) (drop i l) ≡ true

pub walk_first : (l : List Isdp) (i : ℕ) → length l ≤ i → (s : List Bool) → length s ≡ hashes → Walked l i s
walk_first l i h s n = record { size = n; alone = distinct-end l i h; all_noted = all_end (noted s) l i h }

-- what is found twice from i on is found twice in all
distinct-drop : (l : List Isdp) (i : ℕ) → distinct l ≡ true → distinct (drop i l) ≡ true
unfolding distinct
distinct-drop [] i e = ap distinct (drop-nil i)
distinct-drop (p ∷ ps) zero e = e
distinct-drop (p ∷ ps) (suc i) e = distinct-drop ps i (and_r (not (any_of (clash p) ps)) (distinct ps) e)

twice-case : (l : List Isdp) (i : ℕ) → distinct (drop i l) ≡ false → (t : Bool) → distinct l ≡ t → false ≡ distinct l
twice-case l i e true f = absurd (false≢true (sym e ∙ distinct-drop l i f))
twice-case l i e false f = sym f

-- a turn of the walk, which comes down from n to i
module _ (l : List Isdp) (d : Isdp) (i n : ℕ) (h : i < length l) (k : n ≡ i + 1) (s : List Bool) (v : Walked l n s) where
  w : Walked l (i + 1) s
  w = subst (λ (x : ℕ). Walked l x s) k v

  pub walk_none : (get_or l i d).aid.len ≡ 0 → Walked l i s
  walk_none z =
      record {
        size = w.size;
        alone = distinct-step l d i h ∙ rw (any-never (clash (get_or l i d)) (free-clash (get_or l i d) z) (drop (i + 1) l)) w.alone;
        all_noted = all-step (noted s) l d i h ∙ rw (free-noted (get_or l i d) z s) w.all_noted;
      }

  -- a place that is held, with its hash m, and what `met` says of it
  module _ (m : ℕ) (e : m ≡ hash_of (aid_of (get_or l i d))) (b : m < hashes) (r : Bool) (f : r ≡ (get_or s m false && any_of (clash (get_or l i d)) (drop (i + 1) l))) where
    pub walk-twice : r ≡ true → false ≡ distinct l
    walk-twice t = twice-case l i (distinct-step l d i h ∙ rw (and_r (get_or s m false) _ (sym f ∙ t))) (distinct l) refl

    alone-case : (t : Bool) → get_or s m false ≡ t → (t && any_of (clash (get_or l i d)) (drop (i + 1) l)) ≡ false → any_of (clash (get_or l i d)) (drop (i + 1) l) ≡ false
    alone-case true q a = a
    alone-case false q a = unseen s (get_or l i d) (ap (λ (x : ℕ). get_or s x false) (sym e) ∙ q) (drop (i + 1) l) w.all_noted

    pub walk-on : r ≡ false → Walked l i (set s m true)
    walk-on t =
        record {
          size = length-set s m true ∙ w.size;
          alone = distinct-step l d i h ∙ rw (alone-case (get_or s m false) refl (sym f ∙ t)) w.alone;
          all_noted = all-step (noted (set s m true)) l d i h ∙ rw (own-noted s (get_or l i d) m e (omega (arith, w.size, b))) (more-noted s m (drop (i + 1) l) w.all_noted);
        }

pub walk_end : (l : List Isdp) (i : ℕ) → i ≡ 0 → (s : List Bool) → Walked l i s → true ≡ distinct l
walk_end l i e s w = sym (subst (λ (k : ℕ). distinct (drop k l) ≡ true) e w.alone)
