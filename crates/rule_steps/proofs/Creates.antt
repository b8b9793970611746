-- A profile made in the lowest free place keeps a sound card sound: the place was empty, so neither the fall-back nor the enabled one,
-- and no held place bears the new AID. Assumes nothing.
use mathlib.Core.Path.{◌≡◌, refl, ap, sym, ◌∙◌}
use Prim.Native.Nat.{ℕ, ◌≤◌, ◌<◌}
use native.Mathlib.Omega.{arith}
use mathlib.Core.List.{List, [], ◌∷◌}
use mathlib.Core.Bool.{Bool, true, false, ◌&&◌, false≢true}
use lib.ListN.{length}
use lib.Seq.{get_or-set_other}
use borrow.Author.Tests.{le-leb, not-true}
use Rattle.base_bytes.specs.Bytes.{same_bytes}
use Rattle.card_isdp.specs.Aids.{aid_of, aid_ok}
use Rattle.card_isdp.specs.LifeCycle.{selectable}
use Rattle.card_isdp.specs.Place.{vacant, made, held, is_for, clash, place_ok}
use Rattle.card_isdp.specs.declared.Isdp.{Isdp}
use Rattle.card_isdp.proofs.Bools.{or_l, or_r}
use Rattle.base_bytes.proofs.Alike.{same-sym}
use Rattle.card_isdp.proofs.Placed.{vacant-is, made_held, made-aid, made_ok}
use Rattle.card_places.specs.Places.{at, seek, is_free, any_of}
use Rattle.card_places.proofs.Seeks.{seek-at, seek-below}
use Rattle.card_places.proofs.Sets.{set-distinct, all-at}
use Rattle.card_record.specs.Cards.{profile_of, free_place, free_in, filled}
use Rattle.card_record.specs.declared.Card.{Card}
use Rattle.card_record.specs.declared.Phase.TheVariants.{Quiet}
use Rattle.card_record.proofs.Sounds.{Sound, resort-nonzero}
use Rattle.card_record.proofs.Free.{creation}
use Rattle.card_record.proofs.Rewrites.{sets}

-- an AID that no place bears
not-held : (p : Isdp) (aid : List ℕ) → held p ≡ false → is_for aid p ≡ false
unfolding is_for
not-held p aid h = rw h

none-for : (aid : List ℕ) → is_for aid vacant ≡ false
unfolding is_for
none-for aid = refl

pub never : (l : List Isdp) (aid : List ℕ) → held (at l (seek (is_for aid) l)) ≡ false → any_of (is_for aid) l ≡ false
never l aid h = sym (seek-at (is_for aid) (none-for aid) l) ∙ not-held (at l (seek (is_for aid) l)) aid h

any-less : (t u : Isdp → Bool) → ((q : Isdp) → u q ≡ false → t q ≡ false) → (l : List Isdp) → any_of u l ≡ false → any_of t l ≡ false
unfolding any_of
any-less t u f [] e = refl
any-less t u f (p ∷ ps) e = rw (f p (or_l (u p) _ e), any-less t u f ps (or_r (u p) _ e))

and-swap : (a b x : Bool) → a ≡ true → (b && x) ≡ false → (b && (a && x)) ≡ false
and-swap true b x h e = e
and-swap false b x h e = absurd (false≢true h)

module _ (aid : List ℕ) (quota : ℕ) (ok : aid_ok aid ≡ true) where
  abbrev new : Isdp
  new = made aid selectable quota 0

  new-first : (q : Isdp) → is_for aid q ≡ false → clash new q ≡ false
  unfolding clash
  new-first q e = rw (made_held aid selectable quota 0 ok, made-aid aid selectable quota 0 ok) e

  new-second : (p : Isdp) → is_for aid p ≡ false → clash p new ≡ false
  unfolding clash is_for
  new-second p e =
      rw (made-aid aid selectable quota 0 ok, same-sym (aid_of p) aid) (and-swap (held new) (held p) (same_bytes (aid_of p) aid) (made_held aid selectable quota 0 ok) e)

pub creates : (c : Card) (aid : List ℕ) (quota : ℕ) → Sound c → c.phase ≡ Quiet → aid_ok aid ≡ true → 1 ≤ quota → quota ≤ free_in c → held (profile_of c aid) ≡ false → free_place c < length c.places → Sound (filled c (free_place c) (made aid selectable quota 0))
creates c aid quota s q ok low fits free k =
    let l = c.places in
    let t = free_place c in
    let x = made aid selectable quota 0 in
    let m = vacant-is c.capacity (at l t) (not-true (held (at l t)) (seek-below is_free l k)) (all-at (place_ok c.capacity) l t k s.placed.each) in
    let life : (at l t).life ≡ 0 = ap (λ (p : Isdp). p.life) m in
    let n : c.fallback ≡ t → ⊥ = λ w. resort-nonzero c s (ap (λ (i : ℕ). (at l i).life) w ∙ life) in
    let a = never l aid free in
    sets c t x _ s
    (made_ok aid selectable quota 0 ok c.capacity 0 refl refl (le-leb 1 quota low) (le-leb quota c.capacity (let r = s.placed.room in omega arith)) (le-leb 0 quota (omega arith)))
    (rw life)
    (set-distinct x l t (any-less (clash x) (is_for aid) (new-first aid quota ok) l a) (any-less (λ p. clash p x) (is_for aid) (new-second aid quota ok) l a) s.placed.apart)
    (creation t x c k m (omega arith) s.placed.room)
    (rw (get_or-set_other l t c.fallback x vacant n) s.roles.resort)
    (rw q tt)
