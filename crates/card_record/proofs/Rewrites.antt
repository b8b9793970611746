-- One place set anew keeps a card sound (`sets`), by what is asked of the new profile. So do a Created profile (neither DISABLED nor
-- ENABLED) rewritten with its AID and quota, any profile rewritten in Quiet with its life cycle and mark too, and a deletion of a profile
-- that may be deleted; another fall-back does. Then the confirmation, which closes and may delete. Assumes nothing.
use mathlib.Core.Path.{◌≡◌, refl, sym, ◌∙◌}
use Prim.Native.Nat.{ℕ, ◌+◌}
use mathlib.Core.List.{List}
use mathlib.Core.Bool.{true, false, false≢true}
use lib.ListN.{set, length-set}
use lib.Seq.{get_or-set_other}
use lib.Dec.{eqb}
use Rattle.std.proofs.lemmas.Bool.{cond_both, or_parts}
use Rattle.card_isdp.specs.LifeCycle.{disabled, is_enabled, is_finished}
use Rattle.card_isdp.specs.Provisioning.{may_be_fall_back}
use Rattle.card_isdp.specs.Policy.{once_disabled}
use Rattle.card_isdp.specs.Place.{vacant, place_ok}
use Rattle.card_isdp.specs.declared.Isdp.{Isdp}
use Rattle.card_isdp.proofs.Bools.{and_r}
use Rattle.card_isdp.proofs.Placed.{none-ok}
use Rattle.card_places.specs.Places.{at, quotas, distinct}
use Rattle.card_places.proofs.Sets.{set_all, set-count, set-alike, set-unseen, clear-distinct}
use Rattle.card_record.specs.Cards.{may_be_deleted, with_room, with_phase, with_fallback, cleared, rewritten}
use Rattle.card_record.specs.Sound.{sound}
use Rattle.card_record.specs.Clock.{dropped, confirm_in, confirm_of}
use Rattle.card_record.specs.declared.Card.{Card}
use Rattle.card_record.specs.declared.Phase.{Phase}
use Rattle.card_record.specs.declared.Phase.TheVariants.{Quiet, Trial, Back, Fallen}
use Rattle.card_record.proofs.Deletions.{deletable}
use Rattle.card_record.proofs.Free.{deletion, rewriting}
use Rattle.card_record.proofs.Sounds.{Sound, Phased, parts, whole, resized, rephased, resort-done}

-- one place is set anew, and free is what the quotas then leave; the phase holds of the new card
pub sets : (c : Card) (i : ℕ) (x : Isdp) (r : ℕ) → Sound c → place_ok c.capacity x ≡ true → is_enabled x ≡ is_enabled (at c.places i) → distinct (set c.places i x) ≡ true → r + quotas (set c.places i x) ≡ c.capacity → may_be_fall_back (at (set c.places i x) c.fallback) ≡ true → Phased c.phase (with_room c r (set c.places i x)) → Sound (with_room c r (set c.places i x))
sets c i x r s o v d q f h =
    record {
      sizes = resized c r c.last c.phase (set c.places i x) s.sizes s.sizes.numbered (length-set c.places i x);
      placed = record { each = set_all (place_ok c.capacity) x o c.places i s.placed.each; apart = d; room = q };
      roles = record { one = set-count is_enabled x c.places i v ∙ s.roles.one; resort = f; listing = refl };
      phased = h;
    }

-- a profile that is neither DISABLED nor ENABLED is neither the fall-back nor the previous one
apart : (l : List Isdp) (i j : ℕ) → is_finished (at l i).life ≡ false → is_finished (at l j).life ≡ true → j ≡ i → ⊥
apart l i j n d e = false≢true (sym n ∙ rw e at d)

module _ (c : Card) (i : ℕ) (x : Isdp) (s : Sound c) (d : is_finished (at c.places i).life ≡ false) (v : is_enabled x ≡ false) (o : place_ok c.capacity x ≡ true) (a : x.aid ≡ (at c.places i).aid) (q : x.quota ≡ (at c.places i).quota) where
  pub off-before : is_enabled (at c.places i) ≡ false
  off-before = (or_parts (eqb (at c.places i).life disabled) (is_enabled (at c.places i)) d).1

  pub other : (j : ℕ) → is_finished (at c.places j).life ≡ true → at (set c.places i x) j ≡ at c.places j
  other j w = get_or-set_other c.places i j x vacant (apart c.places i j d w)

  phase-kept : (p : Phase) → Phased p c → Phased p (rewritten c i x)
  phase-kept Quiet h = tt
  phase-kept (Trial r l m) h = (h.0, rw (other r (rw h.1)) h.1)
  phase-kept (Back l m) h = h
  phase-kept (Fallen l m) h = (h.0, rw (other c.fallback (resort-done c s)) h.1)

  pub rewrites : Sound (rewritten c i x)
  rewrites =
      sets c i x c.free s o (v ∙ sym off-before) (set-alike x c.places i a ∙ s.placed.apart)
      (rewriting i x c q s.placed.room)
      (rw (other c.fallback (resort-done c s)) s.roles.resort)
      (phase-kept c.phase s.phased)

-- a profile rewritten with its AID, quota, life cycle and mark, where no change is open: it may be the enabled one
pub restates : (c : Card) (i : ℕ) (x : Isdp) → Sound c → c.phase ≡ Quiet → place_ok c.capacity x ≡ true → x.aid ≡ (at c.places i).aid → x.quota ≡ (at c.places i).quota → x.life ≡ (at c.places i).life → x.mark ≡ (at c.places i).mark → Sound (rewritten c i x)
restates c i x s o k a q v m =
    sets c i x c.free s k (rw v) (set-alike x c.places i a ∙ s.placed.apart)
    (rewriting i x c q s.placed.room)
    (set-unseen may_be_fall_back x c.places i (rw (v, m)) c.fallback ∙ s.roles.resort)
    (rw o tt)

-- deletion of a profile that may be deleted, where no change is open
pub deletes : (c : Card) (i : ℕ) → Sound c → c.phase ≡ Quiet → may_be_deleted c i ≡ true → Sound (cleared c i)
deletes c i s o m =
    let l = c.places in
    let d = deletable c i m in
    sets c i _ _ s (none-ok c.capacity) (sym d.off) (clear-distinct l i s.placed.apart)
    (deletion i c s.placed.room)
    (rw (get_or-set_other l i c.fallback vacant vacant (λ q. d.apart (sym q))) s.roles.resort)
    (rw o tt)

-- another profile that may be the fall-back, where no change is open
pub refalls : (c : Card) (i : ℕ) → Sound c → c.phase ≡ Quiet → may_be_fall_back (at c.places i) ≡ true → Sound (with_fallback c i)
refalls c i s o d =
    let z = s.sizes in
    let p = s.placed in
    record {
      sizes = record { named = z.named; full = z.full; numbered = z.numbered; some = z.some; most = z.most };
      placed = record { each = p.each; apart = p.apart; room = p.room };
      roles = record { one = s.roles.one; resort = d; listing = refl };
      phased = rw o tt;
    }

confirm-case : (c : Card) (p : Phase) → Sound c → Phased p c → Sound (confirm_in p c)
confirm-case c Quiet s h = rephased c Quiet s tt
confirm-case c (Trial q l m) s h =
    cond_both (dropped c q) _ _ Sound
    (λ b. deletes (with_phase c Quiet) q (rephased c Quiet s tt) refl (rw h.1 (and_r (once_disabled (at c.places q).policy) _ b)))
    (λ b. rephased c Quiet s tt)
confirm-case c (Back l m) s h = rephased c Quiet s tt
confirm-case c (Fallen l m) s h = rephased c Quiet s tt

pub confirm-sound : (c : Card) → sound c ≡ true → sound (confirm_of c) ≡ true
unfolding confirm_of
confirm-sound c s = whole _ (confirm-case c c.phase (parts c s) (parts c s).phased)
