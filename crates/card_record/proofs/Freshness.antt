-- A fresh card that is accepted is sound, and the record of zeros is not. The parts are computed, place by place. Assumes nothing.
use mathlib.Core.Path.{◌≡◌, refl}
use Prim.Native.Nat.{ℕ, ◌+◌, ◌-◌, ◌≤◌}
use native.Mathlib.Omega.{arith}
use mathlib.Core.List.{List, [], ◌∷◌}
use mathlib.Core.Bool.{Bool, true, false, not}
use lib.ListN.{length, replicate}
use lib.Dec.{leb, eqb}
use borrow.Author.Tests.{eqb-true, leb-true, not-false}
use Rattle.base_status.specs.StatusWords.{is_done}
use Rattle.base_status.specs.Rows.{row, word_of}
use Rattle.base_status.specs.declared.Status.TheVariants.{DataWrong, Done}
use Rattle.base_status.proofs.Tables.{passed}
use Rattle.card_isdp.specs.Sizes.{most_places, eid_size, most_capacity}
use Rattle.card_isdp.specs.Aids.{aid_ok, no_aid}
use Rattle.card_isdp.specs.LifeCycle.{enabled, is_enabled}
use Rattle.card_isdp.specs.Place.{vacant, is_for, zeros, place_ok, clash}
use Rattle.card_isdp.specs.declared.Isdp.{Isdp}
use Rattle.card_isdp.proofs.Bools.{and_l, and_r}
use Rattle.card_isdp.proofs.Alike.{clash-none}
use Rattle.card_isdp.proofs.Placed.{made_ok}
use Rattle.card_places.specs.Places.{quotas, all_of, any_of, count_of, distinct}
use Rattle.card_record.specs.Sound.{sound}
use Rattle.card_record.specs.Steps.{step_to}
use Rattle.card_record.specs.Fresh.{zero_card, fresh_profile, fresh_card, fresh_ok, fresh_outcome}
use Rattle.card_record.proofs.Sounds.{Sound, whole}
use Rattle.card_record.proofs.Outcomes.{took, accepted-card}

rest_ok : (k : ℕ) → all_of (place_ok k) (replicate (most_places - 1) vacant) ≡ true
unfolding all_of place_ok zeros
rest_ok k = refl

rest-apart : distinct (replicate (most_places - 1) vacant) ≡ true
unfolding distinct any_of clash is_for
rest-apart = refl

rest_clash : (p : Isdp) → any_of (clash p) (replicate (most_places - 1) vacant) ≡ false
unfolding any_of
rest_clash p = rw (clash-none p)

all_two : (t : Isdp → Bool) (p : Isdp) (ps : List Isdp) → t p ≡ true → all_of t ps ≡ true → all_of t (p ∷ ps) ≡ true
unfolding all_of
all_two t p ps e f = rw (e, f)

distinct-two : (p : Isdp) (ps : List Isdp) → any_of (clash p) ps ≡ false → distinct ps ≡ true → distinct (p ∷ ps) ≡ true
unfolding distinct
distinct-two p ps e f = rw (e, f)

one_on : (aid : List ℕ) (quota used : ℕ) → count_of is_enabled (fresh_profile aid quota used ∷ replicate (most_places - 1) vacant) ≡ 1
unfolding count_of
one_on aid quota used = refl

room_of : (aid : List ℕ) (quota used k : ℕ) → quota ≤ k → (k - quota) + quotas (fresh_profile aid quota used ∷ replicate (most_places - 1) vacant) ≡ k
unfolding quotas
room_of aid quota used k h = omega arith

pub fresh-parts : (eid aid : List ℕ) (capacity quota used volatile : ℕ) → fresh_ok eid aid capacity quota used ≡ true → Sound (fresh_card eid aid capacity quota used volatile)
fresh-parts eid aid capacity quota used volatile f =
    let e = and_r (eqb (length eid) eid_size) _ f in
    let a = and_l (aid_ok aid) _ e in
    let h1 = and_r (aid_ok aid) _ e in
    let h2 = and_r (leb 1 capacity) _ h1 in
    let h3 = and_r (leb capacity most_capacity) _ h2 in
    let h4 = and_r (leb 1 quota) _ h3 in
    let p = fresh_profile aid quota used in
    record {
      sizes = record { named = eqb-true (length eid) eid_size (and_l _ _ f); full = refl; numbered = omega arith; some = leb-true 1 capacity (and_l _ _ h1); most = leb-true capacity most_capacity (and_l _ _ h2) };
      placed = record {
        each = all_two (place_ok capacity) p (replicate (most_places - 1) vacant) (made_ok aid enabled quota used a capacity 1 refl refl (and_l _ _ h3) (and_l _ _ h4) (and_r (leb quota capacity) _ h4)) (rest_ok capacity);
        apart = distinct-two p (replicate (most_places - 1) vacant) (rest_clash p) rest-apart;
        room = room_of aid quota used capacity (leb-true quota capacity (and_l _ _ h4));
      };
      roles = record { one = one_on aid quota used; resort = refl; listing = refl };
      phased = tt;
    }

pub fresh-sound : (eid aid : List ℕ) (capacity quota used volatile : ℕ) → is_done (fresh_outcome eid aid capacity quota used volatile).status ≡ true → sound (fresh_outcome eid aid capacity quota used volatile).card ≡ true
unfolding fresh_outcome
fresh-sound eid aid capacity quota used volatile h =
    let d = fresh_card eid aid capacity quota used volatile in
    let rows = row (not (fresh_ok eid aid capacity quota used)) DataWrong ∷ [] in
    let t = took zero_card (word_of Done rows) (step_to zero_card d no_aid) [] h in
    let p = passed Done rows refl t.0 in
    rw (t.1, accepted-card (word_of Done rows) (step_to zero_card d no_aid) []) (whole d (fresh-parts eid aid capacity quota used volatile (not-false _ p.0)))

-- the record of zeros
pub zero-unsound : sound zero_card ≡ false
unfolding sound
zero-unsound = refl
