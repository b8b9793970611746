-- The law of fresh: its test is that of the inputs' sizes, number by number; where it says yes the card is computed, and where not the record of zeros.
use mathlib.Core.Path.{◌≡◌, refl, sym, subst}
use Prim.Native.Nat.{ℕ, zero, suc, ◌≤◌}
use mathlib.Core.List.{List, []}
use mathlib.Core.Bool.{Bool, true, false, false≢true}
use lib.ListN.{length, get_or, replicate}
use lib.Seq.{take_all}
use lib.Dec.{leb, eqb}
use borrow.Author.Tests.{eq-eqb, eqb-true, le-leb, leb-true}
use Rattle.std.proofs.lemmas.Bool.{and_from}
use Rattle.base_status.specs.StatusWords.{is_done}
use Rattle.base_status.specs.Rows.{word_of}
use Rattle.base_status.specs.declared.Status.TheVariants.{DataWrong, Done}
use Rattle.card_isdp.specs.Sizes.{least_aid, eid_size, most_capacity}
use Rattle.card_isdp.specs.Aids.{padded, aid_ok}
use Rattle.card_isdp.specs.Place.{vacant}
use Rattle.card_isdp.specs.Clauses.{ZeroPlace}
use Rattle.card_isdp.proofs.Bools.{and_l, and_r}
use Rattle.card_record.specs.Sound.{sound}
use Rattle.card_record.specs.Notifications.{silent, notice_since}
use Rattle.card_record.specs.Ticks.{steps_in, ticks_to_come}
use Rattle.card_record.specs.Answers.{Outcome, refused, accepted}
use Rattle.card_record.specs.Fresh.{zero_card, fresh_profile, fresh_card, fresh_ok, fresh_outcome}
use Rattle.rule_steps.specs.Laws.Fresh.{MayBegin, Begun, Begins, Zeros, FreshLaw}

blank-at : {A : Type 0} (a : A) (n i : ℕ) → get_or (replicate n a) i a ≡ a
blank-at a zero i = refl
blank-at a (suc n) zero = refl
blank-at a (suc n) (suc i) = blank-at a n i

zero-vacant : ZeroPlace vacant
zero-vacant =
    record { aid-field = refl; aid-zero = blank-at 0 16; aid-none = refl; life-zero = refl; quota-zero = refl; used-zero = refl; policy-zero = refl; mark-zero = refl }

vacant-from : (n i : ℕ) → ZeroPlace (get_or (replicate n vacant) i vacant)
vacant-from n i = subst ZeroPlace (sym (blank-at vacant n i)) zero-vacant

module _ (eid aid : List ℕ) (capacity quota used : ℕ) where
  abbrev ok : Bool
  ok = fresh_ok eid aid capacity quota used

  abbrev May : Type 0
  May = MayBegin eid aid capacity quota used

  may : ok ≡ true → May
  may e =
      let e1 = and_r (eqb (length eid) eid_size) _ e in
      let a = and_l (aid_ok aid) _ e1 in
      let e2 = and_r (aid_ok aid) _ e1 in
      let e3 = and_r (leb 1 capacity) _ e2 in
      let e4 = and_r (leb capacity most_capacity) _ e3 in
      let e5 = and_r (leb 1 quota) _ e4 in
      record {
        eid-size = eqb-true (length eid) 16 (and_l _ _ e);
        aid-least = leb-true 5 (length aid) (and_l _ _ a);
        aid-most = leb-true (length aid) 16 (and_r (leb least_aid (length aid)) _ a);
        capacity-least = leb-true 1 capacity (and_l _ _ e2);
        capacity-most = leb-true capacity 1048576 (and_l _ _ e3);
        quota-least = leb-true 1 quota (and_l _ _ e4);
        quota-most = leb-true quota capacity (and_l _ _ e5);
        used-most = leb-true used quota (and_r (leb quota capacity) _ e5);
      }

  may-ok : May → ok ≡ true
  may-ok m =
      and_from _ _ (eq-eqb (length eid) 16 m.eid-size)
      (and_from _ _ (and_from _ _ (le-leb 5 (length aid) m.aid-least) (le-leb (length aid) 16 m.aid-most))
      (and_from _ _ (le-leb 1 capacity m.capacity-least)
      (and_from _ _ (le-leb capacity 1048576 m.capacity-most)
      (and_from _ _ (le-leb 1 quota m.quota-least)
      (and_from _ _ (le-leb quota capacity m.quota-most) (le-leb used quota m.used-most))))))

  begun : length aid ≤ 16 → Begun aid quota used (fresh_profile aid quota used)
  unfolding padded
  begun h =
      record {
        aid-bytes = rw (take_all 16 aid h) refl;
        aid-length = rw (take_all 16 aid h) refl;
        life-cycle = refl;
        quota-given = refl;
        used-given = refl;
        policy-empty = refl;
        mark_set = refl;
      }

  module _ (volatile : ℕ) where
    abbrev answer : Outcome
    answer = fresh_outcome eid aid capacity quota used volatile

    taken : ok ≡ true → answer ≡ record { status = Done; card = fresh_card eid aid capacity quota used volatile; response = []; notification = silent; ticks = 0 }
    unfolding fresh_outcome word_of accepted ticks_to_come steps_in notice_since
    taken e = rw e

    zeroed : ok ≡ false → answer ≡ record { status = DataWrong; card = zero_card; response = []; notification = silent; ticks = 0 }
    unfolding fresh_outcome word_of refused sound
    zeroed e = rw e

    only-case : (b : Bool) → ok ≡ b → is_done answer.status ≡ true → May
    only-case true e d = may e
    only-case false e d = absurd (false≢true (rw (zeroed e) at d))

    begins : May → Begins eid aid capacity quota used volatile answer
    begins m =
        subst (Begins eid aid capacity quota used volatile) (sym (taken (may-ok m)))
        (record {
          status = refl;
          eid-kept = refl;
          capacity-kept = refl;
          volatile-kept = refl;
          free = refl;
          last = refl;
          fallback = refl;
          phase = refl;
          none_kept = refl;
          place-count = refl;
          profile-made = begun m.aid-most;
          others-zero = vacant-from 31;
          response = refl;
          notification = refl;
          ticks = refl;
        })

    zeros : Zeros (record { status = DataWrong; card = zero_card; response = []; notification = silent; ticks = 0 })
    zeros =
        record {
          status = refl;
          eid = refl;
          capacity = refl;
          volatile = refl;
          free = refl;
          last = refl;
          fallback = refl;
          phase = refl;
          none_kept = refl;
          place-count = refl;
          all-zero = vacant-from 32;
          response = refl;
          notification = refl;
          ticks = refl;
        }

    other-case : (b : Bool) → ok ≡ b → (May → ⊥) → Zeros answer
    other-case true e n = absurd (n (may e))
    other-case false e n = subst Zeros (sym (zeroed e)) zeros

pub fresh-law : FreshLaw
fresh-law eid aid capacity quota used volatile =
    record {
      exactly = record { only-where = only-case eid aid capacity quota used volatile _ refl; where-may = begins eid aid capacity quota used volatile };
      otherwise = other-case eid aid capacity quota used volatile _ refl;
    }
