-- GET STATUS and GET DATA: no row refuses them but "target AID not held", and the rows of the response, one after the other, are those of
-- the places from the lowest. By induction over the places. Assumes nothing.
use mathlib.Core.Path.{◌≡◌, refl, sym, ap, subst, ◌∙◌}
use Prim.Native.Nat.{ℕ, zero, suc, ◌+◌, ◌-◌, ◌≤◌, ◌<◌}
use native.Mathlib.Numerals.{add-one}
use native.Mathlib.Omega.{arith}
use mathlib.Core.List.{List, [], ◌∷◌, ◌++◌, append_assoc, append_cancel_right, append-nil}
use mathlib.Core.Bool.{Bool, true, false, cond, or-true}
use lib.ListN.{length, drop_of_length-le}
use lib.Seq.{drop-cons}
use lib.Dec.{leb, eqb}
use borrow.Author.Tests.{leb-true, leb-false, eqb-true, eq-eqb, ne_eqb, eqb-false}
use Rattle.base_status.specs.declared.Status.{Status}
use Rattle.base_status.specs.declared.Status.TheVariants.{NotHeld, More, Done}
use Rattle.card_isdp.specs.Aids.{no_aid}
use Rattle.card_isdp.specs.Place.{vacant, held}
use Rattle.card_record.specs.Cards.{no_place, keeping, place_of}
use Rattle.card_record.specs.Sound.{kept_ok, sound}
use Rattle.card_record.specs.Steps.{step_to}
use Rattle.card_record.specs.Answers.{accepted, outcome}
use Rattle.card_record.specs.declared.Card.{Card}
use Rattle.card_record.proofs.Free.{sound-card}
use Rattle.card_record.proofs.Sounds.{parts}
use Rattle.rule_responses.specs.Responses.{attribute_of, status_body, status_row, row_of, row_size, rows_from, listing_from, part_given, next_row_after, one_status, data_response}
use Rattle.rule_responses.proofs.Rows.{row_sized}
use Rattle.rule_responses.proofs.Parts.{Given, Given.all, Given.some, given, part-short}
use Rattle.rule_steps.specs.Asked.{Act.status, Asked.on, Asked.status_of_all, Asked.get_data}
use Rattle.rule_steps.specs.Laws.Answer.{profile_at, Still}
use Rattle.rule_steps.specs.Laws.Words.{◌when◌, ◌unless◌, InThisOrder, IsHeld}
use Rattle.rule_steps.specs.Steps.{begins_at, goes_on_at, part_word, asked_work}
use Rattle.rule_steps.specs.Laws.Reports.{status_at, status_from, Listed, PartAnswers, PartAnswers.to-the-last, PartAnswers.up_to, StatusOfAllLaw, StatusOfNextLaw, StatusOfOneLaw, GetDataLaw}
use Rattle.rule_steps.proofs.Rows.{Passed}
use Rattle.rule_steps.proofs.Successes.{part-done}
use Rattle.rule_steps.proofs.Laws.Answer.{asked-passed, asked-taken-as, asked-taken, command-law, held-passes, no-notice, same-ticks, still}
use Rattle.rule_steps.proofs.Laws.Words.{by_rows, no_more, skip, by-when, is_held}

-- the row of one place
row_is : (c : Card) (life attribute : Bool) (k : ℕ) → row_of (profile_at c k) (attribute_of c.fallback k) life attribute ≡ cond (held (profile_at c k)) (status_at c life attribute k) []
unfolding row_of status_row status_body
row_is c life attribute k = refl

-- the rows of so many places from one on, and those that follow, are the listing from there
rows_step : (c : Card) (life attribute : Bool) (k : ℕ) → k < length c.places → listing_from c k life attribute ≡ cond (held (profile_at c k)) (status_at c life attribute k) [] ++ listing_from c (k + 1) life attribute
unfolding listing_from rows_from
rows_step c life attribute k h = rw (drop-cons c.places k vacant, add-one, row_is c life attribute k)

from-there : (c : Card) (life attribute : Bool) (from n : ℕ) → from + n ≤ length c.places → listing_from c from life attribute ≡ status_from c life attribute from n ++ listing_from c (from + n) life attribute
unfolding status_from
from-there c life attribute from zero h = let e : from + 0 ≡ from = omega arith in rw e
from-there c life attribute from (suc n) h =
    let e : from + suc n ≡ from + n + 1 = omega arith in
    rw (from-there c life attribute from n (omega arith), rows_step c life attribute (from + n) (omega arith), e, append_assoc)

none-there : (c : Card) (life attribute : Bool) (k : ℕ) → length c.places ≤ k → listing_from c k life attribute ≡ []
unfolding listing_from rows_from
none-there c life attribute k h = rw (drop_of_length-le c.places h)

to_the_end : (c : Card) (life attribute : Bool) (from : ℕ) (b : Bool) → leb from (length c.places) ≡ b → listing_from c from life attribute ≡ status_from c life attribute from (length c.places - from)
unfolding status_from
to_the_end c life attribute from true e =
    let k = leb-true from (length c.places) e in
    from-there c life attribute from (length c.places - from) (omega arith)
    ∙ rw (none-there c life attribute (from + (length c.places - from)) (omega arith), append-nil)
to_the_end c life attribute from false e =
    let k = leb-false from (length c.places) e in
    let z : length c.places - from ≡ 0 = omega arith in
    rw (z, none-there c life attribute from (omega arith))

row-bytes : (c : Card) (t : ℕ) (life attribute : Bool) → held (profile_at c t) ≡ true → length (status_at c life attribute t) ≡ row_size (profile_at c t) life attribute
row-bytes c t life attribute h =
    let e : row_of (profile_at c t) (attribute_of c.fallback t) life attribute ≡ status_at c life attribute t = row_is c life attribute t ∙ rw h in
    ap length (sym e) ∙ row_sized (profile_at c t) (attribute_of c.fallback t) life attribute

one-bytes : (c : Card) (t : ℕ) (life attribute : Bool) → held (profile_at c t) ≡ true → one_status c t life attribute ≡ status_at c life attribute t
unfolding one_status
one-bytes c t life attribute h = row_is c life attribute t ∙ rw h

-- a part, begun at this place, taken with its word
module _ (c : Card) (life attribute : Bool) (from : ℕ) (s : sound c ≡ true) where
  listed : (word : Status) (kept : ℕ) (part : List ℕ) → kept_ok (keeping c kept) ≡ true → length part ≤ 255 → Listed c word kept part (accepted word (step_to c (keeping c kept) no_aid) part)
  unfolding accepted
  listed word kept part k h =
      record { status = refl; card = refl; response = refl; short = h; notification = no-notice c (keeping c kept) refl; ticks = same-ticks c kept (parts c s) k }

  part-case : (part : List ℕ) (left : ℕ) → Given c life attribute from part left → length part ≤ 255 → PartAnswers c life attribute from (accepted (part_word left) (step_to c (keeping c left) no_aid) part)
  part-case part left (all e) h =
      let q : part ≡ status_from c life attribute from (length c.places - from) = sym e ∙ to_the_end c life attribute from (leb from (length c.places)) refl in
      to-the-last (rw q (listed Done no_place _ refl (rw (← q) h)))
  part-case part left (some w e) h =
      let d : from + (left - from) ≡ left = let low = w.low in omega arith in
      let high = w.high in
      let q : part ≡ status_from c life attribute from (left - from) =
      append_cancel_right part _ (listing_from c left life attribute) (sym e ∙ from-there c life attribute from (left - from) (omega arith) ∙ rw d) in
      let o : eqb left no_place ≡ false = ne_eqb left no_place (λ z. let f = (parts c s).sizes.full in omega arith) in
      rw (o, q)
      (up_to (left - from) (omega arith) (rw d w.there) (rw (d, ← q, row-bytes c left life attribute w.there) w.full)
      (rw d (listed More left (status_from c life attribute from (left - from)) (rw w.there (or-true (eqb left no_place))) (rw (← q) h))))

  part-given : PartAnswers c life attribute from (accepted (part_word (next_row_after c from life attribute)) (step_to c (keeping c (next_row_after c from life attribute)) no_aid) (part_given c from life attribute))
  part-given = part-case (part_given c from life attribute) (next_row_after c from life attribute) (given c life attribute from) (part-short c life attribute from)

part-taken : (c : Card) (life attribute : Bool) → sound c ≡ true → (next : Bool) → Passed c (status_of_all next life attribute) → outcome c (asked_work c (status_of_all next life attribute)) ≡ accepted (part_word (goes_on_at c next life attribute)) (step_to c (keeping c (goes_on_at c next life attribute)) no_aid) (part_given c (begins_at c next) life attribute)
part-taken c life attribute s next p =
    let left = goes_on_at c next life attribute in
    asked-taken-as c (status_of_all next life attribute) (part_word left) (part-done left) refl s p

pub status-of-all-law : StatusOfAllLaw
status-of-all-law c life attribute s =
    subst (PartAnswers c life attribute 0) (sym (part-taken c life attribute s false (record { change = refl; target = refl; already = refl; state = refl; policy = refl; verdict = refl; room = refl }))) (part-given c life attribute 0 s)

status-of-next-refused : (c : Card) (life attribute : Bool) → sound c ≡ true → InThisOrder (0x6A88 when (c.kept ≡ no_place) ∷ []) (outcome c (asked_work c (status_of_all true life attribute))).status
status-of-next-refused c life attribute s =
    by_rows c (asked_work c (status_of_all true life attribute)) s (0x6A88 when (c.kept ≡ no_place) ∷ [])
    (skip (by-when NotHeld (eq-eqb _ _) (eqb-true _ _) λ q. skip (skip (skip (skip (skip (no_more (part-done (goes_on_at c true life attribute)))))))))

pub status-of-next-law : StatusOfNextLaw
status-of-next-law c life attribute s =
    record {
      taken =
          record {
            only-where = λ e. eqb-false c.kept no_place (asked-passed c (status_of_all true life attribute) e).target;
            where-may =
                λ n.
                subst (PartAnswers c life attribute c.kept)
                (sym (part-taken c life attribute s true (record { change = refl; target = ne_eqb c.kept no_place n; already = refl; state = refl; policy = refl; verdict = refl; room = refl })))
                (part-given c life attribute c.kept s);
          };
      refused = status-of-next-refused c life attribute s;
    }

status-of-one-refused : (c : Card) (aid : List ℕ) (life attribute : Bool) → sound c ≡ true → InThisOrder (0x6A88 unless IsHeld c aid ∷ []) (outcome c (asked_work c (on aid (status life attribute)))).status
status-of-one-refused c aid life attribute s =
    by_rows c (asked_work c (on aid (status life attribute))) s (0x6A88 unless IsHeld c aid ∷ [])
    (skip (is_held c aid s λ h. skip (skip (skip (skip (no_more refl))))))

pub status-of-one-law : StatusOfOneLaw
status-of-one-law c aid life attribute s =
    let t = place_of c aid in
    record {
      taken =
          command-law c aid (status life attribute) (λ i. Unit {0}) (λ i. Still c (status_at c life attribute i)) s
          (λ p. tt)
          (λ h m. (held-passes c aid (status life attribute) h refl refl refl refl refl, rw (one-bytes c t life attribute h.held-there) (still c (status_at c life attribute t) s)));
      refused = status-of-one-refused c aid life attribute s;
    }

pub get-data-law : GetDataLaw
unfolding data_response
get-data-law c s =
    rw (← (sound-card c s).as-summed)
    (subst (Still c _) (sym (asked-taken c get_data refl s (record { change = refl; target = refl; already = refl; state = refl; policy = refl; verdict = refl; room = refl }))) (still c (data_response c) s))
