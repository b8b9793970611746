-- How a file is opened: a row of the table that holds after rows that do not gives the file's answer, and an accepted file passed every row.
-- By the rows in their order; the last three are what the walk over the events tells (`one-order`).
use Prim.Native.Nat.{ℕ, ◌≤◌, ◌<◌}
use mathlib.Core.Path.{◌≡◌, refl, sym, ap, ◌∙◌}
use mathlib.Core.List.{List, [], ◌∷◌}
use mathlib.Core.Bool.{Bool, true, false}
use native.Mathlib.Omega.{arith}
use Rattle.std.specs.Prelude.{Option, Some, None, Result, Ok, Err}
use Rattle.std.specs.Option.{ok_or}
use Rattle.std.specs.Result.{IsErrAnd}
use lib.ListN.{length}
use borrow.Author.Tests.{lt-ltb, le-ltb}
use Rattle.base_bytes.specs.Bytes.{part_of}
use Rattle.base_bytes.specs.declared.Part.{Part}
use Rattle.base_choice.specs.Choice.{pick}
use Rattle.base_status.specs.StatusWords.{is_done}
use Rattle.month_contents.specs.Contents.{fresh_kind, events_kind, contents_wrong, section_of}
use Rattle.month_events.specs.Events.{cut_short, kind_unknown, wrong_length, checked_of}
use Rattle.month_events.specs.declared.EventsWrong.{EventsWrong}
use Rattle.month_events.specs.declared.EventsWrong.TheVariants as events
use Rattle.month_file.specs.Inputs.{fresh_answer, fresh_bad}
use Rattle.month_file.specs.File.{Verdict, Verdict.Accepted, Verdict.Refused, refusal_row, first_of, verdict_of, opened_by, opened_of}
use Rattle.month_file.specs.Refusals.{refusal_for, verdict_for, verdict_in, OneOrder}
use Rattle.month_file.specs.declared.Refusal.TheVariants.{ContentsWrong, SectionMissing, FreshBad, CutShort, UnknownKind, WrongLength}

last-rows : (cut unknown wrong : Bool) → first_of (refusal_row cut CutShort ∷ refusal_row unknown UnknownKind ∷ refusal_row wrong WrongLength ∷ [])
    ≡ verdict_for (pick cut (Err events.CutShort) (pick unknown (Err events.UnknownKind) (pick wrong (Err events.WrongLength) (Ok tt))))
unfolding first_of pick
last-rows true unknown wrong = refl
last-rows false true wrong = refl
last-rows false false true = refl
last-rows false false false = refl

pub one-order : OneOrder
unfolding checked_of
one-order b = last-rows (cut_short b) (kind_unknown b) (wrong_length b)

-- what `?` hands on of a section that is not listed
pub hands-on : {A B E : Type 0} {o : Option A} {q : Result A E} {d e : E} {r : Result B E} → q ≡ ok_or o d → q ≡ Err e → IsErrAnd r (λ y. y ≡ e) → (o ≡ None) × (r ≡ Err d)
hands-on {o = None} {r = Ok x} p h k = absurd k
hands-on {o = None} {r = Err y} p h k = (refl, cc)
hands-on {o = Some x} p h k = let z : ◌≡◌ {A = ℕ} 0 1 = cc in absurd (omega arith)

-- a file whose verdict is known
pub opened-as : (s : List ℕ) (v : Verdict) → v ≡ verdict_of s → opened_by v s ≡ opened_of s
unfolding opened_of
opened-as s v e = ap (λ (w : Verdict). opened_by w s) e

module _ (s : List ℕ) where
  pub contents-stop : contents_wrong s ≡ true → Err ContentsWrong ≡ opened_of s
  unfolding first_of
  contents-stop e = opened-as s (Refused ContentsWrong) (rw e)

  module _ (passed : contents_wrong s ≡ false) where
    pub fresh-missing : section_of s fresh_kind ≡ None → Err SectionMissing ≡ opened_of s
    unfolding first_of
    fresh-missing e = opened-as s (Refused SectionMissing) (rw (passed, e))

    module _ (inputs : Part) (listed : section_of s fresh_kind ≡ Some inputs) where
      pub events-missing : section_of s events_kind ≡ None → Err SectionMissing ≡ opened_of s
      unfolding first_of
      events-missing e = opened-as s (Refused SectionMissing) (rw (passed, listed, e))

      module _ (events : Part) (also : section_of s events_kind ≡ Some events) where
        pub bad-stop : fresh_bad (part_of s inputs) ≡ true → Err FreshBad ≡ opened_of s
        unfolding first_of
        bad-stop e = opened-as s (Refused FreshBad) (rw (passed, listed, also, e))

        pub checked-stop : fresh_bad (part_of s inputs) ≡ false → (k : Result (Unit {0}) EventsWrong) → checked_of (part_of s events) ≡ k → verdict_for k ≡ verdict_of s
        unfolding first_of
        checked-stop e k q = ap verdict_for (sym q) ∙ sym (one-order (part_of s events)) ∙ rw (passed, listed, also, e)

        pub events-stop : fresh_bad (part_of s inputs) ≡ false → (wrong : EventsWrong) → checked_of (part_of s events) ≡ Err wrong → Err (refusal_for wrong) ≡ opened_of s
        events-stop e wrong q = opened-as s (Refused (refusal_for wrong)) (checked-stop e (Err wrong) q)

        pub accept : fresh_bad (part_of s inputs) ≡ false → checked_of (part_of s events) ≡ Ok tt
            → Ok (record { card = (fresh_answer (part_of s inputs)).card; events = events }) ≡ opened_of s
        accept e q = rw (← opened-as s Accepted (checked-stop e (Ok tt) q), listed, also)

-- the inputs of a fresh card are bad where they are too short or the fresh call refuses
module _ (f : List ℕ) where
  pub bad-short : length f < 32 → fresh_bad f ≡ true
  unfolding fresh_bad
  bad-short h = rw (lt-ltb (length f) 32 h)

  pub bad-refused : 32 ≤ length f → is_done (fresh_answer f).status ≡ false → fresh_bad f ≡ true
  unfolding fresh_bad
  bad-refused h e = rw (le-ltb (length f) 32 h, e)

  pub not-bad : 32 ≤ length f → is_done (fresh_answer f).status ≡ true → fresh_bad f ≡ false
  unfolding fresh_bad
  not-bad h e = rw (le-ltb (length f) 32 h, e)

-- the verdict that an opened file has is the table's
by-verdict : (v : Verdict) (s : List ℕ) → verdict_in (opened_by v s) ≡ v
by-verdict Accepted s = refl
by-verdict (Refused r) s = refl

pub opened-verdict : (s : List ℕ) → verdict_in (opened_of s) ≡ verdict_of s
unfolding opened_of
opened-verdict s = by-verdict (verdict_of s) s
