-- What holds of an accepted file: every row of the table was passed. By the rows in their order.
use Prim.Native.Nat.{ℕ, ◌≤◌}
use mathlib.Core.Path.{◌≡◌, refl, sym}
use mathlib.Core.List.{List, [], ◌∷◌}
use mathlib.Core.Bool.{Bool, true, false, not, cond, false≢true}
use Rattle.std.specs.Prelude.{Option, Some, None, Ok}
use native.Mathlib.Omega.{arith}
use lib.ListN.{length}
use lib.Dec.{ltb}
use borrow.Author.Tests.{ltb-false, not-false}
use Rattle.std.proofs.lemmas.Bool.{or_parts}
use Rattle.base_choice.specs.Choice.{pick}
use Rattle.base_status.specs.StatusWords.{is_done}
use Rattle.card_record.specs.Sound.{sound}
use Rattle.card_record.proofs.Freshness.{fresh-sound}
use Rattle.month_contents.specs.Contents.{most_file, fresh_kind, events_kind, contents_wrong, section_of}
use Rattle.base_bytes.specs.declared.Part.{Part}
use Rattle.month_events.specs.Events.{cut_short, kind_unknown, wrong_length, checked_of}
use Rattle.month_file.specs.Inputs.{inputs_of, fresh_answer, fresh_bad}
use Rattle.month_file.specs.File.{is_missing, part_in, body_of, Verdict.Accepted, Verdict.Refused, RefusalRow, refusal_rows, first_of, verdict_of}
use Rattle.month_file.specs.Refusals.{NoneRefuses}

passed-case : (r : RefusalRow) (rs : List RefusalRow) (b : Bool) → r.when ≡ b → cond b (Refused r.refusal) (first_of rs) ≡ Accepted → (first_of rs ≡ Accepted → NoneRefuses rs) → NoneRefuses (r ∷ rs)
passed-case r rs true q e f = let z : ◌≡◌ {A = ℕ} 0 1 = cc in absurd (omega arith)
passed-case r rs false q e f = (q, f e)

pub passed : (rs : List RefusalRow) → first_of rs ≡ Accepted → NoneRefuses rs
unfolding first_of
passed [] e = tt
passed (r ∷ rs) e = passed-case r rs r.when refl e (passed rs)

pub none-refuses : (rs : List RefusalRow) → NoneRefuses rs → first_of rs ≡ Accepted
unfolding first_of
none-refuses [] p = refl
none-refuses (r ∷ rs) p = rw p.0 (none-refuses rs p.1)

-- a section that is not missing has a body
pub listed : (x : Option Part) → is_missing x ≡ false → x ≡ Some (part_in x)
listed (Some p) e = refl
listed None e = absurd (false≢true (sym e))

-- the whole of an accepted file, by name
pub record Accepting (s : List ℕ) : Type 0 where
  pub size : length s ≤ most_file
  pub contents : contents_wrong s ≡ false
  pub fresh-listed : section_of s fresh_kind ≡ Some (part_in (section_of s fresh_kind))
  pub events-listed : section_of s events_kind ≡ Some (part_in (section_of s events_kind))
  pub enough : 32 ≤ length (body_of s fresh_kind)
  pub made : is_done (fresh_answer (body_of s fresh_kind)).status ≡ true
  pub sound-card : sound (fresh_answer (body_of s fresh_kind)).card ≡ true
  pub right : checked_of (body_of s events_kind) ≡ Ok tt

size_of : (s : List ℕ) → contents_wrong s ≡ false → length s ≤ most_file
unfolding contents_wrong
size_of s e = ltb-false most_file (length s) (or_parts (ltb most_file (length s)) _ e).0

fresh-of : (f : List ℕ) → fresh_bad f ≡ false → (32 ≤ length f) × (is_done (fresh_answer f).status ≡ true)
unfolding fresh_bad
fresh-of f e =
    let p = or_parts (ltb (length f) 32) (not (is_done (fresh_answer f).status)) e in
    (ltb-false (length f) 32 p.0, not-false _ p.1)

sound-of : (f : List ℕ) → is_done (fresh_answer f).status ≡ true → sound (fresh_answer f).card ≡ true
unfolding fresh_answer
sound-of f e = let x = inputs_of f in fresh-sound x.eid x.aid x.capacity x.quota x.used x.volatile e

right_of : (b : List ℕ) → cut_short b ≡ false → kind_unknown b ≡ false → wrong_length b ≡ false → checked_of b ≡ Ok tt
unfolding checked_of pick
right_of b e f g = rw (e, f, g)

pub accepted : (s : List ℕ) → verdict_of s ≡ Accepted → Accepting s
accepted s e =
    let p = passed (refusal_rows s) e in
    let m = or_parts (is_missing (section_of s fresh_kind)) (is_missing (section_of s events_kind)) p.1.0 in
    let f = fresh-of (body_of s fresh_kind) p.1.1.0 in
    let r = p.1.1.1 in
    record {
      size = size_of s p.0;
      contents = p.0;
      fresh-listed = listed (section_of s fresh_kind) m.0;
      events-listed = listed (section_of s events_kind) m.1;
      enough = f.0;
      made = f.1;
      sound-card = sound-of (body_of s fresh_kind) f.1;
      right = right_of (body_of s events_kind) r.0 r.1.0 r.1.1.0;
    }
