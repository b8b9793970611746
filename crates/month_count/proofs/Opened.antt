-- A file that was opened: refused, nothing is counted; accepted, it may be counted, and the count of its card and its events is the file's.
-- By the verdict, which the opened file has.
use Prim.Native.Nat.{ℕ, ◌≤◌}
use mathlib.Core.Path.{◌≡◌, refl, ap, sym, ◌∙◌}
use mathlib.Core.List.{List}
use lib.ListN.{length, drop, length-take, length-drop}
use native.Mathlib.Omega.{arith}
use Rattle.std.specs.Prelude.{Result, Ok, Err}
use Rattle.base_bytes.specs.Bytes.{part_of}
use Rattle.base_bytes.specs.declared.Part.{Part}
use Rattle.month_contents.specs.Contents.{events_kind}
use Rattle.month_events.specs.Events.{events_of, calls_of}
use Rattle.month_file.specs.File.{body_of, Verdict, Verdict.Accepted, Verdict.Refused, verdict_of, opened_by, opened_of}
use Rattle.month_file.specs.Refusals.{verdict_in, card_in, events_in}
use Rattle.month_file.specs.declared.Opened.{Opened}
use Rattle.month_file.specs.declared.Refusal.{Refusal}
use Rattle.month_file.proofs.Accepted.{accepted}
use Rattle.month_file.proofs.Opening.{opened-verdict, opened-as}
use Rattle.month_tally.specs.Lines.{no_minutes}
use Rattle.month_tally.specs.declared.Tally.{Tally}
use Rattle.month_count.specs.Month.{Counted, at_first, counting, file_card, month_of, month_by, counted_by, file_counted, file_month}
use Rattle.month_count.specs.Loop.{Countable}

-- a part has no more bytes than the string
part-short : (s : List ℕ) (p : Part) → length (part_of s p) ≤ length s
part-short s p = omega (arith, length-take p.len (drop p.start s), length-drop p.start s)

-- the file's month and minutes, where the verdict is known
told-as : (s : List ℕ) (v : Verdict) {m : Result Tally Refusal} {minutes : List ℕ} → verdict_of s ≡ v → m ≡ month_by v (counted_by v s) → minutes ≡ (counted_by v s).minutes
    → (m ≡ file_month s) × (minutes ≡ (file_counted s).minutes)
told-as s v h f g = (
  f ∙ ap (λ (x : Verdict). month_by x (counted_by x s)) (sym h),
  g ∙ ap (λ (x : Verdict). (counted_by x s).minutes) (sym h),
)

module _ (s : List ℕ) {q : Result Opened Refusal} (e : q ≡ opened_of s) where
  verdict-is : verdict_of s ≡ verdict_in q
  verdict-is = sym (opened-verdict s) ∙ ap verdict_in (sym e)

  pub month-refused : {r : Refusal} {m : Result Tally Refusal} → q ≡ Err r → m ≡ Err r → (m ≡ file_month s) × (no_minutes ≡ (file_counted s).minutes)
  month-refused {r} h f = told-as s (Refused r) (verdict-is ∙ ap verdict_in h) f refl

  module _ {o : Opened} (h : q ≡ Ok o) {b : List ℕ} (body : b ≡ part_of s o.events) where
    accepted-is : verdict_of s ≡ Accepted
    accepted-is = verdict-is ∙ ap verdict_in h

    opened-is : Ok o ≡ opened_by Accepted s
    opened-is = sym h ∙ e ∙ sym (opened-as s Accepted (sym accepted-is))

    card-is : o.card ≡ file_card s
    card-is = ap card_in opened-is

    body_is : b ≡ body_of s events_kind
    body_is = body ∙ ap (λ (x : Result Opened Refusal). part_of s (events_in x)) opened-is

    pub countable : Countable o.card b no_minutes
    countable =
        let a = accepted s accepted-is in
        record {
          sound-card = rw card-is a.sound-card;
          right = rw body_is a.right;
          short = omega (arith, ap length body, part-short s o.events, a.size);
          clear = refl;
        }

    pub month-accepted : {t : Tally} {minutes : List ℕ}
        → (t ≡ (counting o.card (calls_of (events_of b)) (at_first o.card)).tally) × (minutes ≡ (counting o.card (calls_of (events_of b)) (at_first o.card)).minutes)
        → (Ok t ≡ file_month s) × (minutes ≡ (file_counted s).minutes)
    month-accepted p =
        let same : counting o.card (calls_of (events_of b)) (at_first o.card) ≡ month_of s = rw (card-is, body_is) in
        told-as s Accepted accepted-is (ap Ok (p.0 ∙ ap (λ (k : Counted). k.tally) same)) (p.1 ∙ ap (λ (k : Counted). k.minutes) same)
