-- What is written of a file, by its verdict; and of one counted, by what counting it answers.
use Prim.Native.Nat.{ℕ, ◌≤◌}
use mathlib.Core.Path.{◌≡◌, refl, ap, sym, ◌∙◌}
use mathlib.Core.List.{List}
use mathlib.Core.Bool.{Bool}
use lib.ListN.{length}
use native.Mathlib.Omega.{arith}
use Rattle.std.specs.Prelude.{Result, Ok, Err}
use Rattle.base_bytes.specs.declared.writer.Writer.{Writer}
use Rattle.base_bytes.specs.Put.{Written}
use Rattle.base_bytes.proofs.PutLaws.{written_as}
use Rattle.month_file.specs.File.{Verdict, Verdict.Accepted, Verdict.Refused, verdict_of}
use Rattle.month_file.specs.declared.Refusal.{Refusal}
use Rattle.month_count.specs.Month.{Counted, month_by, counted_by, file_counted, file_month}
use Rattle.month_tally.specs.declared.Tally.{Tally}
use Rattle.month_report.specs.Report.{report_text, most_report}
use Rattle.month_account.specs.Refusals.{refusal_text, most_refusal}
use Rattle.month_account.specs.Account.{text_by, account_text, most_account}
use Rattle.month_account.specs.Statements.{AccountSays}

text-as : (explain : Bool) (s : List ℕ) (v : Verdict) → verdict_of s ≡ v → account_text explain s ≡ text_by explain v (counted_by v s)
unfolding account_text
text-as explain s v e = ap (λ (x : Verdict). text_by explain x (counted_by x s)) e

pub told : AccountSays
told =
    record {
      refused = λ explain s r e. text-as explain s (Refused r) e;
      accepted = λ explain s e. text-as explain s Accepted e;
    }

-- as the code writes it: `month` is what counting the file answers, beside its minutes
abbrev Whole : Writer → List ℕ → Writer → ℕ → Type 0
Whole w text v most = Written w text v × (length text ≤ most)

whole_as : {w v : Writer} {text : List ℕ} {most : ℕ} (more : List ℕ) → text ≡ more → most ≤ most_account → Whole w text v most → Whole w more v most_account
whole_as more e k p = (written_as more e p.0, omega (arith, ap length e, p.1))

-- the verdict, by that answer
verdict-ok : (v : Verdict) (k : Counted) {t : Tally} → Ok t ≡ month_by v k → v ≡ Accepted
verdict-ok Accepted k h = refl
verdict-ok (Refused r) k h = let z : ◌≡◌ {A = ℕ} 0 1 = cc in absurd (omega arith)

verdict-err : (v : Verdict) (k : Counted) {r : Refusal} → Err r ≡ month_by v k → v ≡ Refused r
verdict-err Accepted k h = let z : ◌≡◌ {A = ℕ} 0 1 = cc in absurd (omega arith)
verdict-err (Refused x) k h = cc

module _ (explain : Bool) (s : List ℕ) {month : Result Tally Refusal} {minutes : List ℕ} (h : (month ≡ file_month s) × (minutes ≡ (file_counted s).minutes)) where
  pub refused-written : {r : Refusal} {w v : Writer} → month ≡ Err r → Whole w (refusal_text explain r) v most_refusal → Whole w (account_text explain s) v most_account
  refused-written {r} e p = whole_as (account_text explain s) (sym (told.refused explain s r (verdict-err (verdict_of s) (file_counted s) (sym e ∙ h.0)))) (omega arith) p

  pub accepted-written : {t : Tally} {w v : Writer} → month ≡ Ok t → Whole w (report_text explain t minutes) v most_report → Whole w (account_text explain s) v most_account
  accepted-written {t} e p =
      let is = verdict-ok (verdict_of s) (file_counted s) (sym e ∙ h.0) in
      let k : file_counted s ≡ counted_by Accepted s = ap (λ (x : Verdict). counted_by x s) is in
      let both : Ok t ≡ month_by Accepted (counted_by Accepted s) = sym e ∙ h.0 ∙ ap (λ (x : Verdict). month_by x (counted_by x s)) is in
      let tally : t ≡ (counted_by Accepted s).tally = cc in
      let m = h.1 ∙ ap (λ (x : Counted). x.minutes) k in
      whole_as (account_text explain s) (rw (tally, m) (sym (told.accepted explain s is))) (omega arith) p
