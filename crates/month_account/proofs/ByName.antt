-- The text of each refusal, by computing; of a file, by its verdict. Assumes nothing.
use Prim.Native.Nat.{ℕ}
use mathlib.Core.Path.{◌≡◌, refl, ◌∙◌}
use mathlib.Core.List.{List}
use mathlib.Core.Bool.{true, false}
use Rattle.base_choice.specs.Choice.{pick}
use Rattle.month_file.specs.File.{Verdict.Refused, verdict_of}
use Rattle.month_file.specs.declared.Refusal.{Refusal}
use Rattle.month_account.specs.Refusals.{line_text, refusal_text}
use Rattle.month_account.specs.Account.{account_text}
use Rattle.month_account.specs.ByName.{RefusedByName}
use Rattle.month_account.proofs.Told.{told}

-- the two texts of a refusal are what is written of a file
by_name : {r : Refusal} {plain explained : List ℕ} → refusal_text false r ≡ plain → refusal_text true r ≡ explained → (s : List ℕ) → verdict_of s ≡ Refused r → (account_text false s ≡ plain) × (account_text true s ≡ explained)
by_name {r} e f s h = (told.refused false s r h ∙ e, told.refused true s r h ∙ f)

pub refused-by-name : RefusedByName
unfolding refusal_text line_text pick
refused-by-name =
    record {
      contents-wrong = by_name refl refl;
      section-missing = by_name refl refl;
      fresh-inputs-bad = by_name refl refl;
      event-cut-short = by_name refl refl;
      event-of-unknown-kind = by_name refl refl;
      event-of-wrong-length = by_name refl refl;
    }
