-- How long the text of a refusal is, by cases of the refusal.
use Prim.Native.Nat.{◌≤◌}
use mathlib.Core.Bool.{Bool, true, false}
use native.Mathlib.Omega.{arith}
use lib.ListN.{length, length-append}
use Rattle.base_choice.specs.Choice.{pick}
use Rattle.month_file.specs.declared.Refusal.{Refusal}
use Rattle.month_file.specs.declared.Refusal.TheVariants.{ContentsWrong, SectionMissing, FreshBad, CutShort, UnknownKind, WrongLength}
use Rattle.month_account.specs.Refusals.{name_text, meaning_text, line_text, refusal_text, most_refusal}

name-length : (r : Refusal) → length (name_text r) ≤ 21
name-length ContentsWrong = omega arith
name-length SectionMissing = omega arith
name-length FreshBad = omega arith
name-length CutShort = omega arith
name-length UnknownKind = omega arith
name-length WrongLength = omega arith

meaning-length : (r : Refusal) → length (meaning_text r) ≤ 77
meaning-length ContentsWrong = omega arith
meaning-length SectionMissing = omega arith
meaning-length FreshBad = omega arith
meaning-length CutShort = omega arith
meaning-length UnknownKind = omega arith
meaning-length WrongLength = omega arith

line-length : (r : Refusal) → length (line_text r) ≤ 31
unfolding line_text
line-length r = simp length-append (omega (arith, name-length r))

pub refusal-length : (explain : Bool) (r : Refusal) → length (refusal_text explain r) ≤ most_refusal
unfolding refusal_text pick
refusal-length true r = simp length-append (omega (arith, line-length r, meaning-length r))
refusal-length false r = omega (arith, line-length r)
