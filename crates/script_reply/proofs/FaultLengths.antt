-- How long the text of a fault is, by cases of the reason; and one by computing.
use mathlib.Core.Path.{◌≡◌, refl}
use Prim.Native.Nat.{ℕ, ◌≤◌}
use native.Mathlib.Omega.{arith}
use lib.ListN.{length, length-append}
use Rattle.base_choice.specs.Choice.{pick, is_below}
use Rattle.text_words.specs.Numbers.{digits_text}
use Rattle.script_words.specs.declared.Reason.{Reason}
use Rattle.script_words.specs.declared.Reason.TheVariants.{TooLong, UnknownWord, WordsMissing, TooManyWords, BadHex, BadNumber, BadPlace, BadPhase}
use Rattle.text_words.specs.Letters.{text}
use Rattle.text_words.proofs.ColumnLaws.{decimal-length}
use Rattle.script_reply.specs.Reasons.{reason_text, reason_line, most_fault}

reason-length : (r : Reason) → length (reason_text r) ≤ 14
reason-length TooLong = omega arith
reason-length UnknownWord = omega arith
reason-length WordsMissing = omega arith
reason-length TooManyWords = omega arith
reason-length BadHex = omega arith
reason-length BadNumber = omega arith
reason-length BadPlace = omega arith
reason-length BadPhase = omega arith

pub fault-length : (n : ℕ) (r : Reason) → length (reason_line n r) ≤ most_fault
unfolding reason_line
fault-length n r = simp length-append (omega (arith, decimal-length n, reason-length r))

pub fault-line : reason_line 12 BadHex ≡ text "line 12: bad hex\n"
unfolding reason_line digits_text pick is_below
fault-line = refl
