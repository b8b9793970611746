-- How long the texts are, so that a caller's buffer is known to be enough; the table: script_table/Lengths. Assumes nothing.
use Prim.Native.Nat.{ℕ, ◌+◌, ◌*◌, ◌/◌, ◌%◌, ◌≤◌}
use native.Mathlib.Omega.{arith}
use mathlib.Core.List.{List, [], ◌∷◌}
use lib.ListN.{length, length-append}
use Rattle.base_choice.proofs.Branches.{each-eq}
use Rattle.text_words.specs.Hex.{hex_word}
use Rattle.base_status.specs.declared.Status.{Status}
use Rattle.base_status.specs.declared.Status.TheVariants.{Unsound, BufferShort, LengthWrong, ClassWrong, InstructionWrong, ParametersWrong, DataWrong, StateWrong, NotHeld, PolicyForbids, VerdictWrong, NoRoom, More, Done}
use Rattle.card_record.specs.Notifications.{code_of}
use Rattle.card_record.specs.declared.Answer.{Answer}
use Rattle.card_record.specs.declared.Kind.{Kind}
use Rattle.card_record.specs.declared.Kind.TheVariants.{Silent, Changed, RolledBack, FallenBack}
use Rattle.card_record.specs.declared.Notification.{Notification}
use Rattle.card_record.specs.declared.Phase.{Phase}
use Rattle.card_record.specs.declared.Phase.TheVariants.{Quiet, Trial, Back, Fallen}
use Rattle.script_table.specs.Profiles.{table_text, most_table}
use Rattle.text_words.proofs.HexLaws.{hex-length}
use Rattle.text_words.proofs.ColumnLaws.{decimal-length}
use Rattle.text_aid.proofs.Lengths.{aid-length}
use Rattle.script_answer.specs.Lines.{issued_word, notice_by, notice_word, answer_line, most_answer_line}
use Rattle.script_answer.specs.Explained.{meaning_of, word_text, response_text, kind_text, issued_text, notice_in, notice_text}
use Rattle.script_answer.specs.Explained.{open_text, trial_text, phase_text, listing_text, explained_text, most_explained}

-- the answer line
word-length : (s : List ℕ) → length (hex_word s) ≤ length s * 2 + 1
unfolding hex_word
word-length [] = omega arith
word-length (b ∷ bs) = omega (arith, hex-length (b ∷ bs))

word-issued : (n : Notification) → length n.aid.bytes ≤ 16 → length (issued_word n) ≤ 40
unfolding issued_word
word-issued n h =
    let e = aid-length n.aid h in
    simp length-append (omega (arith, hex-length (code_of n.kind ∷ []), hex-length (n.number / 256 ∷ n.number % 256 ∷ [])))

notice-case : (k : Kind) (n : Notification) → length n.aid.bytes ≤ 16 → length (notice_by k n) ≤ 40
notice-case Silent n h = omega arith
notice-case Changed n h = word-issued n h
notice-case RolledBack n h = word-issued n h
notice-case FallenBack n h = word-issued n h

pub notice-length : (n : Notification) → length n.aid.bytes ≤ 16 → length (notice_word n) ≤ 40
unfolding notice_word
notice-length n h = notice-case n.kind n h

pub line-length : (a : Answer) (response : List ℕ) → length (notice_word a.notification) ≤ 40 → length (answer_line a response) ≤ length response * 2 + most_answer_line
unfolding answer_line
line-length a response h =
    simp (length-append, hex-length)
    (omega (arith, word-length response, decimal-length a.ticks))

-- the answer for a person: what stands above the table
meaning-length : (s : Status) → length (meaning_of s) ≤ 66
meaning-length Unsound = omega arith
meaning-length BufferShort = omega arith
meaning-length LengthWrong = omega arith
meaning-length ClassWrong = omega arith
meaning-length InstructionWrong = omega arith
meaning-length ParametersWrong = omega arith
meaning-length DataWrong = omega arith
meaning-length StateWrong = omega arith
meaning-length NotHeld = omega arith
meaning-length PolicyForbids = omega arith
meaning-length VerdictWrong = omega arith
meaning-length NoRoom = omega arith
meaning-length More = omega arith
meaning-length Done = omega arith

status-length : (s : Status) → length (word_text s) ≤ 73
unfolding word_text
status-length s = simp (length-append, hex-length) (omega (arith, meaning-length s))

response-length : (r : List ℕ) → length (response_text r) ≤ length r * 2 + 10
unfolding response_text
response-length [] = omega arith
response-length (b ∷ bs) = simp (length-append, hex-length) (omega arith)

kind-length : (k : Kind) → length (kind_text k) ≤ 11
kind-length Silent = omega arith
kind-length Changed = omega arith
kind-length RolledBack = omega arith
kind-length FallenBack = omega arith

issued-length : (n : Notification) → length n.aid.bytes ≤ 16 → length (issued_text n) ≤ 89
unfolding issued_text
issued-length n h =
    simp length-append
    (omega (arith, decimal-length n.number, kind-length n.kind, aid-length n.aid h))

sentence-case : (k : Kind) (n : Notification) → length n.aid.bytes ≤ 16 → length (notice_in k n) ≤ 89
sentence-case Silent n h = omega arith
sentence-case Changed n h = issued-length n h
sentence-case RolledBack n h = issued-length n h
sentence-case FallenBack n h = issued-length n h

pub sentence-length : (n : Notification) → length n.aid.bytes ≤ 16 → length (notice_text n) ≤ 89
unfolding notice_text
sentence-length n h = sentence-case n.kind n h

-- the phase, and all of it
open-length : (left number : ℕ) → length (open_text left number) ≤ 61
unfolding open_text
open-length left number = simp length-append (omega (arith, decimal-length left, decimal-length number))

phase-length : (p : Phase) → length (phase_text p) ≤ 114
unfolding phase_text trial_text
phase-length Quiet = omega arith
phase-length (Trial previous left number) = simp length-append (omega (arith, decimal-length previous, open-length left number))
phase-length (Back left number) = simp length-append (omega (arith, open-length left number))
phase-length (Fallen left number) = simp length-append (omega (arith, open-length left number))

listing-length : (kept : ℕ) → length (listing_text kept) ≤ 53
unfolding listing_text
listing-length kept =
    each-eq (λ (l : List ℕ). length l ≤ 53) (λ h. omega arith)
    (λ h. simp length-append (omega (arith, decimal-length kept)))

pub explained-length : (a : Answer) (response : List ℕ) → length (notice_text a.notification) ≤ 89 → length (table_text a.card) ≤ most_table
    → length (explained_text a response) ≤ length response * 2 + most_explained
unfolding explained_text
explained-length a response h k =
    simp length-append
    (omega (
      arith,
      status-length a.status,
      response-length response,
      phase-length a.card.phase,
      listing-length a.card.kept,
      decimal-length a.ticks,
    ))
