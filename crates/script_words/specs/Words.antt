-- Reading a line's words one after the other: a value that was read, and the place that the words are then at, as one answer.
use Rattle.std.specs.Prelude.{ℕ, List, Result, Ok, Err}
use Rattle.text_words.specs.Words.{word_at, on_word}
use Rattle.text_words.specs.declared.words.Span.{Span}
use Rattle.script_words.specs.declared.Reason.{Reason}
use Rattle.script_words.specs.declared.Reason.TheVariants.{WordsMissing}
use Rattle.script_words.specs.declared.Read.{Read}
use Rattle.script_words.specs.declared.Words.{Words}

-- a value with the place after it; a reason has none
abbrev pub read_to : {A : Type 0} → Result A Reason → ℕ → Result (Read A) Reason
read_to (Err why) at = Err why
read_to (Ok a) at = Ok (record { value = a; next = at })

-- the words past the next one; where there is none, they stay
abbrev pub moved : Words → Words
moved w = record { line = w.line; at = on_word (word_at w.line.now w.at) w.at (λ a e. e) }

-- the next word, and this is the place after it
unfoldable pub word_next : List ℕ → ℕ → Result (Read Span) Reason
word_next s at = on_word (word_at s at) (Err WordsMissing) λ a e. Ok (record { value = record { from = a; to = e }; next = e })
