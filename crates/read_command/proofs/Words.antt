-- The word that reading gives is that of the rows, and the rows' word is framing's in numbers.
use Prim.Native.Nat.{ℕ}
use mathlib.Core.Path.{◌≡◌, ap, ◌∙◌}
use mathlib.Core.List.{List}
use Rattle.base_status.specs.StatusWords.{number_of}
use Rattle.base_status.specs.Rows.{word_of}
use Rattle.base_status.specs.declared.Status.TheVariants as status
use Rattle.read_frame.specs.Framing.{length_wrong, class_wrong, instruction_wrong, parameters_wrong, shape_wrong}
use Rattle.read_frame.proofs.Answers as answers
use Rattle.read_frame.proofs.Headers.{framing-words}
use Rattle.read_command.specs.Requests.{field_of, data_wrong}
use Rattle.read_command.specs.Reading.{reading_rows, read_of, reading_word}
use Rattle.read_command.specs.Words.{ReadingWords}

rows-word : (s : List ℕ) (capacity : ℕ) → reading_word (read_of s capacity) ≡ word_of status.Done (reading_rows s capacity)
unfolding read_of data_wrong
rows-word s capacity =
    answers.rows-word (length_wrong s) (class_wrong s) (instruction_wrong s) (parameters_wrong s) (shape_wrong s) (field_of s capacity)

pub reading-words : ReadingWords
reading-words s capacity b = ap number_of (rows-word s capacity) ∙ framing-words s (data_wrong s capacity) b
