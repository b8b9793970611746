-- What is written of a line of the script that cannot be read: its number, and what is wrong with it.
use Rattle.std.specs.Prelude.{ℕ, List, ◌++◌}
use Rattle.text_words.specs.Numbers.{decimal_text}
use Rattle.script_words.specs.declared.Reason.{Reason}
use Rattle.script_words.specs.declared.Reason.TheVariants.{TooLong, UnknownWord, WordsMissing, TooManyWords, BadHex, BadNumber, BadPlace, BadPhase}
use Rattle.text_words.specs.Letters.{text}

-- one reason is told, the first that is wrong (decision B23)
abbrev pub reason_text : Reason → List ℕ
reason_text TooLong = text "too long"
reason_text UnknownWord = text "unknown word"
reason_text WordsMissing = text "words missing"
reason_text TooManyWords = text "too many words"
reason_text BadHex = text "bad hex"
reason_text BadNumber = text "bad number"
reason_text BadPlace = text "bad place"
reason_text BadPhase = text "bad phase"

unfoldable pub reason_line : ℕ → Reason → List ℕ
reason_line n reason = text "line " ++ decimal_text n ++ text ": " ++ reason_text reason ++ text "\n"

-- 42 bytes at the most, where a number has 64 bits
abbrev pub most_fault : ℕ
most_fault = 42
