-- What the program writes of a call, on one line: SW RESPONSE NOTIFICATION TICKS. `9000 - 02:0001:A000000002 20` is
-- a success without response that changed the profile and has 20 ticks still to come.
use Rattle.std.specs.Prelude.{ℕ, ◌/◌, ◌%◌, List, [], ◌∷◌, ◌++◌}
use Rattle.text_words.specs.Hex.{hex_text, hex_word, hex8}
use Rattle.text_words.specs.Numbers.{decimal_text}
use Rattle.base_status.specs.StatusWords.{number_of}
use Rattle.card_record.specs.Notifications.{code_of}
use Rattle.card_record.specs.declared.Answer.{Answer}
use Rattle.card_record.specs.declared.Kind.{Kind}
use Rattle.card_record.specs.declared.Kind.TheVariants.{Silent, Changed, RolledBack, FallenBack}
use Rattle.card_record.specs.declared.Notification.{Notification}
use Rattle.text_words.specs.Letters.{text}
use Rattle.text_aid.specs.AidText.{aid_text}

-- a number of two bytes as four hex digits
abbrev pub hex16 : ℕ → List ℕ
hex16 n = hex_text (n / 256 ∷ n % 256 ∷ [])

-- KIND:NUMBER:AID
unfoldable pub issued_word : Notification → List ℕ
issued_word n = hex8 (code_of n.kind) ++ text ":" ++ hex16 n.number ++ text ":" ++ aid_text n.aid

-- no notification is `-`
abbrev pub notice_by : Kind → Notification → List ℕ
notice_by Silent n = text "-"
notice_by Changed n = issued_word n
notice_by RolledBack n = issued_word n
notice_by FallenBack n = issued_word n

unfoldable pub notice_word : Notification → List ℕ
notice_word n = notice_by n.kind n

unfoldable pub answer_line : Answer → List ℕ → List ℕ
answer_line a response =
    hex16 (number_of a.status)
    ++ text " "
    ++ hex_word response
    ++ text " "
    ++ notice_word a.notification
    ++ text " "
    ++ decimal_text a.ticks
    ++ text "\n"

-- a line has 69 bytes at the most beside the digits of the response, where a number has 64 bits
abbrev pub most_answer_line : ℕ
most_answer_line = 69
