-- What the program writes of a call for a person: the word and what it means, the response and the notification where there is one,
-- the profiles as a table, the phase, where a listing goes on, and the ticks to come.
use Rattle.std.specs.Prelude.{ℕ, ◌+◌, ◌/◌, ◌%◌, List, [], ◌∷◌, ◌++◌}
use Rattle.base_choice.specs.Choice.{pick, is_same}
use Rattle.text_words.specs.Hex.{hex_text, hex8}
use Rattle.text_words.specs.Numbers.{decimal_text}
use Rattle.base_status.specs.StatusWords.{number_of}
use Rattle.base_status.specs.declared.Status.{Status}
use Rattle.base_status.specs.declared.Status.TheVariants.{Unsound, BufferShort, LengthWrong, ClassWrong, InstructionWrong, ParametersWrong, DataWrong, StateWrong, NotHeld, PolicyForbids, VerdictWrong, NoRoom, More, Done}
use Rattle.card_record.specs.Cards.{no_place}
use Rattle.card_record.specs.declared.Answer.{Answer}
use Rattle.card_record.specs.declared.Kind.{Kind}
use Rattle.card_record.specs.declared.Kind.TheVariants.{Silent, Changed, RolledBack, FallenBack}
use Rattle.card_record.specs.declared.Notification.{Notification}
use Rattle.card_record.specs.declared.Phase.{Phase}
use Rattle.card_record.specs.declared.Phase.TheVariants.{Quiet, Trial, Back, Fallen}
use Rattle.text_words.specs.Letters.{text}
use Rattle.text_aid.specs.AidText.{aid_text}
use Rattle.script_table.specs.Profiles.{table_text, most_table}

-- the word, and what it means (decisions B59, B76)
abbrev pub meaning_of : Status → List ℕ
meaning_of Unsound = text "the card is not sound"
meaning_of BufferShort = text "response buffer under 256 bytes"
meaning_of LengthWrong = text "command length or length shape wrong"
meaning_of ClassWrong = text "class not known"
meaning_of InstructionWrong = text "instruction not known"
meaning_of ParametersWrong = text "P1 or P2 wrong"
meaning_of DataWrong = text "data field or values wrong, or AID already held"
meaning_of StateWrong = text "a change is open, or none is, or the target's state is wrong"
meaning_of NotHeld = text "target not held, or not the outstanding number, or no listing open"
meaning_of PolicyForbids = text "the policy forbids it"
meaning_of VerdictWrong = text "token verdict not 1"
meaning_of NoRoom = text "no free place, or no room in the memory or the quota"
meaning_of More = text "done, more rows to come"
meaning_of Done = text "done"

unfoldable pub word_text : Status → List ℕ
word_text s = hex8 (number_of s / 256) ++ text " " ++ hex8 (number_of s % 256) ++ text " " ++ meaning_of s ++ text "\n"

unfoldable pub response_text : List ℕ → List ℕ
response_text [] = []
response_text (b ∷ bs) = text "response " ++ hex_text (b ∷ bs) ++ text "\n"

abbrev pub kind_text : Kind → List ℕ
kind_text Silent = text "none"
kind_text Changed = text "changed"
kind_text RolledBack = text "rolled back"
kind_text FallenBack = text "fallen back"

-- "notification 2: rolled back, A000000001 enabled"
unfoldable pub issued_text : Notification → List ℕ
issued_text n =
    text "notification "
    ++ decimal_text n.number
    ++ text ": "
    ++ kind_text n.kind
    ++ text ", "
    ++ aid_text n.aid
    ++ text " enabled\n"

abbrev pub notice_in : Kind → Notification → List ℕ
notice_in Silent n = []
notice_in Changed n = issued_text n
notice_in RolledBack n = issued_text n
notice_in FallenBack n = issued_text n

unfoldable pub notice_text : Notification → List ℕ
notice_text n = notice_in n.kind n

-- the phase
unfoldable pub open_text : ℕ → ℕ → List ℕ
open_text left number = text "ticks left " ++ decimal_text left ++ text ", number " ++ decimal_text number ++ text "\n"

unfoldable pub trial_text : ℕ → ℕ → ℕ → List ℕ
trial_text previous left number = text "phase trial: previous at place " ++ decimal_text previous ++ text ", " ++ open_text left number

unfoldable pub phase_text : Phase → List ℕ
phase_text Quiet = text "phase quiet\n"
phase_text (Trial previous left number) = trial_text previous left number
phase_text (Back left number) = text "phase back: " ++ open_text left number
phase_text (Fallen left number) = text "phase fallen: " ++ open_text left number

-- a card that keeps no place has no listing open (decision B76)
unfoldable pub listing_text : ℕ → List ℕ
listing_text kept = pick (is_same kept no_place) [] (text "listing open: next row at place " ++ decimal_text kept ++ text "\n")

-- an empty line ends what is said of a call
unfoldable pub explained_text : Answer → List ℕ → List ℕ
explained_text a response =
    word_text a.status
    ++ response_text response
    ++ notice_text a.notification
    ++ table_text a.card
    ++ phase_text a.card.phase
    ++ listing_text a.card.kept
    ++ text "ticks to come "
    ++ decimal_text a.ticks
    ++ text "\n\n"

-- beside the table and the digits of the response it has 375 bytes at the most
abbrev pub most_explained : ℕ
most_explained = most_table + 375
