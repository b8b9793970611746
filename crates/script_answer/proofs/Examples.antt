-- What the definitions say of small cards, each by computing it: the example of the request, a refusal, a part of a listing, and answers for a person.
use mathlib.Core.Path.{◌≡◌, refl}
use Prim.Native.Nat.{ℕ}
use mathlib.Core.List.{List, [], ◌∷◌, ◌++◌}
use lib.ListN.{replicate}
use Rattle.base_choice.specs.Choice.{pick, is_below, is_same}
use Rattle.text_words.specs.Hex.{glyph_of, hex_text, hex_word}
use Rattle.text_words.specs.Numbers.{digits_text}
use Rattle.base_status.specs.declared.Status.{Status}
use Rattle.base_status.specs.declared.Status.TheVariants.{Done, More, NotHeld, Unsound}
use Rattle.card_isdp.specs.Aids.{named, padded}
use Rattle.card_isdp.specs.LifeCycle.{disabled, enabled}
use Rattle.card_isdp.specs.Profile.{profile}
use Rattle.card_isdp.specs.Place.{vacant}
use Rattle.card_record.specs.Cards.{card_with, no_place, keeping}
use Rattle.card_record.specs.Fresh.{zero_card}
use Rattle.card_record.specs.Notifications.{silent}
use Rattle.card_record.specs.declared.Answer.{Answer}
use Rattle.card_record.specs.declared.Card.{Card}
use Rattle.card_record.specs.declared.Kind.TheVariants.{Changed}
use Rattle.card_record.specs.declared.Notification.{Notification}
use Rattle.card_record.specs.declared.Phase.TheVariants.{Trial}
use Rattle.text_words.specs.Letters.{text}
use Rattle.script_answer.specs.Lines.{issued_word, notice_word, answer_line}
use Rattle.text_words.specs.Columns.{spaces, lead_of, column_text}
use Rattle.script_table.specs.Profiles.{state_text, yes_text, provisioning_text, policy_text, name_cells, figure_cells, role_cells, row_text}
use Rattle.script_table.specs.Profiles.{place_text, rows_text, widest_of, table_head, table_text}
use Rattle.script_answer.specs.Explained.{word_text, response_text, issued_text, notice_text, open_text, trial_text, phase_text, listing_text, explained_text}

abbrev aid-01 : List ℕ
aid-01 = 0xA0 ∷ 0x00 ∷ 0x00 ∷ 0x00 ∷ 0x01 ∷ []

abbrev aid-02 : List ℕ
aid-02 = 0xA0 ∷ 0x00 ∷ 0x00 ∷ 0x00 ∷ 0x02 ∷ []

-- a card with the profile `aid-01`, which has the mark, and, at place 2, the profile `aid-02`, which was enabled just now; one of no sound
-- card, with a mark of 0A, at place 3
abbrev changed : Card
changed =
    card_with (replicate 16 0) 1048576 0 979040 1 0 (Trial 0 10 1) no_place
    (profile (named aid-01) disabled 65536 4096 0 1 ∷ vacant ∷ profile (named aid-02) enabled 2000 0 4 0 ∷ profile (named aid-02) enabled 2000 0 4 0x0A ∷ [])

abbrev answered : Status → Card → Notification → ℕ → Answer
answered word card notification ticks =
    record { status = word; card = card; length = 0; notification = notification; ticks = ticks }

abbrev first-number : Notification
first-number = record { kind = Changed; number = 1; eid = replicate 16 0; aid = named aid-02 }

-- the example of the request
pub enabled-line : answer_line (answered Done changed first-number 20) [] ≡ text "9000 - 02:0001:A000000002 20\n"
unfolding answer_line notice_word issued_word hex_text hex_word glyph_of digits_text pick is_below padded
enabled-line = refl

pub refused-line : answer_line (answered NotHeld changed silent 20) [] ≡ text "6A88 - - 20\n"
unfolding answer_line notice_word hex_text hex_word glyph_of digits_text pick is_below
refused-line = refl

pub response-line : answer_line (answered Done changed silent 0) (0xE3 ∷ 0x0A ∷ []) ≡ text "9000 E30A - 0\n"
unfolding answer_line notice_word hex_text hex_word glyph_of digits_text pick is_below
response-line = refl

pub part-line : answer_line (answered More (keeping changed 2) silent 20) (0xE3 ∷ 0x0A ∷ []) ≡ text "6310 E30A - 20\n"
unfolding answer_line notice_word hex_text hex_word glyph_of digits_text pick is_below
part-line = refl

-- the same answers for a person
pub enabled-explained : explained_text (answered Done changed first-number 20) []
    ≡ text "90 00 done\n"
    ++ text "notification 1: changed, A000000002 enabled\n"
    ++ text "  place  AID         state           quota     used  fall-back  provisioning  policy\n"
    ++ text "      0  A000000001  DISABLED        65536     4096  yes        yes           none\n"
    ++ text "      2  A000000002  ENABLED          2000        0                           deleted once disabled\n"
    ++ text "      3  A000000002  ENABLED          2000        0             0A            deleted once disabled\n"
    ++ text "phase trial: previous at place 0, ticks left 10, number 1\n"
    ++ text "ticks to come 20\n"
    ++ text "\n"
unfolding explained_text word_text response_text notice_text issued_text table_text widest_of table_head rows_text place_text row_text name_cells figure_cells role_cells column_text lead_of spaces state_text yes_text provisioning_text policy_text phase_text trial_text open_text listing_text hex_text glyph_of digits_text pick is_below is_same padded
enabled-explained = refl

-- a part of a listing, and the answer where none is open
pub part-explained : explained_text (answered More (keeping changed 2) silent 20) (0xE3 ∷ 0x0A ∷ [])
    ≡ text "63 10 done, more rows to come\n"
    ++ text "response E30A\n"
    ++ text "  place  AID         state           quota     used  fall-back  provisioning  policy\n"
    ++ text "      0  A000000001  DISABLED        65536     4096  yes        yes           none\n"
    ++ text "      2  A000000002  ENABLED          2000        0                           deleted once disabled\n"
    ++ text "      3  A000000002  ENABLED          2000        0             0A            deleted once disabled\n"
    ++ text "phase trial: previous at place 0, ticks left 10, number 1\n"
    ++ text "listing open: next row at place 2\n"
    ++ text "ticks to come 20\n"
    ++ text "\n"
unfolding explained_text word_text response_text notice_text table_text widest_of table_head rows_text place_text row_text name_cells figure_cells role_cells column_text lead_of spaces state_text yes_text provisioning_text policy_text phase_text trial_text open_text listing_text hex_text glyph_of digits_text pick is_below is_same padded
part-explained = refl

pub refused-explained : explained_text (answered NotHeld zero_card silent 0) []
    ≡ text "6A 88 target not held, or not the outstanding number, or no listing open\n"
    ++ text "  no profile is held\n"
    ++ text "phase quiet\n"
    ++ text "ticks to come 0\n"
    ++ text "\n"
unfolding explained_text word_text response_text notice_text table_text widest_of table_head rows_text place_text phase_text listing_text hex_text glyph_of digits_text pick is_below is_same
refused-explained = refl

pub unsound-explained : explained_text (answered Unsound zero_card silent 0) []
    ≡ text "6F 00 the card is not sound\n"
    ++ text "  no profile is held\n"
    ++ text "phase quiet\n"
    ++ text "ticks to come 0\n"
    ++ text "\n"
unfolding explained_text word_text response_text notice_text table_text widest_of table_head rows_text place_text phase_text listing_text hex_text glyph_of digits_text pick is_below is_same
unsound-explained = refl
