-- docs/SCRIPT.md, 'The lines': PHASE is `Q`, `T:PREVIOUS:LEFT:NUMBER`, `B:LEFT:NUMBER` or `F:LEFT:NUMBER`; PLACE is `-` or
-- `AID:STATE:QUOTA:USED:POLICY:MARK`, its AID of up to 16 bytes or `-`, STATE two hex digits. A field after the last one is wrong.
use Rattle.std.specs.Prelude.{ℕ, ◌+◌, List, length, Option, Some, None, Result, Ok, Err}
use Rattle.base_choice.specs.Choice.{pick, at_most}
use Rattle.base_bytes.specs.Bytes.{same_bytes}
use Rattle.text_words.specs.Words.{part, field_at, on_word}
use Rattle.text_words.specs.Numbers.{decimal_of}
use Rattle.text_words.specs.Hex.{hex_byte_of, hex_read_of, spelled}
use Rattle.text_words.specs.declared.hex.HexError.{HexError}
use Rattle.card_isdp.specs.Sizes.{most_aid}
use Rattle.card_isdp.specs.Aids.{padded}
use Rattle.card_isdp.specs.Profile.{profile}
use Rattle.card_isdp.specs.Place.{vacant}
use Rattle.card_isdp.specs.declared.Aid.{Aid}
use Rattle.card_isdp.specs.declared.Isdp.{Isdp}
use Rattle.card_record.specs.declared.Phase.{Phase}
use Rattle.card_record.specs.declared.Phase.TheVariants.{Quiet, Trial, Back, Fallen}
use Rattle.script_words.specs.Ascii.{ascii}
use Rattle.script_words.specs.Arguments.{most32, most16, most8, on_some}
use Rattle.script_words.specs.declared.Read.{Read}
use Rattle.script_record.specs.declared.colons.Open.{Open}
use Rattle.script_record.specs.declared.colons.Sizes.{Sizes}

-- `:`
abbrev pub colon : ℕ
colon = 58

abbrev pub on_field {ℓ} : {X : Type ℓ} → Option (Read ℕ) → X → (ℕ → ℕ → X) → X
on_field None x f = x
on_field (Some v) x f = f v.value v.next

abbrev pub on_open {ℓ} : {X : Type ℓ} → Option Open → X → (ℕ → ℕ → X) → X
on_open None x f = x
on_open (Some o) x f = f o.left o.number

abbrev pub on_sizes {ℓ} : {X : Type ℓ} → Option Sizes → X → (ℕ → ℕ → ℕ → ℕ → X) → X
on_sizes None x f = x
on_sizes (Some v) x f = f v.quota v.used v.policy v.mark

-- a byte string that fits, by its count of bytes
abbrev pub on_read {ℓ} : {X : Type ℓ} → Result ℕ HexError → X → (ℕ → X) → X
on_read (Ok n) x f = f n
on_read (Err why) x f = x

-- the next field is a number, and this is the place of the field after it
unfoldable pub number_field : ℕ → List ℕ → ℕ → Option (Read ℕ)
number_field most w at =
    on_word (field_at colon w at) None λ a e.
    on_some (decimal_of most (part w a e)) None λ n. Some (record { value = n; next = e + 1 })

-- LEFT:NUMBER
unfoldable pub open_fields : List ℕ → ℕ → Option Open
open_fields w at =
    on_field (number_field most8 w at) None λ left b.
    on_field (number_field most16 w b) None λ number c.
    pick (at_most c (length w)) None (Some (record { left = left; number = number }))

-- PREVIOUS:LEFT:NUMBER
unfoldable pub trial_fields : List ℕ → ℕ → Option Phase
trial_fields w at =
    on_field (number_field most8 w at) None λ previous b.
    on_open (open_fields w b) None λ left number. Some (Trial previous left number)

-- PHASE
unfoldable pub phase_word : List ℕ → Option Phase
phase_word w =
    pick (same_bytes w (ascii "Q")) (Some Quiet)
    (on_word (field_at colon w 0) None λ a e.
    pick (same_bytes (part w a e) (ascii "T")) (trial_fields w (e + 1))
    (on_open (open_fields w (e + 1)) None λ left number.
    pick (same_bytes (part w a e) (ascii "B")) (Some (Back left number))
    (pick (same_bytes (part w a e) (ascii "F")) (Some (Fallen left number)) None)))

-- QUOTA:USED:POLICY:MARK: a record handed in is spelled whole (decision B59)
unfoldable pub sizes_fields : List ℕ → ℕ → Option Sizes
sizes_fields w at =
    on_field (number_field most32 w at) None λ quota b.
    on_field (number_field most32 w b) None λ used c.
    on_field (number_field most8 w c) None λ policy d.
    on_field (number_field most8 w d) None λ mark e.
    pick (at_most e (length w)) None (Some (record { quota = quota; used = used; policy = policy; mark = mark }))

-- STATE:QUOTA:USED:POLICY:MARK
unfoldable pub place_with : List ℕ → ℕ → Aid → Option Isdp
place_with w at aid =
    on_word (field_at colon w at) None λ a e.
    on_some (hex_byte_of (part w a e)) None λ life.
    on_sizes (sizes_fields w (e + 1)) None λ quota used policy mark.
    Some (profile aid life quota used policy mark)

-- PLACE
unfoldable pub place_word : List ℕ → Option Isdp
place_word w =
    pick (same_bytes w (ascii "-")) (Some vacant)
    (on_word (field_at colon w 0) None λ a e.
    on_read (hex_read_of (part w a e) most_aid) None λ n. place_with w (e + 1) (record { bytes = padded (spelled (part w a e)); len = n }))
