-- Document 01, 'Reading a command', from the writer's side: the string of each command, for every legal value, class, and Le or not.
-- Reading such a string gives the value back, and whatever is accepted is such a string; an AID counts by its bytes.
use Rattle.std.specs.Prelude.{ℕ, ◌≡◌, List, [], ◌∷◌, Bool, true, false, Ok, Err}
use Rattle.std.proofs.Math.Option.{Option, none, some}
use Rattle.read_tlv.specs.Encoding.{Bytes}
use Rattle.read_fields.specs.Places.{RequestIn}
use Rattle.read_fields.specs.Grammar.{EncodesStored, EncodesDeleted, EncodesListed, Inquiry, inquiry, Wanted, create, store_data, deletion, get_status, get_data, wanted_of}
use Rattle.read_install.specs.Grammar.{EncodesCreated}
use Rattle.read_fields.specs.declared.request.Request.{Request}
use Rattle.read_frame.specs.Framing.{class_right}
use Rattle.read_frame.specs.Frame.{framed, Framed}
use Rattle.read_command.specs.Reading.{read_of, Reading}

abbrev pub read_as : List ℕ → Reading → Option Wanted
read_as s (Ok r) = some (wanted_of s r)
read_as s (Err word) = none

pub record Bare (s : List ℕ) : Type 0 where
  pub class : ℕ
  pub right_class : class_right class ≡ true
  pub written : s ≡ class ∷ 0xCA ∷ 0xFF ∷ 0x21 ∷ 0x00 ∷ []

-- P2 of a GET STATUS
abbrev pub second_of : Bool → ℕ
second_of false = 0x02
second_of true = 0x03

abbrev pub listing_of : ℕ → Bool → List ℕ → Bool → List ℕ
listing_of class next field with_le = framed class 0xF2 0x40 (second_of next) field with_le

-- a GET STATUS says by its P2 whether it goes on from the kept place: request 2026-05
pub record Listing (v : Inquiry) (s : List ℕ) : Type 0 where
  pub command : Framed 0xF2 (EncodesListed v) s
  pub second : command.p2 ≡ second_of v.next

abbrev pub Encodes : ℕ → Wanted → List ℕ → Type 0
Encodes capacity (create v) s = Framed 0xE6 (EncodesCreated capacity v) s
Encodes capacity (store_data v) s = Framed 0xE2 (EncodesStored v) s
Encodes capacity (deletion v) s = Framed 0xE4 (EncodesDeleted v) s
Encodes capacity (get_status v) s = Listing v s
Encodes capacity get_data s = Bare s

-- reading an encoded command gives it back (decision B17)
abbrev pub CommandBack : Type 0
CommandBack = (s : List ℕ) (capacity : ℕ) (v : Wanted) → Encodes capacity v s → read_as s (read_of s capacity) ≡ some v

-- whatever is accepted is the encoding of what was read (decision B17)
abbrev pub CommandWritten : Type 0
CommandWritten = (s : List ℕ) (capacity : ℕ) (v : Wanted) → Bytes s → read_as s (read_of s capacity) ≡ some v → Encodes capacity v s

-- the same data field asks for the same tags with P2 02 and with P2 03, whatever class and Le: request 2026-05,
-- "With the same data field throughout" (decision B77)
abbrev pub SameTags : Type 0
SameTags = (next next' : Bool) (class class' : ℕ) (with_le with_le' : Bool) (field : List ℕ) (capacity : ℕ) (life shown : Bool)
    → Bytes (listing_of class next field with_le)
    → read_as (listing_of class next field with_le) (read_of (listing_of class next field with_le) capacity) ≡ some (get_status (inquiry next [] life shown))
    → class_right class' ≡ true
    → read_as (listing_of class' next' field with_le') (read_of (listing_of class' next' field with_le') capacity) ≡ some (get_status (inquiry next' [] life shown))

-- what an accepted command names stands in it
abbrev pub ReadInside : Type 0
ReadInside = (s : List ℕ) (capacity : ℕ) (r : Request) → Ok r ≡ read_of s capacity → RequestIn s capacity r
