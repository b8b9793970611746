-- Request 2026-05: "GET STATUS answers as many whole rows as fit 255 bytes with 63 10, and P2 03 asks for the next ones .. With the same data
-- field throughout, the joined responses equal the one long listing." What is asked is said of any engine, so that wrong ones fail it.
use Rattle.std.specs.Prelude.{ℕ, zero, suc, ◌+◌, ◌-◌, ◌≤◌, ◌≡◌, List, [], ◌∷◌, ◌++◌, Bool, true, false, cond, length, replicate}
use Rattle.base_status.specs.StatusWords.{is_done}
use Rattle.base_status.specs.declared.Status.TheVariants.{More, Done}
use Rattle.card_isdp.specs.Sizes.{most_places, eid_size}
use Rattle.card_isdp.specs.LifeCycle.{disabled, enabled, with_mark}
use Rattle.card_isdp.specs.Place.{vacant, made}
use Rattle.card_isdp.specs.declared.Isdp.{Isdp}
use Rattle.card_record.specs.Cards.{no_place, keeping, card_with}
use Rattle.card_record.specs.Sound.{sound}
use Rattle.card_record.specs.Answers.{Outcome}
use Rattle.card_record.specs.declared.Card.{Card}
use Rattle.card_record.specs.declared.Phase.TheVariants.{Quiet}
use Rattle.read_frame.specs.Framing.{class_right}
use Rattle.read_fields.specs.Grammar as field
use Rattle.read_command.specs.Grammar.{listing_of}
use Rattle.rule_responses.specs.Responses.{listing}
use Rattle.rule_responses.specs.Worked.{aid_ending}
use Rattle.rule_run.specs.Calls.{Call, Call.Command}
use Rattle.rule_run.specs.Step.{step}
use Rattle.proof_demands.specs.Room.{Writes}
use Rattle.proof_demands.specs.WrongEngines.{with_card}

-- a call for rows of all profiles with these tags: the first ones, or the next
abbrev pub Lists : Bool → Bool → Bool → Card → Call → Type 0
Lists life shown next c call = Writes c.capacity (field.get_status (field.inquiry next [] life shown)) call

-- a whole listing, of calls that ask so: for the first rows, then for the next ones until 90 00; refused calls may stand between (decision B77)
pub data Whole (answer : Card → Call → Outcome) (Asks : Bool → Card → Call → Type 0) : Bool → Card → List Call → Type 0 where
  ends : {next : Bool} {c : Card} {call : Call} → Asks next c call → (answer c call).status ≡ Done → Whole answer Asks next c (call ∷ [])
  goes_on : {next : Bool} {c : Card} {call : Call} {calls : List Call} → Asks next c call → (answer c call).status ≡ More → Whole answer Asks true (answer c call).card calls → Whole answer Asks next c (call ∷ calls)
  between : {c : Card} {call : Call} {calls : List Call} → is_done (answer c call).status ≡ false → Whole answer Asks true (answer c call).card calls → Whole answer Asks true c (call ∷ calls)

-- all responses, one after the other; a refused call has none
unfoldable pub joined : (Card → Call → Outcome) → Card → List Call → List ℕ
joined answer c [] = []
joined answer c (call ∷ calls) = (answer c call).response ++ joined answer (answer c call).card calls

-- how many calls were accepted: the parts
unfoldable pub parts_among : (Card → Call → Outcome) → Card → List Call → ℕ
parts_among answer c [] = 0
parts_among answer c (call ∷ calls) = cond (is_done (answer c call).status) 1 0 + parts_among answer (answer c call).card calls

-- each part has a row, as it is not empty (that its rows are whole says the law of the call), and at most 255 bytes
abbrev pub EachPart : (Card → Call → Outcome) → Card → List Call → Type 0
EachPart answer c [] = Unit {0}
EachPart answer c (call ∷ calls) =
    (is_done (answer c call).status ≡ true → (1 ≤ length (answer c call).response) × (length (answer c call).response ≤ 255))
    × EachPart answer (answer c call).card calls

-- four parts at the most: one that is not the last has at least 229 bytes, since a row has at most 27, and 32 rows have at most 864
pub record Joins (answer : Card → Call → Outcome) (life shown : Bool) (c : Card) (calls : List Call) : Type 0 where
  pub the-listing : joined answer c calls ≡ listing c life shown
  pub four-at-most : parts_among answer c calls ≤ 4
  pub each : EachPart answer c calls

-- from any sound card, whatever it keeps of an earlier listing (decision B77)
abbrev pub PartsJoin : (Card → Call → Outcome) → Type 0
PartsJoin answer =
    (c : Card) (life shown : Bool) (calls : List Call) → sound c ≡ true → Whole answer (Lists life shown) false c calls → Joins answer life shown c calls

-- a GET STATUS with these bytes for its data field, P2 02 or 03, whatever the card; class, Le, token verdict and buffer may differ from call to call
pub data WithField (bytes : List ℕ) : Bool → Card → Call → Type 0 where
  with-field : {c : Card} (next : Bool) (verdict class room : ℕ) (with_le : Bool) → class_right class ≡ true → 256 ≤ room → WithField bytes next c (Command verdict (listing_of class next bytes with_le) room)

-- a data field that asks for all profiles: 4F of length 0, then 5C or not, which says which tags
pub record AsksForAll (life shown : Bool) (bytes : List ℕ) : Type 0 where
  pub encoded : field.EncodesListed (field.inquiry false [] life shown) bytes
  pub most : length bytes ≤ 255

-- "With the same data field throughout, the joined responses equal the one long listing."
abbrev pub SameFieldJoins : (Card → Call → Outcome) → Type 0
SameFieldJoins answer =
    (c : Card) (life shown : Bool) (bytes : List ℕ) (calls : List Call) → sound c ≡ true → AsksForAll life shown bytes
    → Whole answer (WithField bytes) false c calls → Joins answer life shown c calls

-- and it ends: of any two such commands, one with P2 02 and then at most three times the one with P2 03 are a whole listing
abbrev pub ListingEnds : (Card → Call → Outcome) → Type 0
ListingEnds answer =
    (c : Card) (life shown : Bool) (bytes : List ℕ) (first next : Call) → sound c ≡ true → AsksForAll life shown bytes
    → WithField bytes false c first → WithField bytes true c next
    → (n : ℕ) × ((n ≤ 3) × Whole answer (WithField bytes) false c (first ∷ replicate n next))

-- 17 profiles with AIDs of five bytes, the first enabled and the fall-back
unfoldable pub profiles_from : ℕ → ℕ → List Isdp
profiles_from n zero = []
profiles_from n (suc k) = made (aid_ending n) disabled 10 1 ∷ profiles_from (suc n) k

abbrev pub crowded : Card
crowded =
    card_with (replicate eid_size 0) 1000 0 830 0 0 Quiet no_place
    (with_mark (made (aid_ending 1) enabled 10 1) 1 ∷ (profiles_from 2 16 ++ replicate (most_places - 17) vacant))

abbrev pub get_first : Call
get_first = Command 0 (0x80 ∷ 0xF2 ∷ 0x40 ∷ 0x02 ∷ 0x02 ∷ 0x4F ∷ 0x00 ∷ 0x00 ∷ []) 256

abbrev pub get_next : Call
get_next = Command 0 (0x80 ∷ 0xF2 ∷ 0x40 ∷ 0x03 ∷ 0x02 ∷ 0x4F ∷ 0x00 ∷ 0x00 ∷ []) 256

-- a command of no byte, which is refused
abbrev pub refused_command : Call
refused_command = Command 0 [] 256

pub record ListingMet : Type 0 where
  pub is-sound : sound crowded ≡ true
  -- fifteen rows, a refused call, and the other two
  pub asks-for-all : AsksForAll true true (0x4F ∷ 0x00 ∷ [])
  pub whole : Whole step (WithField (0x4F ∷ 0x00 ∷ [])) false crowded (get_first ∷ refused_command ∷ get_next ∷ [])
  pub bytes : length (joined step crowded (get_first ∷ refused_command ∷ get_next ∷ [])) ≡ 272

-- the manager, but for the place that a part leaves
abbrev pub going_on_at : (ℕ → ℕ) → Card → Call → Outcome
going_on_at place c call = with_card (step c call) (keeping (step c call).card (place (step c call).card.kept))

-- the row that did not fit is left out, or the last one that did is given again
pub record ListingsRefuted : Type 0 where
  pub skips-a-row : PartsJoin (going_on_at suc) → ⊥
  pub repeats-a-row : PartsJoin (going_on_at (λ place. place - 1)) → ⊥
