-- Document 01, 'Reading a command', from the writer's side: the bytes of each data field as its table has them, for every legal value.
-- Reading a window that holds such bytes gives the value back, and whatever is read is so encoded; an AID counts by its bytes.
use Rattle.std.specs.Prelude.{ℕ, ◌+◌, ◌/◌, ◌%◌, ◌≤◌, ◌<◌, ◌≡◌, List, [], ◌∷◌, ◌++◌, Bool, true, false, length, Some, None}
use Rattle.std.proofs.Math.Option.{Option, none, some}
use Rattle.base_bytes.specs.Bytes.{part_of}
use Rattle.read_tlv.specs.Filled.{Filled}
use Rattle.read_tlv.specs.Encoding.{window, Bytes, encode_number, encode_tag, encode_element}
use Rattle.read_fields.specs.declared.request.Request.{Request}
use Rattle.read_fields.specs.declared.request.Request.TheVariants as request
use Rattle.read_fields.specs.Found.{Field}
use Rattle.read_fields.specs.StoreData.{store_data_at}
use Rattle.read_fields.specs.Delete.{deletion_at}
use Rattle.read_fields.specs.GetStatus.{listing_at}

-- ---- what a command asks for

-- the AID and the quota of a create
pub record Created : Type 0 where
  pub aid : List ℕ
  pub quota : ℕ

pub data Stored : Type 0 where
  enable : List ℕ → Stored
  disable : List ℕ → Stored
  set_fall_back : List ℕ → Stored
  confirmation : ℕ → Stored

pub data Deletion : Type 0 where
  delete : List ℕ → Deletion
  master_delete : List ℕ → Deletion

-- whether a GET STATUS goes on from the kept place, whom it asks for, and which optional tags
pub record Inquiry : Type 0 where
  pub next : Bool
  pub who : List ℕ
  pub life : Bool
  pub fall_back_shown : Bool

abbrev pub inquiry : Bool → List ℕ → Bool → Bool → Inquiry
inquiry next who life shown = record { next = next; who = who; life = life; fall_back_shown = shown }

pub data Wanted : Type 0 where
  create : Created → Wanted
  store_data : Stored → Wanted
  deletion : Deletion → Wanted
  get_status : Inquiry → Wanted
  get_data : Wanted

abbrev pub wanted_of : List ℕ → Request → Wanted
wanted_of s (request.Create part quota) = create (record { aid = part_of s part; quota = quota })
wanted_of s (request.Enable part) = store_data (enable (part_of s part))
wanted_of s (request.Disable part) = store_data (disable (part_of s part))
wanted_of s (request.SetFallBack part) = store_data (set_fall_back (part_of s part))
wanted_of s (request.Confirm number) = store_data (confirmation number)
wanted_of s (request.Delete part) = deletion (delete (part_of s part))
wanted_of s (request.MasterDelete part) = deletion (master_delete (part_of s part))
wanted_of s (request.GetStatusOfAll next tags) = get_status (inquiry next [] tags.life tags.fall_back)
wanted_of s (request.GetStatusOfOne part tags) = get_status (inquiry false (part_of s part) tags.life tags.fall_back)
wanted_of s request.GetData = get_data

abbrev pub found_as : List ℕ → Field → Option Wanted
found_as s (Some r) = some (wanted_of s r)
found_as s None = none

-- what was read is a value of its kind, and the window holds the bytes of that
pub record ReadFrom {Kind : Type 0} (means : Kind → Wanted) (Encoded : Kind → List ℕ → Type 0) (s : List ℕ) (at end : ℕ) (w : Wanted) : Type 0 where
  pub ordered : at ≤ end
  pub held : end ≤ length s
  pub value : Kind
  pub meant : means value ≡ w
  pub encoded : Encoded value (window s at end)

-- an AID has 5 to 16 bytes
pub record Named (aid : List ℕ) : Type 0 where
  pub least : 5 ≤ length aid
  pub most : length aid ≤ 16

-- ---- STORE DATA

abbrev pub encode_dgi : ℕ → List ℕ → List ℕ
encode_dgi number contents = number / 256 ∷ number % 256 ∷ length contents ∷ contents

abbrev pub EncodesStored : Stored → List ℕ → Type 0
EncodesStored (enable aid) bytes = Named aid × (bytes ≡ encode_dgi 0x3A03 (encode_element 0x4F aid))
EncodesStored (disable aid) bytes = Named aid × (bytes ≡ encode_dgi 0x3A04 (encode_element 0x4F aid))
EncodesStored (set_fall_back aid) bytes = Named aid × (bytes ≡ encode_dgi 0x3A05 (encode_element 0x4F aid))
EncodesStored (confirmation number) bytes = (number < 65536) × (bytes ≡ encode_dgi 0x3A08 (encode_element 0x4E (encode_number number)))

-- reading an encoded field gives it back
abbrev pub StoreDataBack : Type 0
StoreDataBack = (s : List ℕ) (at end : ℕ) (v : Stored) → at ≤ end → end ≤ length s → EncodesStored v (window s at end)
    → found_as s (store_data_at s at end) ≡ some (store_data v)

-- whatever is accepted is the encoding of what was read
abbrev pub StoreDataWritten : Type 0
StoreDataWritten = (s : List ℕ) (at end : ℕ) (w : Wanted) → Bytes s → found_as s (store_data_at s at end) ≡ some w
    → ReadFrom store_data EncodesStored s at end w

-- what is accepted is, after its DGI, a list of elements
abbrev pub StoreDataFilled : Type 0
StoreDataFilled = (s : List ℕ) (at end : ℕ) (r : Request) → Some r ≡ store_data_at s at end → Filled s 1 (at + 3) end

-- ---- DELETE

-- the values that a master delete has beside the AID, by their tags
pub record Verified : Type 0 where
  pub of42 : List ℕ
  pub of45 : List ℕ
  pub of5_f20 : List ℕ
  pub of93 : List ℕ
  pub of9_e : List ℕ

-- at least one byte, and no more than a length can say
pub record Given (value : List ℕ) : Type 0 where
  pub least : 1 ≤ length value
  pub most : length value ≤ 255

unfoldable pub encode_verification : Verified → List ℕ
encode_verification v =
    encode_element 0x42 v.of42
    ++ (encode_element 0x45 v.of45
    ++ (encode_element 0x5F20 v.of5_f20
    ++ encode_element 0x93 v.of93))

pub record LegalVerified (v : Verified) : Type 0 where
  pub given42 : Given v.of42
  pub given45 : Given v.of45
  pub given5_f20 : Given v.of5_f20
  pub given93 : Given v.of93
  pub given9_e : Given v.of9_e
  pub most : length (encode_verification v) ≤ 255

abbrev pub encode_master_delete : List ℕ → Verified → List ℕ
encode_master_delete aid v = encode_element 0x4F aid ++ (encode_element 0xB6 (encode_verification v) ++ encode_element 0x9E v.of9_e)

-- a master delete is encoded in as many ways as there are values beside the AID
abbrev pub EncodesDeleted : Deletion → List ℕ → Type 0
EncodesDeleted (delete aid) bytes = Named aid × (bytes ≡ encode_element 0x4F aid)
EncodesDeleted (master_delete aid) bytes = (v : Verified) × (Named aid × (LegalVerified v × (bytes ≡ encode_master_delete aid v)))

abbrev pub DeletionBack : Type 0
DeletionBack = (s : List ℕ) (at end : ℕ) (v : Deletion) → at ≤ end → end ≤ length s → EncodesDeleted v (window s at end)
    → found_as s (deletion_at s at end) ≡ some (deletion v)

abbrev pub DeletionWritten : Type 0
DeletionWritten = (s : List ℕ) (at end : ℕ) (w : Wanted) → Bytes s → found_as s (deletion_at s at end) ≡ some w
    → ReadFrom deletion EncodesDeleted s at end w

abbrev pub DeletionFilled : Type 0
DeletionFilled = (s : List ℕ) (at end : ℕ) (r : Request) → Some r ≡ deletion_at s at end → Filled s 1 at end

-- ---- GET STATUS

-- the tags that 5C may list
pub data ListedTag : Type 0 where
  aid : ListedTag
  life_cycle : ListedTag
  fall_back : ListedTag

abbrev pub tag_number : ListedTag → ℕ
tag_number aid = 0x4F
tag_number life_cycle = 0x9F70
tag_number fall_back = 0x53

unfoldable pub encode_tags : List ListedTag → List ℕ
encode_tags [] = []
encode_tags (t ∷ ts) = encode_tag (tag_number t) ++ encode_tags ts

abbrev pub lists_life : List ListedTag → Bool
lists_life [] = false
lists_life (aid ∷ ts) = lists_life ts
lists_life (life_cycle ∷ ts) = true
lists_life (fall_back ∷ ts) = lists_life ts

abbrev pub lists_fall_back : List ListedTag → Bool
lists_fall_back [] = false
lists_fall_back (aid ∷ ts) = lists_fall_back ts
lists_fall_back (life_cycle ∷ ts) = lists_fall_back ts
lists_fall_back (fall_back ∷ ts) = true

-- 5C is there or not; where it is not, both optional tags are shown
abbrev pub encode_list : Option (List ListedTag) → List ℕ
encode_list none = []
encode_list (some ts) = encode_element 0x5C (encode_tags ts)

abbrev pub shows_life : Option (List ListedTag) → Bool
shows_life none = true
shows_life (some ts) = lists_life ts

abbrev pub shows_fall_back : Option (List ListedTag) → Bool
shows_fall_back none = true
shows_fall_back (some ts) = lists_fall_back ts

-- no more than a length can say; document 01 sets no other limit (decision 30)
abbrev pub Short : Option (List ListedTag) → Type 0
Short none = Unit
Short (some ts) = length (encode_tags ts) ≤ 255

-- 4F is empty, for all, or an AID; a listing that goes on names none
pub data Sought : Bool → List ℕ → Type 0 where
  all : {next : Bool} → Sought next []
  one : {who : List ℕ} → Named who → Sought false who

-- a GET STATUS is encoded in as many ways as there are lists that show the same tags
pub record EncodesListed (v : Inquiry) (bytes : List ℕ) : Type 0 where
  pub tags : Option (List ListedTag)
  pub sought : Sought v.next v.who
  pub short : Short tags
  pub life_asked : v.life ≡ shows_life tags
  pub fall_back_asked : v.fall_back_shown ≡ shows_fall_back tags
  pub written : bytes ≡ encode_element 0x4F v.who ++ encode_list tags

-- P2 says whether the listing goes on, the data field says the rest
abbrev pub EncodesNext : Bool → Inquiry → List ℕ → Type 0
EncodesNext next v bytes = (v.next ≡ next) × EncodesListed v bytes

abbrev pub ListingBack : Type 0
ListingBack = (s : List ℕ) (at end : ℕ) (v : Inquiry) → at ≤ end → end ≤ length s → EncodesListed v (window s at end)
    → found_as s (listing_at v.next s at end) ≡ some (get_status v)

abbrev pub ListingWritten : Type 0
ListingWritten = (next : Bool) (s : List ℕ) (at end : ℕ) (w : Wanted) → Bytes s → found_as s (listing_at next s at end) ≡ some w
    → ReadFrom get_status (EncodesNext next) s at end w

abbrev pub ListingFilled : Type 0
ListingFilled = (next : Bool) (s : List ℕ) (at end : ℕ) (r : Request) → Some r ≡ listing_at next s at end → Filled s 1 at end
