-- Cards and calls that examples are written with. Document 01, 'Marked examples': "Fresh card F = A0 00 00 00 01, others A0 00 00 00 02
-- and so on."
use Rattle.std.specs.Prelude.{ℕ, zero, suc, ◌-◌, ◌/◌, ◌%◌, List, [], ◌∷◌, ◌++◌, length, replicate}
use Rattle.card_isdp.specs.Sizes.{most_places}
use Rattle.card_isdp.specs.Aids.{named}
use Rattle.card_isdp.specs.LifeCycle.{selectable, enabled}
use Rattle.card_isdp.specs.Profile.{profile}
use Rattle.card_isdp.specs.Place.{vacant}
use Rattle.card_isdp.specs.declared.Isdp.{Isdp}
use Rattle.card_places.specs.Places.{free_of}
use Rattle.card_record.specs.Cards as cards
use Rattle.card_record.specs.declared.Card.{Card}
use Rattle.card_record.specs.declared.Phase.{Phase}
use Rattle.card_record.specs.declared.Phase.TheVariants.{Quiet}
use Rattle.rule_run.specs.Calls.{Call, Call.Command, Call.Keyed, Call.Stored, Call.Finished, Call.Tick}
use Rattle.rule_run.specs.Inputs.{Inputs, fresh_of}

abbrev pub aid : ℕ → List ℕ
aid n = 0xA0 ∷ 0x00 ∷ 0x00 ∷ 0x00 ∷ n ∷ []

-- a command with no token, lent a buffer of 256 bytes
abbrev pub command : List ℕ → Call
command s = Command 0 s 256

abbrev pub get_status : Call
get_status = command (0x80 ∷ 0xF2 ∷ 0x40 ∷ 0x02 ∷ 0x02 ∷ 0x4F ∷ 0x00 ∷ 0x00 ∷ [])

abbrev pub set_fall_back : ℕ → Call
set_fall_back n = command (0x80 ∷ 0xE2 ∷ 0x88 ∷ 0x00 ∷ 0x0A ∷ 0x3A ∷ 0x05 ∷ 0x07 ∷ 0x4F ∷ 0x05 ∷ aid n)

abbrev pub enable : ℕ → Call
enable n = command (0x80 ∷ 0xE2 ∷ 0x88 ∷ 0x00 ∷ 0x0A ∷ 0x3A ∷ 0x03 ∷ 0x07 ∷ 0x4F ∷ 0x05 ∷ aid n)

abbrev pub disable : ℕ → Call
disable n = command (0x80 ∷ 0xE2 ∷ 0x88 ∷ 0x00 ∷ 0x0A ∷ 0x3A ∷ 0x04 ∷ 0x07 ∷ 0x4F ∷ 0x05 ∷ aid n)

abbrev pub confirm : ℕ → Call
confirm n = command (0x80 ∷ 0xE2 ∷ 0x89 ∷ 0x00 ∷ 0x07 ∷ 0x3A ∷ 0x08 ∷ 0x04 ∷ 0x4E ∷ 0x02 ∷ n / 256 ∷ n % 256 ∷ 0x00 ∷ [])

abbrev pub delete : ℕ → Call
delete n = command (0x80 ∷ 0xE4 ∷ 0x00 ∷ 0x40 ∷ 0x07 ∷ 0x4F ∷ 0x05 ∷ (aid n ++ 0x00 ∷ []))

-- with this quota
abbrev pub create : ℕ → ℕ → Call
create n quota =
    command
    (0x80 ∷ 0xE6 ∷ 0x0C ∷ 0x00 ∷ 0x22
    ∷ 0x05 ∷ (aid 0xFE
    ++ 0x05 ∷ (aid 0xFF
    ++ 0x05 ∷ (aid n
    ++ 0x01 ∷ 0x80 ∷ 0x0C ∷ 0xC9 ∷ 0x04 ∷ 0x81 ∷ 0x02 ∷ 0x03 ∷ 0x70 ∷ 0xEF ∷ 0x04 ∷ 0x83 ∷ 0x02 ∷ quota / 256 ∷ quota % 256 ∷ 0x00 ∷ []))))

unfoldable pub creates : ℕ → ℕ → List Call
creates n zero = []
creates n (suc k) = create n 1 ∷ creates (suc n) k

abbrev pub ticks : ℕ → List Call
ticks n = replicate n Tick

-- capacity 1000, quota 100, used 10, any volatile figure: 900 are free
abbrev pub inputs : Inputs
inputs = record { eid = replicate 16 0x89; aid = aid 1; capacity = 1000; quota = 100; used = 10; volatile = 7 }

unfoldable pub fresh : Card
fresh = (fresh_of inputs).card

-- 02 is created and brought to DISABLED, with this policy and this mark of provisioning capability; request 2026-02: "example 2's profile
-- bears the mark"
abbrev pub load_with : ℕ → ℕ → ℕ → List Call
load_with n policy mark = create n 50 ∷ Keyed (aid n) ∷ Stored (aid n) 5 ∷ Finished (aid n) policy mark ∷ []

abbrev pub load : ℕ → ℕ → List Call
load n policy = load_with n policy 1

-- the examples' card with these profiles in its first places and what they leave free, this last number, this place the fall-back, in this phase, with no listing open
abbrev pub example_card : List Isdp → ℕ → ℕ → Phase → Card
example_card profiles last fallback phase =
    cards.card_with (replicate 16 0x89) 1000 7 (free_of 1000 profiles) last fallback phase cards.no_place (profiles ++ replicate (most_places - length profiles) vacant)

-- the profiles field by field: AID, life cycle, quota, used, policy, mark. F, which has the mark, alone; F and 02, with their life cycles, 02 with this mark or marked too; new profiles of quota 1, with AIDs from
-- n on
abbrev pub alone : List Isdp
alone = profile (named (aid 1)) enabled 100 10 0 1 ∷ []

abbrev pub two_with : ℕ → ℕ → ℕ → List Isdp
two_with mark first second =
    profile (named (aid 1)) first 100 10 0 1 ∷ profile (named (aid 2)) second 50 5 0 mark ∷ []

abbrev pub two : ℕ → ℕ → List Isdp
two first second = two_with 1 first second

unfoldable pub created : ℕ → ℕ → List Isdp
created n zero = []
created n (suc k) = profile (named (aid n)) selectable 1 0 0 0 ∷ created (suc n) k

-- F is the fall-back, 02 the other, Quiet
abbrev pub card_of_two : ℕ → ℕ → ℕ → Card
card_of_two first second last = example_card (two first second) last 0 Quiet
