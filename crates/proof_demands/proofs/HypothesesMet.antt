-- The hypotheses of the statements are met: concrete cards and calls, by computing.
use mathlib.Core.Path.{◌≡◌, refl, ◌∙◌}
use Prim.Native.Nat.{ℕ, zero, suc, ◌-◌}
use native.Mathlib.Omega.{arith}
use mathlib.Core.List.{List, [], ◌∷◌, ◌++◌}
use mathlib.Core.Bool.{Bool, true, false, ◌&&◌}
use mathlib.Core.Option.{some}
use lib.ListN.{replicate}
use lib.Dec.{ltb}
use borrow.Author.Tests.{ltb-true}
use Rattle.base_bytes.specs.Bytes.{same_bytes}
use Rattle.base_status.specs.StatusWords.{is_done}
use Rattle.base_status.specs.Rows.{word_of}
use Rattle.base_status.specs.declared.Status.TheVariants.{Done}
use Rattle.card_isdp.specs.Sizes.{most_places, eid_size}
use Rattle.card_isdp.specs.Aids.{padded}
use Rattle.card_isdp.specs.LifeCycle.{disabled, enabled, with_mark}
use Rattle.card_isdp.specs.Place.{vacant, made, is_for, clash, zeros, place_ok}
use Rattle.card_isdp.proofs.Bools.{and_l, and_r}
use Rattle.card_places.specs.Places.{quotas, all_of, any_of, count_of, distinct, all_off, enable_at}
use Rattle.card_record.specs.Cards.{no_place, card_with}
use Rattle.card_record.specs.Sound.{phase_ok, sound}
use Rattle.card_record.specs.Clock.{tick_of}
use Rattle.card_record.specs.Ticks.{steps_in, ticks_to_come}
use Rattle.card_record.specs.Steps.{tick_step}
use Rattle.card_record.specs.Answers.{refused, accepted}
use Rattle.card_record.specs.Fresh.{fresh_card, fresh_outcome}
use Rattle.card_record.specs.declared.Card.{Card}
use Rattle.card_record.specs.declared.Phase.TheVariants.{Trial}
use Rattle.base_choice.specs.Choice.{pick, at_most, is_below, is_same}
use Rattle.read_tlv.specs.Lists.{list_wrong, list_at, list_within, list_of, element_of, rest_after, element_closed}
use Rattle.read_tlv.specs.Tlv.{tag_at, length_at, after_length, after_tag, head_at, expect_of, expect_at}
use Rattle.read_tlv.specs.Encoding.{window, Bytes}
use Rattle.read_elements.specs.Reader.{alone_at}
use Rattle.read_fields.specs.StoreData.{dgi_at, request_named, confirmation_at, store_data_at}
use Rattle.read_fields.specs.Grammar.{confirmation, Created, Wanted}
use Rattle.read_fields.specs.Grammar as written
use Rattle.read_install.specs.Parameters.{protocols_within, protocols_at, number_at, grant_of, memory_at, parameters_at}
use Rattle.read_install.specs.Install.{prefixed_of, prefixed_at, names_at, rights_at, install_of}
use Rattle.read_frame.specs.Framing.{length_wrong, class_right, class_wrong, instruction_wrong, parameters_right, parameters_wrong, shape_right, shape_wrong}
use Rattle.read_command.specs.Requests.{field_of, data_wrong}
use Rattle.read_command.specs.Grammar.{read_as, Encodes}
use Rattle.read_command.specs.Reading.{read_of}
use Rattle.read_command.proofs.Written.{command-written}
use Rattle.rule_run.specs.Calls.{Call.Command, Call.Tick}
use Rattle.rule_run.specs.Step.{step, step_by}
use Rattle.proof_demands.specs.Demand1.{Demand1Met}
use Rattle.proof_demands.specs.Demand2.{Demand2Met}
use Rattle.proof_demands.specs.Ticks.{TicksMet}
use Rattle.proof_demands.specs.Create.{SoundRequest, CreateMet}
use Rattle.proof_demands.specs.Confirmation.{ConfirmationMet}
use Rattle.proof_demands.proofs.Confirmation.{confirmation-taken}
use Rattle.rule_run.proofs.Words.{word-is}
use Rattle.proof_demands.proofs.Create.{create-live}

-- document 01's AIDs: F, and others
abbrev aid_ending : ℕ → List ℕ
aid_ending n = 0xA0 ∷ 0 ∷ 0 ∷ 0 ∷ n ∷ []

abbrev eid : List ℕ
eid = replicate eid_size 0

-- a fresh card of this capacity, whose profile has 100 bytes
abbrev fresh_of : ℕ → Card
fresh_of capacity = fresh_card eid (aid_ending 1) capacity 100 0 0

fresh-sounds : (sound (fresh_of 1000) ≡ true) × (sound (fresh_of 100) ≡ true)
unfolding sound phase_ok all_of place_ok zeros padded distinct any_of clash is_for count_of quotas same_bytes
fresh-sounds = (refl, refl)

-- an empty command
short : is_done (step (fresh_of 1000) (Command 0 [] 256)).status ≡ false
unfolding word_of length_wrong
short = rw (word-is (fresh_of 1000) (Command 0 [] 256), fresh-sounds.0)

pub demand-1-met : Demand1Met
unfolding fresh_outcome word_of refused
demand-1-met =
    record { card = fresh_of 1000; call = Command 0 [] 256; refused = (fresh-sounds.0, short); eid = []; aid = []; fresh-refused = refl }

ticks-taken : (step (fresh_of 1000) Tick).status ≡ Done
unfolding word_of
ticks-taken = word-is (fresh_of 1000) Tick ∙ rw fresh-sounds.0

pub demand-2-met : Demand2Met
unfolding fresh_outcome word_of accepted
demand-2-met =
    record { eid = eid; aid = aid_ending 1; made = refl; taken = Tick; accepts = ticks-taken; refused = Command 0 [] 256; refuses = short }

-- F enabled and on trial, the profile before it not the fall-back
abbrev trial : Card
trial =
    card_with eid 1000 0 800 1 0 (Trial 1 10 1) no_place
    (with_mark (made (aid_ending 1) enabled 100 0) 1 ∷ made (aid_ending 2) disabled 100 1 ∷ replicate (most_places - 2) vacant)

pub ticks-met : TicksMet
unfolding step_by word_of accepted tick_step tick_of ticks_to_come steps_in enable_at all_off sound phase_ok all_of place_ok zeros padded distinct any_of clash is_for count_of quotas same_bytes
ticks-met = record { card = trial; call = Tick; card-sound = refl; figure = refl }

-- a create of 02 with 50 bytes
abbrev create_bytes : List ℕ
create_bytes =
    0x80 ∷ 0xE6 ∷ 0x0C ∷ 0x00 ∷ 0x22 ∷ 5
    ∷ (aid_ending 2 ++ 5 ∷ (aid_ending 2 ++ 5 ∷ (aid_ending 2 ++ 1 ∷ 0x80 ∷ 0x0C ∷ 0xC9 ∷ 4 ∷ 0x81 ∷ 2 ∷ 3 ∷ 0x70 ∷ 0xEF ∷ 4 ∷ 0x83 ∷ 2 ∷ 0 ∷ 50 ∷ 0 ∷ [])))

abbrev asks : Created
asks = record { aid = aid_ending 2; quota = 50 }

abbrev pub small_bytes : List ℕ → Bool
small_bytes [] = true
small_bytes (x ∷ xs) = ltb x 256 && small_bytes xs

pub bytes_of : (s : List ℕ) → small_bytes s ≡ true → Bytes s
bytes_of [] e i = omega arith
bytes_of (x ∷ xs) e zero = ltb-true x 256 (and_l _ _ e)
bytes_of (x ∷ xs) e (suc i) = bytes_of xs (and_r (ltb x 256) _ e) i

-- what some bytes are read as they write
pub encodes : (s : List ℕ) (capacity : ℕ) (w : Wanted) → small_bytes s ≡ true → read_as s (read_of s capacity) ≡ some w → Encodes capacity w s
encodes s capacity w b e = command-written s capacity w (bytes_of s b) e

reads : (read_as create_bytes (read_of create_bytes 1000) ≡ some (written.create asks)) × (read_as create_bytes (read_of create_bytes 100) ≡ some (written.create asks))
unfolding read_of word_of window length_wrong class_right class_wrong instruction_wrong parameters_right parameters_wrong shape_right shape_wrong field_of data_wrong pick at_most is_below is_same tag_at length_at after_length after_tag head_at expect_of expect_at protocols_within protocols_at number_at grant_of memory_at parameters_at prefixed_of prefixed_at names_at rights_at install_of list_wrong list_at list_within list_of element_of rest_after element_closed alone_at
reads = (refl, refl)

request-on : (capacity : ℕ) → sound (fresh_of capacity) ≡ true → read_as create_bytes (read_of create_bytes capacity) ≡ some (written.create asks) → SoundRequest (fresh_of capacity) create_bytes 256 asks
unfolding any_of is_for same_bytes padded
request-on capacity s e =
    record { card-sound = s; card-quiet = refl; buffer-long = omega arith; encoded = encodes create_bytes capacity (written.create asks) refl e; not-held = refl }

-- 900 bytes are free on the one card, none on the other
pub create-met : CreateMet
unfolding any_of quotas
create-met =
    let r = request-on 1000 fresh-sounds.0 reads.0 in
    let t = request-on 100 fresh-sounds.1 reads.1 in
    record {
      bytes = create_bytes;
      asks-for = asks;
      card = fresh_of 1000;
      request = r;
      taken = create-live (fresh_of 1000) 0 create_bytes 256 asks r;
      small = fresh_of 100;
      request-small = t;
      not_taken = create-live (fresh_of 100) 0 create_bytes 256 asks t;
    }

-- the confirmations of 1 and 2 in bytes, read by a card in Trial whose outstanding number is 1
abbrev confirm_bytes : ℕ → List ℕ
confirm_bytes n = 0x80 ∷ 0xE2 ∷ 0x89 ∷ 0x00 ∷ 0x07 ∷ 0x3A ∷ 0x08 ∷ 0x04 ∷ 0x4E ∷ 0x02 ∷ 0 ∷ n ∷ 0x00 ∷ []

confirm-reads : (read_as (confirm_bytes 1) (read_of (confirm_bytes 1) 1000) ≡ some (written.store_data (confirmation 1))) × (read_as (confirm_bytes 2) (read_of (confirm_bytes 2) 1000) ≡ some (written.store_data (confirmation 2)))
unfolding read_of word_of window length_wrong class_right class_wrong instruction_wrong parameters_right parameters_wrong shape_right shape_wrong field_of data_wrong pick at_most is_below is_same tag_at length_at after_length after_tag head_at expect_of expect_at alone_at dgi_at request_named confirmation_at store_data_at list_wrong list_at list_within list_of element_of rest_after element_closed
confirm-reads = (refl, refl)

trial-sound : sound trial ≡ true
unfolding sound phase_ok all_of place_ok zeros padded distinct any_of clash is_for count_of quotas same_bytes
trial-sound = refl

pub confirmation-met : ConfirmationMet
confirmation-met =
    let e = encodes (confirm_bytes 1) 1000 (written.store_data (confirmation 1)) refl confirm-reads.0 in
    let f = encodes (confirm_bytes 2) 1000 (written.store_data (confirmation 2)) refl confirm-reads.1 in
    record {
      card = trial;
      card-sound = trial-sound;
      bytes = confirm_bytes 1;
      number = 1;
      encoded = e;
      is-taken = confirmation-taken trial 0 (confirm_bytes 1) 256 1 trial-sound (omega arith) e;
      later = confirm_bytes 2;
      after = 2;
      encoded-later = f;
      not_taken = confirmation-taken trial 0 (confirm_bytes 2) 256 2 trial-sound (omega arith) f;
    }
