-- Request 2026-03, its purpose: "A download that stops half way leaves an ISD-P that Delete will not take, and the room is gone for good."
-- Delete takes it now, and the card is again the one before the creation. What is asked is said of any engine, so that wrong ones fail it.
use Rattle.std.specs.Prelude.{ℕ, ◌≤◌, ◌≡◌, List, [], ◌∷◌, true, cond, ◌&&◌, set}
use Rattle.base_status.specs.declared.Status.TheVariants.{StateWrong, Done}
use Rattle.card_isdp.specs.Aids.{no_aid}
use Rattle.card_isdp.specs.LifeCycle.{selectable, personalized, is_created}
use Rattle.card_isdp.specs.Profile.{profile}
use Rattle.card_record.specs.Cards.{place_of, profile_of, with_places}
use Rattle.card_record.specs.Answers.{Outcome, refused}
use Rattle.card_record.specs.declared.Card.{Card}
use Rattle.read_fields.specs.Grammar as field
use Rattle.read_fields.specs.Grammar.{Created, Wanted}
use Rattle.read_command.specs.Grammar.{Encodes}
use Rattle.rule_steps.specs.Asked.{Act.delete, same_act, on_target}
use Rattle.rule_steps.specs.Laws.Answer.{Still}
use Rattle.rule_run.specs.Calls.{Call, Call.Command, Call.Keyed, Call.Stored, Call.Finished, asked}
use Rattle.rule_run.specs.Table.{least_buffer}
use Rattle.rule_run.specs.Step.{step}
use Rattle.rule_run.specs.Runs.{taken}
use Rattle.rule_run.specs.Samples as sample
use Rattle.proof_demands.specs.Engines.{reached_by}
use Rattle.proof_demands.specs.WrongEngines.{with_card}

-- the inner calls, the AID apart
pub data Inner : Type 0 where
  keyed : Inner
  stored : ℕ → Inner
  -- policy and mark
  finished : ℕ → ℕ → Inner

abbrev pub inner_call : List ℕ → Inner → Call
inner_call aid keyed = Keyed aid
inner_call aid (stored n) = Stored aid n
inner_call aid (finished policy mark) = Finished aid policy mark

-- each of them for this AID
unfoldable pub inner_calls : List ℕ → List Inner → List Call
inner_calls aid [] = []
inner_calls aid (x ∷ xs) = inner_call aid x ∷ inner_calls aid xs

-- the call is a command that writes this, lent a buffer that is long enough
pub data Writes (capacity : ℕ) (w : Wanted) : Call → Type 0 where
  commands : (verdict : ℕ) (s : List ℕ) (room : ℕ) → least_buffer ≤ room → Encodes capacity w s → Writes capacity w (Command verdict s room)

-- a creation is accepted; any inner calls follow for its AID, refused ones too, and leave the profile SELECTABLE or PERSONALIZED: its delete
-- is answered 90 00 with response 00, and the card is the one before the creation
abbrev pub GivesRoomBack : (Card → Call → Outcome) → Type 0
GivesRoomBack answer =
    (c : Card) (v : Created) (creation deletion : Call) (inner : List Inner)
    → Writes c.capacity (field.create v) creation
    → Writes c.capacity (field.deletion (field.delete v.aid)) deletion
    → (answer c creation).status ≡ Done
    → let broken = reached_by answer c (creation ∷ inner_calls v.aid inner) in
    is_created (profile_of broken v.aid).life ≡ true → Still c (0x00 ∷ []) (answer broken deletion)

-- of every sound Quiet card, since the manager accepts a creation on no other
abbrev pub NoRoomLost : Type 0
NoRoomLost = GivesRoomBack step

-- the manager, but for the answer to a delete that it takes, by the AID
abbrev pub deleting_so : (Card → Call → List ℕ → Outcome) → Card → Call → Outcome
deleting_so answer c call =
    on_target (step c call) (λ aid act. cond (same_act act delete && taken c call) (answer c call aid) (step c call)) (asked c call)

-- "leaves an ISD-P that Delete will not take": 69 85 where it is Created
abbrev pub leaves_created : Card → Call → Outcome
leaves_created = deleting_so (λ c call aid. cond (is_created (profile_of c aid).life) (refused c StateWrong) (step c call))

-- the quota stays in the place
abbrev pub keeps_the_quota : Card → Call → Outcome
keeps_the_quota =
    deleting_so
    (λ c call aid.
    with_card (step c call) (with_places c (set c.places (place_of c aid) (profile no_aid 0 (profile_of c aid).quota 0 0 0))))

-- downloads of 02 that break off, on the fresh card of the examples: at once, after keyed, after stored
abbrev pub breaks_off : List Inner → ℕ → Type 0
breaks_off inner life = (profile_of (reached_by step sample.fresh (sample.create 2 50 ∷ inner_calls (sample.aid 2) inner)) (sample.aid 2)).life ≡ life

pub record RoomMet : Type 0 where
  pub creates : Writes 1000 (field.create (record { aid = sample.aid 2; quota = 50 })) (sample.create 2 50)
  pub deletes : Writes 1000 (field.deletion (field.delete (sample.aid 2))) (sample.delete 2)
  pub accepted : (step sample.fresh (sample.create 2 50)).status ≡ Done
  pub at_once : breaks_off [] selectable
  pub after-keyed : breaks_off (keyed ∷ []) personalized
  pub after-stored : breaks_off (keyed ∷ stored 50 ∷ stored 1 ∷ finished 5 1 ∷ []) personalized

-- "the room is gone for good": these two fail it
pub record RoomLost : Type 0 where
  pub created-left : GivesRoomBack leaves_created → ⊥
  pub quota-kept : GivesRoomBack keeps_the_quota → ⊥
