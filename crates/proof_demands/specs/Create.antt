-- Document 01, 'Steps': "Freed places and room are used again: 6A 84 answers a sound request exactly when no place is free or the quota
-- exceeds free". What an accepted create does is in the law of its call (CallLaws).
use Rattle.std.specs.Prelude.{ℕ, ◌≤◌, ◌≡◌, List, true, false, not, cond, ◌||◌, ltb}
use Rattle.base_status.specs.declared.Status.TheVariants.{Done, NoRoom}
use Rattle.card_isdp.specs.Place.{is_for}
use Rattle.card_places.specs.Places.{is_free, any_of}
use Rattle.card_record.specs.Cards.{is_quiet, free_in}
use Rattle.card_record.specs.Sound.{sound}
use Rattle.card_record.specs.declared.Card.{Card}
use Rattle.read_fields.specs.Grammar.{Created, create}
use Rattle.read_command.specs.Grammar.{Encodes}
use Rattle.rule_run.specs.Calls.{Call.Command}
use Rattle.rule_run.specs.Table.{least_buffer}
use Rattle.rule_run.specs.Step.{step}

-- a well-formed create of an AID that is not held, on a sound Quiet card, with a buffer long enough
pub record SoundRequest (c : Card) (s : List ℕ) (room : ℕ) (v : Created) : Type 0 where
  pub card-sound : sound c ≡ true
  pub card-quiet : is_quiet c.phase ≡ true
  pub buffer-long : least_buffer ≤ room
  pub encoded : Encodes c.capacity (create v) s
  pub not-held : any_of (is_for v.aid) c.places ≡ false

-- 6A 84 exactly when no place is free or the quota exceeds free, otherwise 90 00
abbrev pub CreateLive : Type 0
CreateLive =
    (c : Card) (verdict : ℕ) (s : List ℕ) (room : ℕ) (v : Created)
    → SoundRequest c s room v
    → (step c (Command verdict s room)).status ≡ cond (not (any_of is_free c.places) || ltb (free_in c) v.quota) NoRoom Done

-- some create is so written, and taken on one card and not on another
pub record CreateMet : Type 0 where
  pub bytes : List ℕ
  pub asks-for : Created
  pub card : Card
  pub request : SoundRequest card bytes 256 asks-for
  pub taken : (step card (Command 0 bytes 256)).status ≡ Done
  pub small : Card
  pub request-small : SoundRequest small bytes 256 asks-for
  pub not_taken : (step small (Command 0 bytes 256)).status ≡ NoRoom
