-- Document 01, 'Steps': "Confirmation: closes the change." Which one is accepted is said of every command that writes one, as the grammar
-- of its bytes has it.
use Rattle.std.specs.Prelude.{ℕ, ◌≤◌, ◌≡◌, List, true, false}
use Rattle.card_record.specs.Cards.{is_quiet}
use Rattle.card_record.specs.Sound.{sound}
use Rattle.card_record.specs.Clock.{outstanding}
use Rattle.card_record.specs.declared.Card.{Card}
use Rattle.card_record.specs.declared.Phase.TheVariants.{Quiet}
use Rattle.read_fields.specs.Grammar.{confirmation, store_data}
use Rattle.read_command.specs.Grammar.{Encodes}
use Rattle.rule_run.specs.Calls.{Call, Call.Command}
use Rattle.rule_run.specs.Table.{least_buffer}
use Rattle.rule_run.specs.Step.{step}
use Rattle.rule_run.specs.Runs.{enabled_bytes, taken, confirms}

-- it is accepted exactly where its number is the outstanding one; where no change is open there is none
abbrev pub ConfirmationTaken : Type 0
ConfirmationTaken =
    (c : Card) (verdict : ℕ) (s : List ℕ) (room number : ℕ)
    → sound c ≡ true
    → least_buffer ≤ room
    → Encodes c.capacity (store_data (confirmation number)) s
    → taken c (Command verdict s room) ≡ outstanding c.phase number

-- an accepted one closes any open change, a lost network's too, and the profile that is enabled stays enabled (decision 65)
pub record Closed (c d : Card) : Type 0 where
  pub was-open : is_quiet c.phase ≡ false
  pub quiet : d.phase ≡ Quiet
  pub enabled : enabled_bytes d ≡ enabled_bytes c
  pub last : d.last ≡ c.last

abbrev pub ConfirmationCloses : Type 0
ConfirmationCloses = (c : Card) (call : Call) → confirms c call ≡ true → Closed c (step c call).card

-- a card in Trial takes one, and not its neighbour's
pub record ConfirmationMet : Type 0 where
  pub card : Card
  pub card-sound : sound card ≡ true
  pub bytes : List ℕ
  pub number : ℕ
  pub encoded : Encodes card.capacity (store_data (confirmation number)) bytes
  pub is-taken : taken card (Command 0 bytes 256) ≡ true
  pub later : List ℕ
  pub after : ℕ
  pub encoded-later : Encodes card.capacity (store_data (confirmation after)) later
  pub not_taken : taken card (Command 0 later 256) ≡ false
