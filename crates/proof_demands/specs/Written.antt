-- Document 01, 'Reading a command' and 'Steps': from written bytes to the answer, for every command. What a command asks is said here by
-- what the grammar of its bytes writes; no reader of bytes stands in these statements.
use Rattle.std.specs.Prelude.{ℕ, ◌≤◌, ◌≡◌, List, [], ◌∷◌, Bool, true, false}
use Rattle.base_status.specs.StatusWords.{is_done}
use Rattle.base_status.specs.declared.Status.{Status}
use Rattle.base_status.specs.declared.Status.TheVariants.{Unsound, BufferShort, LengthWrong, ClassWrong, InstructionWrong, ParametersWrong, DataWrong, StateWrong, NotHeld, PolicyForbids, VerdictWrong, NoRoom, More, Done}
use Rattle.card_record.specs.Sound.{sound}
use Rattle.card_record.specs.Answers.{outcome}
use Rattle.card_record.specs.declared.Card.{Card}
use Rattle.read_tlv.specs.Encoding.{Bytes}
use Rattle.read_fields.specs.Grammar as field
use Rattle.read_fields.specs.Grammar.{Wanted}
use Rattle.read_command.specs.Grammar.{Encodes}
use Rattle.read_operator.specs.Grammar.{EncodesUpdate}
use Rattle.rule_steps.specs.Asked.{Act.enable, Act.disable, Act.delete, Act.master_delete, Act.set_fall_back, Act.status, Act.set_policy, Asked, Asked.create, Asked.on, Asked.confirm, Asked.status_of_all, Asked.get_data}
use Rattle.rule_steps.specs.Steps.{asked_work, inner_work}
use Rattle.rule_run.specs.Calls.{Call.Command, Call.PolicyUpdate}
use Rattle.rule_run.specs.Table.{least_buffer}
use Rattle.rule_run.specs.Step.{step}

abbrev pub stored_asks : field.Stored → Asked
stored_asks (field.enable aid) = on aid enable
stored_asks (field.disable aid) = on aid disable
stored_asks (field.set_fall_back aid) = on aid set_fall_back
stored_asks (field.confirmation number) = confirm number

-- the token verdict is handed in beside the bytes
abbrev pub deleted_asks : ℕ → field.Deletion → Asked
deleted_asks verdict (field.delete aid) = on aid delete
deleted_asks verdict (field.master_delete aid) = on aid (master_delete verdict)

-- 4F is empty, for all, or an AID, which P2 03 never names
abbrev pub listed_asks : Bool → List ℕ → Bool → Bool → Asked
listed_asks next [] life shown = status_of_all next life shown
listed_asks next (first ∷ rest) life shown = on (first ∷ rest) (status life shown)

-- what a written command asks of the card
abbrev pub wanted_asks : ℕ → Wanted → Asked
wanted_asks verdict (field.create v) = create v.aid v.quota
wanted_asks verdict (field.store_data v) = stored_asks v
wanted_asks verdict (field.deletion v) = deleted_asks verdict v
wanted_asks verdict (field.get_status v) = listed_asks v.next v.who v.life v.fall_back_shown
wanted_asks verdict field.get_data = get_data

-- the answer to a written command is the outcome of what was written: the card's rows of the table, the step and the response of that
abbrev pub WrittenAnswered : Type 0
WrittenAnswered =
    (c : Card) (verdict : ℕ) (s : List ℕ) (room : ℕ) (w : Wanted)
    → least_buffer ≤ room
    → Encodes c.capacity w s
    → step c (Command verdict s room) ≡ outcome c (asked_work c (wanted_asks verdict w))

-- an accepted command was so written
abbrev pub AcceptedWritten : Type 0
AcceptedWritten =
    (c : Card) (verdict : ℕ) (s : List ℕ) (room : ℕ)
    → Bytes s
    → is_done (step c (Command verdict s room)).status ≡ true
    → (w : Wanted) × ((least_buffer ≤ room) × Encodes c.capacity w s)

-- a word that says that a command cannot be read
abbrev pub of_reading : Status → Bool
of_reading Unsound = false
of_reading BufferShort = false
of_reading LengthWrong = true
of_reading ClassWrong = true
of_reading InstructionWrong = true
of_reading ParametersWrong = true
of_reading DataWrong = true
of_reading StateWrong = false
of_reading NotHeld = false
of_reading PolicyForbids = false
of_reading VerdictWrong = false
of_reading NoRoom = false
of_reading More = false
of_reading Done = false

-- what nobody writes so is refused by such a word
abbrev pub UnwrittenRefused : Type 0
UnwrittenRefused =
    (c : Card) (verdict : ℕ) (s : List ℕ) (room : ℕ)
    → Bytes s
    → sound c ≡ true
    → least_buffer ≤ room
    → ((w : Wanted) → Encodes c.capacity w s → ⊥)
    → of_reading (step c (Command verdict s room)).status ≡ true

-- no bytes are written for two things
abbrev pub OneMeaning : Type 0
OneMeaning = (s : List ℕ) (capacity : ℕ) (v w : Wanted) → Encodes capacity v s → Encodes capacity w s → v ≡ w

-- ---- the same of a policy update: its bytes write a policy, and who speaks is handed in beside them

abbrev pub UpdateAnswered : Type 0
UpdateAnswered =
    (c : Card) (speaker s : List ℕ) (room policy : ℕ)
    → least_buffer ≤ room
    → EncodesUpdate policy s
    → step c (PolicyUpdate speaker s room) ≡ outcome c (inner_work c speaker (set_policy policy))

abbrev pub AcceptedUpdate : Type 0
AcceptedUpdate =
    (c : Card) (speaker s : List ℕ) (room : ℕ)
    → Bytes s
    → is_done (step c (PolicyUpdate speaker s room)).status ≡ true
    → (policy : ℕ) × ((least_buffer ≤ room) × EncodesUpdate policy s)

abbrev pub UnwrittenUpdate : Type 0
UnwrittenUpdate =
    (c : Card) (speaker s : List ℕ) (room : ℕ)
    → Bytes s
    → sound c ≡ true
    → least_buffer ≤ room
    → ((policy : ℕ) → EncodesUpdate policy s → ⊥)
    → of_reading (step c (PolicyUpdate speaker s room)).status ≡ true

abbrev pub OnePolicy : Type 0
OnePolicy = (s : List ℕ) (p q : ℕ) → EncodesUpdate p s → EncodesUpdate q s → p ≡ q

pub record Written : Type 0 where
  pub written-answered : WrittenAnswered
  pub accepted-written : AcceptedWritten
  pub unwritten-refused : UnwrittenRefused
  pub one-meaning : OneMeaning
  pub update-answered : UpdateAnswered
  pub accepted-update : AcceptedUpdate
  pub unwritten-update : UnwrittenUpdate
  pub one-policy : OnePolicy
