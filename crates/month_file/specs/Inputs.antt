-- docs/EVENTS.md, 'The file': "The fresh card's inputs are EID (16 bytes), capacity, quota, used, volatile (4 bytes each), and the AID, which
-- is all the rest."
use Rattle.std.specs.Prelude.{ℕ, List, Bool, not, ◌||◌, length, take, drop, ltb}
use Rattle.base_bytes.specs.Bytes.{four_at}
use Rattle.base_status.specs.StatusWords.{is_done}
use Rattle.card_record.specs.Answers.{Outcome}
use Rattle.rule_run.specs.Inputs.{Inputs, fresh_of}

abbrev pub inputs_of : List ℕ → Inputs
inputs_of f =
    record {
      eid = take 16 f;
      capacity = four_at f 16;
      quota = four_at f 20;
      used = four_at f 24;
      volatile = four_at f 28;
      aid = drop 32 f;
    }

-- what the fresh call answers
unfoldable pub fresh_answer : List ℕ → Outcome
fresh_answer f = fresh_of (inputs_of f)

-- "the inputs have under 32 bytes, or the fresh call answers 6A 80"
unfoldable pub fresh_bad : List ℕ → Bool
fresh_bad f = ltb (length f) 32 || not (is_done (fresh_answer f).status)
