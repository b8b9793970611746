-- A session with a script: what a line makes of the card, and the text that answers it. "Each call writes SW RESPONSE NOTIFICATION
-- TICKS"; with `explain` it writes for a person instead; a line that cannot be read is named, and the run stops there.
use Rattle.std.specs.Prelude.{ℕ, suc, ◌+◌, ◌*◌, ◌≡◌, List, [], ◌∷◌, ◌++◌, Bool, true, false, cond, ◌&&◌, Result}
use Rattle.text_words.specs.Hex.{spelled}
use Rattle.base_status.specs.StatusWords.{is_done}
use Rattle.base_status.specs.declared.Status.TheVariants.{Done}
use Rattle.card_isdp.specs.Aids.{no_aid}
use Rattle.card_record.specs.Steps.{step_to}
use Rattle.card_record.specs.Answers.{Outcome, Work, as_answer, outcome}
use Rattle.card_record.specs.Fresh.{zero_card, fresh_outcome}
use Rattle.card_record.specs.declared.Card.{Card}
use Rattle.card_record.specs.declared.Answer.{Answer}
use Rattle.base_bytes.specs.declared.Part.{Part}
use Rattle.base_bytes.specs.Bytes.{part_of}
use Rattle.rule_run.specs.Calls.{Call, Call.Command, Call.Keyed, Call.Stored, Call.Finished, Call.Tick, Call.Lost, Call.PolicyUpdate}
use Rattle.rule_run.specs.Step.{step, on_sound}
use Rattle.record_door.specs.declared.Call as declared
use Rattle.record_door.specs.declared.Call.TheVariants as code
use Rattle.script_line.specs.Orders.{most_buffer, order_of}
use Rattle.script_record.specs.Records.{record_at}
use Rattle.script_words.specs.Arguments.{on_ok}
use Rattle.script_words.specs.declared.Reason.{Reason}
use Rattle.script_line.specs.declared.Order.{Order}
use Rattle.script_line.specs.declared.Order.TheVariants as order
use Rattle.script_answer.specs.Lines.{answer_line}
use Rattle.script_answer.specs.Explained.{explained_text, most_explained}
use Rattle.script_reply.specs.Reasons.{reason_line}

-- the byte strings of a call have together at most so many bytes: two digits each, in a line of 4,096
abbrev pub most_bytes : ℕ
most_bytes = 2048

-- the bytes that a part of the line spells, once the line's order was read: its words are hex then
abbrev pub spelled_bytes : List ℕ → Part → List ℕ
spelled_bytes s p = spelled (part_of s p)

-- the call that a line asks for: over the bytes that its words spell
abbrev pub call_spelled : List ℕ → ℕ → declared.Call → Call
call_spelled s room (code.Command verdict bytes) = Command verdict (spelled_bytes s bytes) room
call_spelled s room (code.Keyed aid) = Keyed (spelled_bytes s aid)
call_spelled s room (code.Stored aid n) = Stored (spelled_bytes s aid) n
call_spelled s room (code.Finished aid policy mark) = Finished (spelled_bytes s aid) policy mark
call_spelled s room code.Tick = Tick
call_spelled s room code.Lost = Lost
call_spelled s room (code.PolicyUpdate speaker bytes) = PolicyUpdate (spelled_bytes s speaker) (spelled_bytes s bytes) room

-- these bytes as they stand in the buffer that is lent for them: of two byte strings one after the other
abbrev pub bytes_in : List ℕ → declared.Call → List ℕ
bytes_in s (code.Command verdict bytes) = spelled_bytes s bytes
bytes_in s (code.Keyed aid) = spelled_bytes s aid
bytes_in s (code.Stored aid n) = spelled_bytes s aid
bytes_in s (code.Finished aid policy mark) = spelled_bytes s aid
bytes_in s code.Tick = []
bytes_in s code.Lost = []
bytes_in s (code.PolicyUpdate speaker bytes) = spelled_bytes s speaker ++ spelled_bytes s bytes

-- `card` hands in any record: 6F 00 where it is not sound, else 90 00 and its ticks (decisions B26, B75)
abbrev pub record_work : Card → Work
record_work c = record { rows = []; success = Done; step = step_to c c no_aid; response = [] }

abbrev pub record_outcome : Card → Outcome
record_outcome c = outcome c (record_work c)

-- what a line comes to: the card and whether it is known to be sound, the text, whether the run goes on, and what is left at the front
-- of the two buffers that are lent for a call's bytes and its response
pub record Reply : Type 0 where
  pub card : Card
  pub sound : Bool
  pub text : List ℕ
  pub goes : Bool
  pub bytes : List ℕ
  pub response : List ℕ

-- an answer on one line, or for a person
abbrev pub answer_text : Bool → Answer → List ℕ → List ℕ
answer_text explain a response = cond explain (explained_text a response) (answer_line a response)

-- the reply of an outcome; `bytes` were spelled for it
abbrev pub reply_of : Bool → Bool → List ℕ → Outcome → Reply
reply_of explain found bytes o =
    record {
      card = o.card;
      sound = found;
      text = answer_text explain (as_answer o) o.response;
      goes = true;
      bytes = bytes;
      response = o.response;
    }

-- of a call that hands in a card: sound exactly where it is accepted
abbrev pub first_reply : Bool → Outcome → Reply
first_reply explain o = reply_of explain (is_done o.status) [] o

-- nothing is said, or a fault, and the card stays
abbrev pub no_reply : Card → Bool → Reply
no_reply c found = record { card = c; sound = found; text = []; goes = true; bytes = []; response = [] }

-- a bad line is told by its text, and ends its own script (decision B27)
abbrev pub fault_reply : Card → Bool → ℕ → Reason → Reply
fault_reply c found n reason = record { card = c; sound = found; text = reason_line n reason; goes = false; bytes = []; response = [] }

-- what an order comes to where `answer` answers the calls on the card; `found` says whether the card is known to be sound
abbrev pub ordered_by : (Call → Outcome) → Card → Bool → Bool → ℕ → List ℕ → Order → Reply
ordered_by answer c found explain n s order.Nothing = no_reply c found
ordered_by answer c found explain n s (order.Fresh asked) =
    first_reply explain (fresh_outcome (spelled_bytes s asked.eid) (spelled_bytes s asked.aid) asked.capacity asked.quota asked.used asked.volatile)
ordered_by answer c found explain n s (order.Call x room) = reply_of explain found (bytes_in s x) (answer (call_spelled s room x))
ordered_by answer c found explain n s (order.Record at) =
    on_ok (record_at s at) (fault_reply c found n) λ d. first_reply explain (record_outcome d)

-- the same of a line that was read, or that is wrong
abbrev pub reply_by : (Call → Outcome) → Card → Bool → Bool → ℕ → List ℕ → Result Order Reason → Reply
reply_by answer c found explain n s line = on_ok line (fault_reply c found n) (ordered_by answer c found explain n s)

-- a call on a card known to be sound, or on one that has to be asked (decision B29)
abbrev pub answer_to : Bool → Card → Call → Outcome
answer_to found c call = cond found (on_sound c call) (step c call)

-- line n of a script, on a card
unfoldable pub reply_to_line : Card → Bool → Bool → ℕ → List ℕ → Reply
reply_to_line c found explain n s = reply_by (answer_to found c) c found explain n s (order_of s)

-- what a script is answered, line by line from line n on; a line that cannot be read ends it. Before line n what is known of the
-- card's soundness may be forgotten: `keep n` says whether it is kept.
unfoldable pub script_of : (ℕ → Bool) → Card → Bool → Bool → ℕ → List (List ℕ) → List ℕ
script_of keep c found explain n [] = []
script_of keep c found explain n (s ∷ rest) =
    (reply_to_line c (keep n && found) explain n s).text
    ++ cond (reply_to_line c (keep n && found) explain n s).goes
    (script_of keep (reply_to_line c (keep n && found) explain n s).card (reply_to_line c (keep n && found) explain n s).sound explain (suc n) rest)
    []

-- the same with nothing kept: the manager is asked at every call, and asks each time whether the card is sound
unfoldable pub checked_line : Card → Bool → ℕ → List ℕ → Reply
checked_line c explain n s = reply_by (step c) c false explain n s (order_of s)

unfoldable pub checked_script : Card → Bool → ℕ → List (List ℕ) → List ℕ
checked_script c explain n [] = []
checked_script c explain n (s ∷ rest) =
    (checked_line c explain n s).text
    ++ cond (checked_line c explain n s).goes (checked_script (checked_line c explain n s).card explain (suc n) rest) []

-- every script is answered as if soundness were asked at every call, wherever it is kept and wherever it is forgotten (decision B29)
abbrev pub CheckedOnce : Type 0
CheckedOnce =
    (keep : ℕ → Bool) (explain : Bool) (lines : List (List ℕ)) →
    script_of keep zero_card false explain 1 lines ≡ checked_script zero_card explain 1 lines

-- no text of a line is longer: two digits for each byte of the largest response buffer, and what stands beside them (decision B30)
abbrev pub most_text : ℕ
most_text = most_buffer * 2 + most_explained
