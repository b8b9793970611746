-- Document 01, 'What is bought': the calls, and what each asks of a card once it is read.
use Rattle.std.specs.Prelude.{ℕ, List, Some, None}
use Rattle.base_bytes.specs.Bytes.{part_of}
use Rattle.read_command.specs.Requests.{field_of}
use Rattle.read_fields.specs.declared.request.Request.{Request}
use Rattle.read_fields.specs.declared.request.Request.TheVariants as request
use Rattle.read_fields.specs.Found.{Field}
use Rattle.read_operator.specs.Field.{policy_of, Policy}
use Rattle.rule_steps.specs.Asked.{Act.enable, Act.disable, Act.delete, Act.master_delete, Act.set_fall_back, Act.status, Act.keyed, Act.stored, Act.finished, Act.set_policy, Asked, Asked.unread, Asked.create, Asked.on, Asked.confirm, Asked.status_of_all, Asked.get_data, Asked.tick, Asked.lost}
use Rattle.card_record.specs.declared.Card.{Card}

-- a call is a value, and so an operator's policy update is one case more (decisions B32, B80)
pub data Call : Type 0 where
  -- the token verdict, the bytes, and how many bytes the lent response buffer has
  Command : ℕ → List ℕ → ℕ → Call
  Keyed : List ℕ → Call
  Stored : List ℕ → ℕ → Call
  -- AID, policy and mark
  Finished : List ℕ → ℕ → ℕ → Call
  Tick : Call
  Lost : Call
  -- a policy update: the AID of the profile whose domain speaks, the bytes that it was sent, and how many bytes the lent response buffer has
  PolicyUpdate : List ℕ → List ℕ → ℕ → Call

abbrev pub request_asks : ℕ → List ℕ → Request → Asked
request_asks verdict s (request.Create aid quota) = create (part_of s aid) quota
request_asks verdict s (request.Enable aid) = on (part_of s aid) enable
request_asks verdict s (request.Disable aid) = on (part_of s aid) disable
request_asks verdict s (request.SetFallBack aid) = on (part_of s aid) set_fall_back
request_asks verdict s (request.Delete aid) = on (part_of s aid) delete
request_asks verdict s (request.MasterDelete aid) = on (part_of s aid) (master_delete verdict)
request_asks verdict s (request.Confirm number) = confirm number
request_asks verdict s (request.GetStatusOfAll next tags) = status_of_all next tags.life tags.fall_back
request_asks verdict s (request.GetStatusOfOne aid tags) = on (part_of s aid) (status tags.life tags.fall_back)
request_asks verdict s request.GetData = get_data

abbrev pub field_asks : ℕ → List ℕ → Field → Asked
field_asks verdict s None = unread
field_asks verdict s (Some r) = request_asks verdict s r

abbrev pub policy_asks : List ℕ → Policy → Asked
policy_asks speaker None = unread
policy_asks speaker (Some p) = on speaker (set_policy p)

-- what a call asks; of the card a reader needs the capacity (decision 26)
abbrev pub asked_of : ℕ → Call → Asked
asked_of capacity (Command verdict s room) = field_asks verdict s (field_of s capacity)
asked_of capacity (Keyed aid) = on aid keyed
asked_of capacity (Stored aid n) = on aid (stored n)
asked_of capacity (Finished aid policy mark) = on aid (finished policy mark)
asked_of capacity Tick = tick
asked_of capacity Lost = lost
asked_of capacity (PolicyUpdate speaker s room) = policy_asks speaker (policy_of s)

abbrev pub asked : Card → Call → Asked
asked c call = asked_of c.capacity call
