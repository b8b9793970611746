-- 000, 4.1.2.1, Table 69: the data field of a policy update is DGI 3A06, and in it one 81 of one byte, the new policy. A DGI and its
-- elements are read as document 01, 'Reading a command', has them.
use Rattle.std.specs.Prelude.{ℕ, List, Bool, Option, Some, None, is_none}
use Rattle.base_choice.specs.Choice.{pick, is_same}
use Rattle.base_bytes.specs.Bytes.{byte}
use Rattle.read_tlv.specs.Tlv.{on_found}
use Rattle.read_tlv.specs.Lists.{list_wrong}
use Rattle.read_elements.specs.Reader.{alone_at}
use Rattle.read_fields.specs.StoreData.{dgi_at, on_dgi}
use Rattle.read_frame.specs.Framing.{data_end}

-- what is read of the data field
abbrev pub Policy : Type 0
Policy = Option ℕ

-- one element 81 of one byte; any other DGI, those of the root domain too, is wrong (decision B82)
unfoldable pub policy_at : List ℕ → ℕ → ℕ → Policy
policy_at s at end =
    on_dgi (dgi_at s at end) None λ number contents.
    pick (list_wrong s contents end) None
    (pick (is_same number 0x3A06)
    (on_found (alone_at s contents end 0x81 1 1) None λ start stop. Some (byte s start))
    None)

-- the field stands from the sixth byte up to data_end
unfoldable pub policy_of : List ℕ → Policy
policy_of s = policy_at s 5 (data_end s)

abbrev pub is_policy_wrong : Policy → Bool
is_policy_wrong policy = is_none policy
