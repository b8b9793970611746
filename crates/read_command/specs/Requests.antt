-- Document 01, 'Reading a command', the list: which request the data field of each instruction makes, or that it is wrong.
-- The field stands from the sixth byte up to data_end.
use Rattle.std.specs.Prelude.{ℕ, List, Bool, eqb, Some, is_none}
use Rattle.base_choice.specs.Choice.{pick, is_same}
use Rattle.read_fields.specs.StoreData.{store_data_at}
use Rattle.read_fields.specs.Delete.{deletion_at}
use Rattle.read_fields.specs.GetStatus.{listing_at}
use Rattle.read_fields.specs.declared.request.Request.TheVariants as request
use Rattle.read_fields.specs.Found.{Field}
use Rattle.read_install.specs.Install.{install_of}
use Rattle.base_bytes.specs.Bytes.{byte}
use Rattle.read_frame.specs.Framing.{data_end}

-- P2 03 of a GET STATUS: the listing goes on from the kept place (request 2026-05; 000, Table 26: "Get next occurrence(s)") (decision B73)
abbrev pub goes_on : List ℕ → Bool
goes_on s = eqb (byte s 3) 0x03

-- GET DATA has no data field
unfoldable pub field_of : List ℕ → ℕ → Field
field_of s capacity =
    pick (is_same (byte s 1) 0xE6) (install_of s 5 (data_end s) capacity)
    (pick (is_same (byte s 1) 0xE4) (deletion_at s 5 (data_end s))
    (pick (is_same (byte s 1) 0xE2) (store_data_at s 5 (data_end s))
    (pick (is_same (byte s 1) 0xF2) (listing_at (goes_on s) s 5 (data_end s))
    (Some request.GetData))))

abbrev pub is_field_wrong : Field → Bool
is_field_wrong field = is_none field

-- 6A 80: data field or DGI wrong
unfoldable pub data_wrong : List ℕ → ℕ → Bool
data_wrong s capacity = is_field_wrong (field_of s capacity)
