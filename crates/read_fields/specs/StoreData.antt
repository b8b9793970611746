-- Document 01, 'Reading a command': "a DGI is two bytes and one length byte up to FE, and fills the data field"; set fall-back, enable,
-- disable and confirmation with their DGIs and tags (000, Tables 13, 16, 36 and 62).
use Rattle.std.specs.Prelude.{ℕ, ◌+◌, List, length, Option, Some, None}
use Rattle.base_choice.specs.Choice.{pick, is_below, is_same}
use Rattle.base_bytes.specs.Bytes.{byte, pair_at, between}
use Rattle.read_tlv.specs.Tlv.{on_found}
use Rattle.base_bytes.specs.declared.Part.{Part}
use Rattle.read_tlv.specs.Lists.{list_wrong}
use Rattle.read_elements.specs.Reader.{alone_at}
use Rattle.read_fields.specs.declared.Dgi.{Dgi}
use Rattle.read_fields.specs.declared.request.Request.TheVariants as request
use Rattle.read_fields.specs.Found.{Field}

-- a DGI that was read
abbrev pub dgi_read : ℕ → ℕ → Option Dgi
dgi_read number start = Some (record { number = number; start = start })

-- "one length byte up to FE, and fills the data field": not the length form of an element (decisions 23, 32)
unfoldable pub dgi_at : List ℕ → ℕ → ℕ → Option Dgi
dgi_at s at end =
    pick (is_below (length s) end) None
    (pick (is_below end (at + 3)) None
    (pick (is_below 0xFE (byte s (at + 2))) None
    (pick (is_same (at + 3 + byte s (at + 2)) end)
    (dgi_read (pair_at s at) (at + 3))
    None)))

abbrev pub on_dgi {ℓ} : {X : Type ℓ} → Option Dgi → X → (ℕ → ℕ → X) → X
on_dgi None w f = w
on_dgi (Some d) w f = f d.number d.start

-- one 4E of exactly 2 bytes, high byte first (decision 33)
unfoldable pub confirmation_at : List ℕ → ℕ → ℕ → Field
confirmation_at s at end =
    on_found (alone_at s at end 0x4E 2 2) None λ start stop.
    Some (request.Confirm (pair_at s start))

-- the command that a DGI names, on an AID; 3A06 and 3A07 of 000 are not bought (decision 6)
unfoldable pub request_named : ℕ → Part → Field
request_named number aid =
    pick (is_same number 0x3A03) (Some (request.Enable aid))
    (pick (is_same number 0x3A04) (Some (request.Disable aid))
    (pick (is_same number 0x3A05) (Some (request.SetFallBack aid))
    None))

-- an AID of another length is wrong data before it is looked for (decision 29)
unfoldable pub store_data_at : List ℕ → ℕ → ℕ → Field
store_data_at s at end =
    on_dgi (dgi_at s at end) None λ number contents.
    pick (list_wrong s contents end) None
    (pick (is_same number 0x3A08) (confirmation_at s contents end)
    (on_found (alone_at s contents end 0x4F 5 16) None λ start stop.
    request_named number (between start stop)))
