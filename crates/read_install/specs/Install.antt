-- Document 01, 'Reading a command', 'Create': GP's INSTALL data field (000, Table 9), "six fields each after its length in the form
-- above, filling it exactly: load file AID and module AID (5 to 16 bytes), ISD-P AID, privileges (1 or 3 bytes), install parameters,
-- token (length 0)".
use Rattle.std.specs.Prelude.{ℕ, ◌+◌, ◌-◌, List, Option, Some, None}
use Rattle.base_bytes.specs.Bytes.{between}
use Rattle.base_choice.specs.Choice.{pick, is_below, is_same}
use Rattle.read_tlv.specs.Tlv.{element_read, length_at, on_found}
use Rattle.read_tlv.specs.declared.Length.{Length}
use Rattle.read_tlv.specs.declared.Element.{Element}
use Rattle.read_fields.specs.declared.request.Request.TheVariants as request
use Rattle.read_fields.specs.Found.{Field}
use Rattle.read_install.specs.Parameters.{parameters_at}

-- a value after its length, where the window has so many bytes and they are `low` to `high`
unfoldable pub prefixed_of : ℕ → ℕ → ℕ → Option Length → Option Element
prefixed_of end low high None = None
prefixed_of end low high (Some length) =
    pick (is_below (end - length.next) length.count) None
    (pick (is_below length.count low) None
    (pick (is_below high length.count) None
    (element_read length.next (length.next + length.count))))

unfoldable pub prefixed_at : List ℕ → ℕ → ℕ → ℕ → ℕ → Option Element
unfolding prefixed_of
prefixed_at s at end low high = prefixed_of end low high (length_at s at end)

-- load file AID, module AID, and then the ISD-P AID, which is handed on (decisions 12, 27)
unfoldable pub names_at : List ℕ → ℕ → ℕ → Option Element
names_at s at end =
    on_found (prefixed_at s at end 5 16) None λ _ next.
    on_found (prefixed_at s next end 5 16) None λ _ own.
    prefixed_at s own end 5 16

-- privileges, install parameters, which are handed on, and token, which is empty and ends the field (decisions 12, 13, 27)
unfoldable pub rights_at : List ℕ → ℕ → ℕ → Option Element
rights_at s at end =
    on_found (prefixed_at s at end 1 3) None λ start stop.
    pick (is_same (stop - start) 2) None
    (on_found (prefixed_at s stop end 0 255) None λ from to.
    on_found (prefixed_at s to end 0 0) None λ _ last.
    pick (is_same last end) (element_read from to) None)

abbrev pub on_granted {ℓ} : {X : Type ℓ} → Option ℕ → X → (ℕ → X) → X
on_granted None w f = w
on_granted (Some number) w f = f number

-- "1 up to capacity" is a matter of the data field, so the reader is handed the capacity (decision 26)
unfoldable pub install_of : List ℕ → ℕ → ℕ → ℕ → Field
install_of s at end capacity =
    on_found (names_at s at end) None λ start stop.
    on_found (rights_at s stop end) None λ from to.
    on_granted (parameters_at s from to capacity) None λ number.
    Some (request.Create (between start stop) number)
