-- Document 01, 'Reading a command', TLV: "Elements fill their list exactly and come in the order of the table", of a data field and a
-- position in it: the reader past an element, whether it is at the end, and the element that ends the field.
use Rattle.std.specs.Prelude.{ℕ, List, Bool, Option, None, eqb}
use Rattle.base_choice.specs.Choice.{pick, is_same}
use Rattle.read_tlv.specs.Tlv.{element_read, expect_at, on_found}
use Rattle.read_tlv.specs.declared.Element.{Element}
use Rattle.read_elements.specs.declared.Reader.{Reader}

-- past an element; where there is none, nothing is passed
abbrev pub past_of : ℕ → Option Element → ℕ
past_of at found = on_found found at λ start stop. stop

-- the reader past an element
abbrev pub moved : Reader → Option Element → Reader
moved r found = record { bytes = r.bytes; at = past_of r.at found; end = r.end }

abbrev pub at_end : Reader → Bool
at_end r = eqb r.at r.end

-- the element, where it stops at the end: "Elements fill their list exactly"
unfoldable pub alone_at : List ℕ → ℕ → ℕ → ℕ → ℕ → ℕ → Option Element
alone_at s at end tag low high =
    on_found (expect_at s at end tag low high) None λ start stop.
    pick (is_same stop end) (element_read start stop) None
