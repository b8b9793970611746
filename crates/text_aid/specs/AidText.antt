-- An AID in hex, two digits a byte.
use Rattle.std.specs.Prelude.{ℕ, List}
use Rattle.text_words.specs.Hex.{hex_text}
use Rattle.card_isdp.specs.Aids.{bytes_of}
use Rattle.card_isdp.specs.declared.Aid.{Aid}

-- an AID, with its true length
abbrev pub aid_text : Aid → List ℕ
aid_text a = hex_text (bytes_of a)
