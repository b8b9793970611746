-- Document 01, 'Sizes' and 'The card': AIDs, as they come and as they are kept.
use Rattle.std.specs.Prelude.{ℕ, ◌-◌, List, ◌++◌, Bool, ◌&&◌, length, take, replicate, leb}
use Rattle.card_isdp.specs.Sizes.{least_aid, most_aid}
use Rattle.card_isdp.specs.declared.Isdp.{Isdp}
use Rattle.card_isdp.specs.declared.Aid.{Aid}

-- "AID 5 to 16 bytes"
abbrev pub aid_ok : List ℕ → Bool
aid_ok aid = leb least_aid (length aid) && leb (length aid) most_aid

-- sixteen bytes: the AID, then zeros
unfoldable pub padded : List ℕ → List ℕ
padded aid = take most_aid aid ++ replicate (most_aid - length aid) 0

-- an AID as it is kept; of one that is too long, the first sixteen bytes (decision B35)
abbrev pub named : List ℕ → Aid
named aid = record { bytes = padded aid; len = length (take most_aid aid) }

-- no AID
abbrev pub no_aid : Aid
no_aid = record { bytes = replicate most_aid 0; len = 0 }

-- the bytes of an AID that is kept
abbrev pub bytes_of : Aid → List ℕ
bytes_of a = take a.len a.bytes

-- the AID of a place, as bytes
abbrev pub aid_of : Isdp → List ℕ
aid_of p = bytes_of p.aid
