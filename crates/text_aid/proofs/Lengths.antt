-- How long the text of an AID is, where it has 16 bytes at the most, as every record of the code has. Assumes nothing.
use Prim.Native.Nat.{◌≤◌}
use native.Mathlib.Omega.{arith}
use lib.ListN.{length, length-take}
use Rattle.text_words.proofs.HexLaws.{hex-length}
use Rattle.card_isdp.specs.declared.Aid.{Aid}
use Rattle.text_aid.specs.AidText.{aid_text}

pub aid-length : (a : Aid) → length a.bytes ≤ 16 → length (aid_text a) ≤ 32
aid-length a h = simp (hex-length, length-take) (omega arith)
