-- `hex::read_hex` meets its contract: each exit is one of the three answers, with what it leaves.
use native.Mathlib.Omega.{arith}
use lib.ListN.{length}
use mathlib.Core.Path.{sym, ◌∙◌}
use Rattle.base_bytes.proofs.PutLaws.{put_as, put-kept}
use Rattle.text_words.proofs.HexLaws.{hex-fits, hex-full, hex-wrong}
use Rattle.text_words.proofs.hex.read_hex.Goals as goal

pub returns-then-not-is_hex : goal.returns-then-not-is_hex
returns-then-not-is_hex c = let e = hex-wrong _ _ (sym c.is_hex.ensures ∙ c.if-not-is_hex.true) in
    (e.0, put-kept _ _ e.1)

pub returns-then-out-n : goal.returns-then-out-n
returns-then-out-n c = let room = length c.args.out.now in
    let e = hex-full _ room (sym c.is_hex.ensures ∙ c.if-not-is_hex.false) (omega arith) in
    (e.0, put-kept _ _ e.1)

pub returns : goal.returns
returns c = let room = length c.args.out.now in
    let e = hex-fits _ room (sym c.is_hex.ensures ∙ c.if-not-is_hex.false) (omega arith) in
    (e.0, put_as _ _ e.1 c.spell.ensures)
