-- `hex::spell_hex` meets its contract: the bytes where they fit, else none.
use native.Mathlib.Omega.{arith}
use lib.ListN.{length}
use mathlib.Core.Path.{ap, sym, ◌∙◌}
use Rattle.base_bytes.proofs.PutLaws.{put_as, put-kept}
use Rattle.text_words.proofs.HexLaws.{spelled-length, in-fits, in-full}
use Rattle.text_words.proofs.hex.spell_hex.Goals as goal

pub returns-then-out-n : goal.returns-then-out-n
returns-then-out-n c = let a = c.args in
    let e = in-full a.s.now (length a.out.now) (omega arith) in
    (ap length e, put-kept _ _ e)

pub returns : goal.returns
returns c = let a = c.args in
    let e = in-fits a.s.now (length a.out.now) (omega arith) in
    (sym (spelled-length a.s.now) ∙ ap length e, put_as _ _ e c.spell.ensures)
