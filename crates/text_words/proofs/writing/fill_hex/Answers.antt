-- `writing::fill_hex` meets its contract: the part begins with the digits of the bytes so far.
use native.Mathlib.Omega.{arith}
use mathlib.Core.Path.{refl, sym, ap, ◌∙◌}
use Prim.Native.Nat.{◌*◌}
use lib.ListN.{length-set}
use lib.Seq.{take_all}
use Rattle.text_words.specs.Hex.{hex_text}
use Rattle.text_words.proofs.HexLaws.{fill_turn}
use Rattle.text_words.proofs.writing.fill_hex.Goals as goal

pub loop-i-init : goal.loop-i-init
unfolding hex_text
loop-i-init c = (omega arith, refl)

pub loop-i-preserved : goal.loop-i-preserved
loop-i-preserved c = let l = c.loop-i in
    (simp length-set l.invariant.0, fill_turn _ _ _ _ _ l.invariant.1 c.glyph.ensures c.glyph-in-loop-i.ensures (omega arith) (omega arith))

pub returns : goal.returns
returns c = let l = c.loop-i in
    let s = c.args.s.now in
    sym (take_all (l.i * 2) l.room (omega arith)) ∙ l.invariant.1 ∙ ap hex_text (take_all l.i s (omega arith))
