-- `writing::put_hex` meets its contract: digits filled in where all have room leave what writing them leaves; else the loop has written
-- those of the bytes so far.
use native.Mathlib.Omega.{arith}
use borrow.Author.Rules.{rules}
use Rattle.base_bytes.proofs.PutLaws.{written_none, written_then, written_as, wrote_over}
use Rattle.text_words.specs.Hex.{hex_text}
use Rattle.text_words.proofs.HexLaws.{hex-length, hex_next}
use Rattle.text_words.proofs.writing.put_hex.Goals as goal

pub returns-then-s-size : goal.returns-then-s-size
returns-then-s-size c = record {
  lent = search rules;
  wrote = wrote_over _ _ _ _ (omega (arith, hex-length c.args.s.now)) (omega (arith, hex-length c.args.s.now)) c.fill_hex.ensures (omega (arith, hex-length c.args.s.now));
}

pub loop-n-init : goal.loop-n-init
unfolding hex_text
loop-n-init c = written_none _

pub loop-n-preserved : goal.loop-n-preserved
loop-n-preserved c = written_as _ (hex_next _ _ (omega arith)) (written_then c.loop-n.invariant c.put_hex_8.ensures)
