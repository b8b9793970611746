-- `hex::spell` meets its contract. The loop keeps: writing what is left, from here on, leaves what writing all leaves.
use native.Mathlib.Omega.{arith}
use mathlib.Core.Path.{refl}
use Rattle.text_words.proofs.HexLaws.{spell_next, spell-end}
use Rattle.base_bytes.proofs.Rest.{rest}
use Rattle.text_words.proofs.hex.spell.Goals as goal

pub loop-k-init : goal.loop-k-init
unfolding rest
loop-k-init c = refl

pub loop-k-preserved : goal.loop-k-preserved
loop-k-preserved c = spell_next _ _ _ _ c.loop-k.invariant _ c.byte_of.ensures (omega arith)

pub returns : goal.returns
returns c = spell-end _ _ _ _ c.loop-k.invariant (omega arith)
