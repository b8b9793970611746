-- `read_listed` meets its contract. The loop keeps: the tags left, with those seen so far, give what the whole list gives.
use Rattle.read_fields.proofs.Left.{left-start, left_end, left-no-tag, left-unknown, left-next}
use Rattle.read_tlv.proofs.Inside.{tag-inside}
use mathlib.Core.Path.{◌∙◌}
use native.Mathlib.Omega.{arith}
use Rattle.read_fields.proofs.read_listed.Goals as goal

pub loop-list-init : goal.loop-list-init
loop-list-init c = left-start _ _ _

pub returns-in_err-tag : goal.returns-in_err-tag
returns-in_err-tag c = c.from_residual.ensures ∙ left-no-tag _ _ _ _ _ _ (omega arith) c.in_err-tag.ensures c.loop-list.invariant

pub returns-in_err-tags : goal.returns-in_err-tags
returns-in_err-tags c =
    c.from_residual-in_err-tags.ensures ∙ left-unknown _ _ _ _ _ _ _ _ _ (omega arith) c.in_ok-tag.ensures c.in_err-tags.ensures c.loop-list.invariant

pub loop-list-smaller : goal.loop-list-smaller
loop-list-smaller c = let i = tag-inside _ _ _ _ _ _ c.in_ok-tag.ensures in omega arith

pub loop-list-preserved : goal.loop-list-preserved
loop-list-preserved c =
    let i = tag-inside _ _ _ _ _ _ c.in_ok-tag.ensures in
    left-next _ _ _ _ _ _ _ _ _ (omega arith) c.in_ok-tag.ensures _ _ c.in_ok-tags.ensures i.past c.loop-list.invariant

pub returns : goal.returns
returns c = left_end _ _ _ _ _ _ (omega arith) c.loop-list.invariant
