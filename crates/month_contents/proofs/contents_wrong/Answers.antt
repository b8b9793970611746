-- `contents_wrong` meets its contract: an exit is a law of the definition, one for each refusal.
use mathlib.Core.Path.{sym, ◌∙◌}
use native.Mathlib.Omega.{arith}
use Rattle.month_contents.proofs.Refusals.{too_long, too_short, fits_not, fits}
use Rattle.month_contents.proofs.contents_wrong.Goals as goal

pub returns-then-s-gt-MOST_FILE : goal.returns-then-s-gt-MOST_FILE
returns-then-s-gt-MOST_FILE c = too_long c.args.s.now (omega arith)

pub returns-then-s-lt4 : goal.returns-then-s-lt4
returns-then-s-lt4 c = too_short c.args.s.now (omega arith) (omega arith)

pub returns-then-s-contents_end : goal.returns-then-s-contents_end
returns-then-s-contents_end c = fits_not c.args.s.now (omega arith) (omega arith) (omega arith)

pub returns-then-some_kind_wrong : goal.returns-then-some_kind_wrong
returns-then-some_kind_wrong c = let s = c.args.s.now in
    let k = sym c.some_kind_wrong.ensures ∙ c.if-some_kind_wrong.true in
    rw (fits s (omega arith) (omega arith) (omega arith), k)

pub returns-then-some_body_wrong : goal.returns-then-some_body_wrong
returns-then-some_body_wrong c = let s = c.args.s.now in
    let k = sym c.some_kind_wrong.ensures ∙ c.if-some_kind_wrong.false in
    let l = sym c.some_body_wrong.ensures ∙ c.if-some_body_wrong.true in
    rw (fits s (omega arith) (omega arith) (omega arith), k, l)

pub returns : goal.returns
returns c = let s = c.args.s.now in
    let k = sym c.some_kind_wrong.ensures ∙ c.if-some_kind_wrong.false in
    let l = sym c.some_body_wrong.ensures ∙ c.if-some_body_wrong.false in
    rw (fits s (omega arith) (omega arith) (omega arith), k, l) c.not_filled.ensures
