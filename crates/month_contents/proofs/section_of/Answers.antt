-- `section_of` meets its contract: what `find` answers is the number of the first entry of the kind, if there is one.
use Rattle.std.proofs.Common.{rules, tests}
use Rattle.month_contents.specs.Contents.{of_kind}
use Rattle.month_contents.proofs.Below.{first-find}
use Rattle.month_contents.proofs.Ends.{section-at}
use Rattle.month_contents.proofs.section_of.Goals as goal

pub returns-in_err-i : goal.returns-in_err-i
returns-in_err-i c =
    let s = c.args.s.now in
    let at = section-at s c.args.kind _ (first-find _ (of_kind s c.args.kind) _ _ _ c.find.ensures.ran (search rules) (λ x b q k. search (rules, tests))) in
    rw (c.from_residual.ensures, at, c.in_err-i.was)

pub returns : goal.returns
returns c =
    let s = c.args.s.now in
    let at = section-at s c.args.kind _ (first-find _ (of_kind s c.args.kind) _ _ _ c.find.ensures.ran (search rules) (λ x b q k. search (rules, tests))) in
    rw (at, c.in_ok-i.was, c.start_at.ensures, c.body_length.ensures)
