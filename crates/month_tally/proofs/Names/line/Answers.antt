-- `Names::line`: the search is the library's, over the AIDs that have a line.
use mathlib.Core.Path.{◌∙◌}
use Rattle.std.proofs.Common.{rules, tests}
use Rattle.std.proofs.lemmas.Iterator.{YieldsList-from_slice}
use Rattle.std.proofs.lemmas.Iterator.Search.{position_from_yields_List}
use Rattle.card_isdp.specs.declared.Aid.{Aid}
use Rattle.month_tally.specs.Lines.{same_aid, aids_in}
use Rattle.month_tally.proofs.Seeking.{line-is}
use Rattle.month_tally.proofs.Names.line.Goals as goal

pub returns : goal.returns
returns c =
    let n = c.args.self.now in
    c.unwrap_or.ensures
    ∙ line-is n c.args.aid _ (position_from_yields_List (λ (x : Aid). same_aid x c.args.aid) _ _ _ c.position.ensures.ran (YieldsList-from_slice (aids_in n) cc) (λ x b q k. search (rules, tests)))
