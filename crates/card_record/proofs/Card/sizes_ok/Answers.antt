-- `Card::sizes_ok`: the sizes that it does not ask hold of every record by its types.
use mathlib.Core.Path.{◌≡◌}
use lib.ListN.{length}
use borrow.Author.Rules.{rules}
use Rattle.card_record.proofs.Card.sizes_ok.Goals as goal

pub returns : goal.returns
returns c = let card = c.args.self.now in
    let n : length card.eid ≡ 16 = search rules in
    let m : length card.places ≡ 32 = search rules in
    rw (n, m)
