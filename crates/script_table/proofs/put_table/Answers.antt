-- `script_table::put_table`: the head, then the rows; a card of the code has a row for each of its places.
use Rattle.base_bytes.proofs.PutLaws.{written_then}
use mathlib.Core.Path.{◌≡◌}
use native.Mathlib.Omega.{arith}
use lib.ListN.{length}
use Rattle.card_isdp.specs.Sizes.{most_places}
use Rattle.script_table.specs.Profiles.{table_text}
use Rattle.script_table.proofs.Lengths.{table-length}
use Rattle.script_table.proofs.put_table.Goals as goal

pub returns : goal.returns
unfolding table_text
returns c = let card = c.args.card.now in
    let n : length card.places ≡ most_places = c.widest-widest.ensures.all in
    let wide = c.widest-widest.ensures.value in
    (rw (← wide.0) (written_then c.put_head.ensures c.put_rows.ensures), omega (arith, table-length card (omega arith)))
