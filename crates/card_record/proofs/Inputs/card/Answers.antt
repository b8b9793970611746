-- `Inputs::card`: the promises of its parts, put together; an EID of sixteen bytes is padded by nothing.
use Rattle.card_isdp.proofs.Bytes.{pad-whole}
use Rattle.card_record.proofs.Inputs.card.Goals as goal

pub returns : goal.returns
returns c = rw (c.zero.ensures, c.saturating_sub.ensures, c.with_mark.ensures, c.made.ensures, c.none-places.ensures, c.pad.ensures, pad-whole c.args.self.now.eid.now c.requires)
