-- `script_session::lay_update`: the speaker stands at the front, the command after it, by the laws of two byte strings in one buffer.
use Rattle.script_session.proofs.Spelled.{speaker-fits, left-starts, left-fits, update-laid}
use Rattle.script_session.proofs.lay_update.Goals as goal

pub spell-first-requires : goal.spell-first-requires
spell-first-requires c = speaker-fits c.args.out.now c.args.s.now c.args.speaker c.args.bytes c.requires

pub slice_bounds-spell-count : goal.slice_bounds-spell-count
slice_bounds-spell-count c = left-starts c.args.out.now c.args.s.now c.args.speaker c.args.bytes c.requires c.spell-first.ensures.0 c.spell-first.ensures.1

pub slice_bounds-spell-start : goal.slice_bounds-spell-start
slice_bounds-spell-start c = left-starts c.args.out.now c.args.s.now c.args.speaker c.args.bytes c.requires c.spell-first.ensures.0 c.spell-first.ensures.1

pub spell-second-requires : goal.spell-second-requires
spell-second-requires c = left-fits c.args.out.now c.args.s.now c.args.speaker c.args.bytes c.requires c.spell-first.ensures.0 c.spell-first.ensures.1

pub returns : goal.returns
returns c = update-laid c.args.out.now c.args.s.now c.args.speaker c.args.bytes c.requires c.spell-first.ensures.0 c.spell-first.ensures.1 c.spell-second.ensures.0 c.spell-second.ensures.1
