-- `put_lines`: one line more.
use mathlib.Core.Path.{sym, ap}
use native.Mathlib.Omega.{arith}
use lib.ListN.{length, get_or, take, length-take}
use lib.Seq.{get_or-take}
use Rattle.std.proofs.lemmas.List.{take_all}
use Rattle.base_bytes.proofs.PutLaws.{written_none, written_then, written_as}
use Rattle.month_tally.specs.Lines.{aids_in}
use mathlib.Core.List.{[]}
use Rattle.card_isdp.specs.declared.Aid.{Aid}
use Rattle.month_report.specs.Report.{aid_line, lines_text}
use Rattle.month_report.proofs.Lengths.{lines_more, line-more}
use Rattle.month_report.proofs.put_lines.Goals as goal

-- what a read past the end of a list is taken for
abbrev unread : Aid
unread = record { bytes = []; len = 0 }

pub loop-i-init : goal.loop-i-init
unfolding lines_text
loop-i-init c = (written_none _, omega arith)

pub loop-i-preserved : goal.loop-i-preserved
loop-i-preserved c = let a = c.args in
    let t = a.names.now in
    let m = a.minutes.now in
    let i = c.loop-i.i in
    let n = c.lines-i-end.ensures in
    let l = length-take t.count t.aids in
    let aid = get_or t.aids i unread in
    let e = lines_more a.explain a.ticks m (aids_in t) i unread aid (omega arith) (get_or-take t.count t.aids i unread (omega arith)) in
    let h = line-more (lines_text a.explain a.ticks m 0 (take i (aids_in t))) (aid_line a.explain a.ticks aid (get_or m i 0)) e in
    (written_as _ (sym e) (written_then c.loop-i.invariant.0 c.put_line.ensures.0), omega (arith, c.loop-i.invariant.1, h, c.put_line.ensures.1))

pub returns : goal.returns
returns c = let n = c.lines-i-end.ensures in
    let t = c.args.names.now in
    let e = ap (lines_text c.args.explain c.args.ticks c.args.minutes.now 0) (take_all c.loop-i.i (aids_in t) (omega arith)) in
    let k = ap length e in
    (written_as _ e c.loop-i.invariant.0, omega (arith, c.loop-i.invariant.1, k))
