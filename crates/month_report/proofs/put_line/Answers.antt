-- `put_line`: the AID, and what follows a name of as many letters.
use mathlib.Core.Path.{◌≡◌, ap, sym, ◌∙◌}
use Prim.Native.Nat.{ℕ, ◌*◌}
use native.Mathlib.Omega.{arith}
use lib.ListN.{length}
use Rattle.base_bytes.proofs.PutLaws.{written_then, written_as}
use Rattle.card_isdp.specs.Aids.{bytes_of}
use Rattle.text_words.proofs.HexLaws.{hex-length}
use Rattle.month_report.proofs.Lengths.{aid-line-length}
use Rattle.month_report.specs.Report.{minutes_text, aid_line}
use borrow.Author.Rules.{rules}
use Rattle.month_report.proofs.put_line.Goals as goal

pub returns : goal.returns
unfolding aid_line
returns c = let a = c.args.aid in
    let w : length a.bytes ≡ 16 = search rules in
    let e = ap (λ (k : ℕ). k * 2) c.size.ensures.0 ∙ sym (hex-length (bytes_of a)) in
    let rest = ap (λ (k : ℕ). minutes_text c.args.explain c.args.ticks k c.args.minutes) e in (
      written_then c.put_aid.ensures (written_as _ rest c.put_minutes.ensures),
      aid-line-length c.args.explain c.args.ticks a c.args.minutes (omega arith),
    )
