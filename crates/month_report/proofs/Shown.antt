-- The reports of the page compute to the same bytes; a share is rounded, by the laws of division.
use mathlib.Core.Path.{refl}
use Prim.Native.Nat.{◌+◌, ◌*◌}
use native.Mathlib.Nat.{div-mul-le_self, lt-div-mul-add}
use native.Mathlib.Omega.{arith}
use Rattle.base_choice.specs.Choice.{pick, is_below, is_same}
use Rattle.text_words.specs.Hex.{glyph_of, hex_text}
use Rattle.text_words.specs.Numbers.{digits_text}
use Rattle.card_isdp.specs.Aids.{padded}
use Rattle.text_words.specs.Columns.{spaces, lead_of, column_text}
use Rattle.month_report.specs.Report.{figure_text, share_lead, percent_text, share_text, plain_text, minutes_text, total_text, aid_line, lines_text, rest_text, report_head, refused_text, totals_text, report_text}
use Rattle.month_report.specs.Statements.{Rounded, Shown}

pub shown : Shown
unfolding report_text totals_text refused_text report_head rest_text lines_text aid_line total_text minutes_text plain_text share_text percent_text share_lead figure_text column_text lead_of spaces digits_text hex_text glyph_of pick is_below is_same padded
shown =
    record {
      plain = refl;
      explained = refl;
      no-ticks = refl;
      all-of-it = refl;
      two-thirds = refl;
      half-a-tenth = refl;
      under-half = refl;
    }

pub rounded : Rounded
rounded minutes ticks h =
    (div-mul-le_self (minutes * 2000 + ticks) (ticks * 2), lt-div-mul-add {a = minutes * 2000 + ticks} {b = ticks * 2} (omega arith))
