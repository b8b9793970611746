-- docs/EVENTS.md: how a share is rounded, and by computing the two reports of the page, byte for byte, and what the share of some minutes is.
use Rattle.std.specs.Prelude.{◌≡◌, ℕ, ◌+◌, ◌*◌, ◌≤◌, ◌<◌, List, [], ◌∷◌, ◌++◌, Bool, true, false, replicate}
use Rattle.card_isdp.specs.Aids.{no_aid}
use Rattle.text_words.specs.Letters.{text}
use Rattle.month_tally.specs.Statements.{tally_aid}
use Rattle.month_tally.specs.declared.Tally.{Tally}
use Rattle.month_report.specs.Report.{tenths_of, share_text, report_text}

-- "rounded to the nearest tenth, a half upwards": with t tenths of a percent, t ≤ 1000 * minutes / ticks + 1/2 < t + 1, without the fractions
abbrev pub Rounded : Type 0
Rounded =
    (minutes ticks : ℕ)
    → 0 < ticks
    → (tenths_of minutes ticks * (ticks * 2) ≤ minutes * 2000 + ticks)
    × (minutes * 2000 + ticks < tenths_of minutes ticks * (ticks * 2) + ticks * 2)

-- a tally as the page has it, with a rest or without
abbrev pub tally_of : Bool → ℕ → Tally
tally_of more ticks =
    record {
      names = record { aids = tally_aid 1 ∷ tally_aid 2 ∷ replicate 62 no_aid; count = 2; more = more };
      ticks = ticks;
      events = 41;
      refused = 3;
    }

abbrev pub sample_minutes : ℕ → ℕ → ℕ → List ℕ
sample_minutes first second rest = first ∷ second ∷ (replicate 62 0 ++ rest ∷ [])

pub record Shown : Type 0 where
  pub plain :
      report_text false (tally_of true 27) (sample_minutes 10 12 5)
      ≡ text "A000000001 10\n"
      ++ text "A000000002 12\n"
      ++ text "rest 5\n"
      ++ text "ticks 27\n"
      ++ text "events 41\n"
  pub explained :
      report_text true (tally_of true 27) (sample_minutes 10 12 5)
      ≡ text "AID                               minutes   share\n"
      ++ text "A000000001                             10   37.0%\n"
      ++ text "A000000002                             12   44.4%\n"
      ++ text "rest                                    5   18.5%\n"
      ++ text "ticks                                  27\n"
      ++ text "events                                 41\n"
      ++ text "refused                                 3\n"
  -- one with no tick has a line with 0; where the file has no ticks the share is `-`; there is no rest
  pub no-ticks :
      report_text true (tally_of false 0) (sample_minutes 0 0 0)
      ≡ text "AID                               minutes   share\n"
      ++ text "A000000001                              0       -\n"
      ++ text "A000000002                              0       -\n"
      ++ text "ticks                                   0\n"
      ++ text "events                                 41\n"
      ++ text "refused                                 3\n"
  -- a share of all, one rounded up, a half and less than a half
  pub all-of-it : share_text 7 7 ≡ text "  100.0%"
  pub two-thirds : share_text 2 3 ≡ text "   66.7%"
  pub half-a-tenth : share_text 1 2000 ≡ text "    0.1%"
  pub under-half : share_text 1 2001 ≡ text "    0.0%"
