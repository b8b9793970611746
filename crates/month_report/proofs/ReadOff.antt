-- What is read off a printed report, in either form: line by line, by going down the AIDs; then the lines by their words, and their numbers added up.
-- Assumes nothing.
use Rattle.std.specs.Prelude.{Some}
use Prim.Native.Nat.{ℕ, zero, suc, ◌+◌, ◌/◌, ◌≤◌, ◌<◌}
use mathlib.Core.Path.{◌≡◌, refl, ap, sym, subst, ◌∙◌}
use mathlib.Core.List.{List, [], ◌∷◌, ◌++◌, append-nil, append_assoc}
use mathlib.Core.Bool.{Bool, true, false, cond}
use native.Mathlib.Omega.{arith}
use lib.ListN.{length, get_or, take, drop}
use borrow.Author.Tests.{ne_eqb}
use Rattle.base_bytes.specs.Bytes.{same_bytes}
use Rattle.base_choice.specs.Choice.{pick, at_most, is_below, is_same}
use Rattle.card_isdp.specs.Aids.{no_aid, bytes_of}
use Rattle.card_isdp.specs.declared.Aid.{Aid}
use Rattle.text_words.specs.Letters.{text}
use Rattle.text_words.specs.Numbers.{digits_on, decimal_of}
use Rattle.text_words.specs.Hex.{nibble_of, pairs_of, is_hex, byte_of, spelled, hex_left, glyph_of, hex_text, hex_word}
use Rattle.text_words.specs.RoundTrips.{Octets}
use Rattle.text_words.proofs.HexLaws.{hex-length}
use Rattle.text_words.proofs.RoundTrips.{hex-again}
use Rattle.month_tally.specs.Lines.{rest_line, aids_in, minutes_in}
use Rattle.month_tally.specs.declared.Tally.{Tally}
use Rattle.month_report.specs.Report.{minutes_text, total_text, aid_line, lines_text, rest_text, report_head, refused_text, totals_text, report_text}
use Rattle.month_report.specs.ReadOff.{PlainLine, plain_line, cut_lines, word_part, number_part, past_spaces, most_figure, read_off, read_signed, aid_off, lines_above, number_on, numbers_added, FiguresFit, aid_lines, rest_lines, ReportRead, ReportsRead, ReadShown}
use Rattle.month_report.proofs.LinesOff.{letters, glyph-within, hex-above, lines_by, minutes-off, total-off}

-- the lines of the AIDs, of the rest and of the totals, each before what follows
lines-off : (explain : Bool) (ticks : ℕ) (minutes : List ℕ) (i : ℕ) (aids : List Aid) (rest : List ℕ) → ((j : ℕ) → j < length aids → get_or minutes (i + j) 0 ≤ most_figure) → lines_by explain (lines_text explain ticks minutes i aids ++ rest) ≡ aid_lines minutes i aids ++ lines_by explain rest
unfolding lines_text aid_lines aid_line
lines-off explain ticks minutes i [] rest f = refl
lines-off explain ticks minutes i (a ∷ aids) rest f =
    let m = get_or minutes i 0 in
    let here : m ≤ most_figure = subst (λ (k : ℕ). get_or minutes k 0 ≤ most_figure) (omega arith) (f 0 (omega arith)) in
    let next = lines_text explain ticks minutes (suc i) aids ++ rest in
    let more = lines-off explain ticks minutes (suc i) aids rest (λ j h. subst (λ (k : ℕ). get_or minutes k 0 ≤ most_figure) (omega arith) (f (suc j) (omega arith))) in
    let size = length (hex_text (bytes_of a)) in
    let e : lines_text explain ticks minutes i (a ∷ aids) ++ rest ≡ hex_text (bytes_of a) ++ (minutes_text explain ticks size m ++ next) = simp append_assoc in
    ap (lines_by explain) e ∙ minutes-off explain ticks size m next (hex-above (bytes_of a)) here ∙ ap (◌∷◌ (plain_line (hex_text (bytes_of a)) m)) more

rest-off : (explain : Bool) (ticks : ℕ) (more : Bool) (n : ℕ) (rest : List ℕ) → n ≤ most_figure → lines_by explain (rest_text explain ticks more n ++ rest) ≡ rest_lines more n ++ lines_by explain rest
unfolding rest_text pick
rest-off explain ticks false n rest h = refl
rest-off explain ticks true n rest h = rw append_assoc (minutes-off explain ticks 4 n rest (letters 32 (text "rest") refl) h)

-- the lines after that of the events
abbrev last_lines : Bool → ℕ → List PlainLine
last_lines explain n = cond explain (plain_line (text "refused") n ∷ []) []

refused-off : (explain : Bool) (n : ℕ) → n ≤ most_figure → lines_by explain (refused_text explain n) ≡ last_lines explain n
unfolding refused_text pick cut_lines
refused-off true n h = ap (λ (s : List ℕ). lines_by true (text "refused" ++ s)) (sym (append-nil (total_text true 7 n))) ∙ total-off true 7 n [] (letters 32 (text "refused") refl) h
refused-off false n h = refl

abbrev ends : ℕ → ℕ → List PlainLine → List PlainLine
ends ticks events last = plain_line (text "ticks") ticks ∷ plain_line (text "events") events ∷ last

totals-off : (explain : Bool) (t : Tally) → t.ticks ≤ most_figure → t.events ≤ most_figure → t.refused ≤ most_figure → lines_by explain (totals_text explain t) ≡ ends t.ticks t.events (last_lines explain t.refused)
unfolding totals_text
totals-off explain t h k l =
    let first = total_text explain 5 t.ticks in
    let second = total_text explain 6 t.events in
    let third = refused_text explain t.refused in
    let events = text "events" ++ (second ++ third) in
    let e : totals_text explain t ≡ text "ticks" ++ (first ++ events) =
    append_assoc (text "ticks" ++ first ++ text "events") second third
    ∙ append_assoc (text "ticks" ++ first) (text "events") (second ++ third)
    ∙ append_assoc (text "ticks") first events in
    ap (lines_by explain) e
    ∙ total-off explain 5 t.ticks events (letters 32 (text "ticks") refl) h
    ∙ ap (◌∷◌ (plain_line (text "ticks") t.ticks)) (total-off explain 6 t.events third (letters 32 (text "events") refl) k)
    ∙ ap (λ (ls : List PlainLine). ends t.ticks t.events ls) (refused-off explain t.refused l)

-- a word that begins with a letter past the capitals of hex is no AID's
not-hex : (bs : List ℕ) (c : ℕ) (cs : List ℕ) → 71 ≤ c → same_bytes (hex_text bs) (c ∷ cs) ≡ false
unfolding hex_text same_bytes
not-hex [] c cs h = refl
not-hex (b ∷ bs) c cs h = let g = glyph-within (b / 16) in rw (ne_eqb (glyph_of (b / 16)) c (λ q. omega arith))

module _ (minutes : List ℕ) (c : ℕ) (cs : List ℕ) (h : 71 ≤ c) (ls : List PlainLine) where
  above-aids : (i : ℕ) (aids : List Aid) → lines_above (c ∷ cs) (aid_lines minutes i aids ++ ls) ≡ aid_lines minutes i aids ++ lines_above (c ∷ cs) ls
  unfolding lines_above aid_lines
  above-aids i [] = refl
  above-aids i (a ∷ aids) = rw (not-hex (bytes_of a) c cs h, above-aids (suc i) aids)

  number_past : (i : ℕ) (aids : List Aid) → number_on (c ∷ cs) (aid_lines minutes i aids ++ ls) ≡ number_on (c ∷ cs) ls
  unfolding number_on aid_lines
  number_past i [] = refl
  number_past i (a ∷ aids) = rw (not-hex (bytes_of a) c cs h) (number_past (suc i) aids)

-- the minutes from a line on
minutes-from : (minutes : List ℕ) (i k : ℕ) → minutes_in (take (suc k) (drop i minutes)) ≡ get_or minutes i 0 + minutes_in (take k (drop (suc i) minutes))
unfolding minutes_in
minutes-from [] zero zero = refl
minutes-from [] zero (suc k) = refl
minutes-from [] (suc i) zero = refl
minutes-from [] (suc i) (suc k) = refl
minutes-from (x ∷ xs) zero k = refl
minutes-from (x ∷ xs) (suc i) k = minutes-from xs i k

aids-added : (minutes : List ℕ) (ls : List PlainLine) (n i : ℕ) (aids : List Aid) → numbers_added ls ≡ Some n → numbers_added (aid_lines minutes i aids ++ ls) ≡ Some (minutes_in (take (length aids) (drop i minutes)) + n)
unfolding numbers_added aid_lines minutes_in
aids-added minutes ls n i [] e = e ∙ ap Some (omega arith)
aids-added minutes ls n i (a ∷ aids) e =
    let m = minutes-from minutes i (length aids) in
    rw (aids-added minutes ls n (suc i) aids e) (ap Some (omega arith))

rest-added : (more : Bool) (n : ℕ) → numbers_added (rest_lines more n) ≡ Some (cond more n 0)
unfolding numbers_added
rest-added true n = ap Some (omega arith)
rest-added false n = refl

-- the AID that a line's word spells
spelled-off : (bs : List ℕ) → Octets bs → hex_left (hex_text bs) (length (hex_text bs)) ≡ bs
unfolding hex_text hex_word hex_left is_hex pick
spelled-off [] o = refl
spelled-off (b ∷ bs) o = let n = hex-length bs in (hex-again (b ∷ bs) (length (hex_text (b ∷ bs))) o (omega arith)).1

word_at : (minutes : List ℕ) (ls : List PlainLine) (l : PlainLine) (i j : ℕ) (aids : List Aid) → j < length aids → (get_or (aid_lines minutes i aids ++ ls) j l).word ≡ hex_text (bytes_of (get_or aids j no_aid))
unfolding aid_lines
word_at minutes ls l i j [] h = absurd (omega arith)
word_at minutes ls l i zero (a ∷ aids) h = refl
word_at minutes ls l i (suc j) (a ∷ aids) h = word_at minutes ls l (suc i) j aids (omega arith)

-- the lines after those of the AIDs, by their words
record EndsRead (more : Bool) (n t e : ℕ) (last : List PlainLine) : Type 0 where
  above : lines_above (text "ticks") (rest_lines more n ++ ends t e last) ≡ rest_lines more n
  ticks : number_on (text "ticks") (rest_lines more n ++ ends t e last) ≡ Some t
  events : number_on (text "events") (rest_lines more n ++ ends t e last) ≡ Some e

ends_read : (more : Bool) (n t e : ℕ) (last : List PlainLine) → EndsRead more n t e last
unfolding lines_above number_on same_bytes
ends_read true n t e last = record { above = refl; ticks = refl; events = refl }
ends_read false n t e last = record { above = refl; ticks = refl; events = refl }

-- all lines, as the AIDs' and those after them
abbrev whole : Tally → List ℕ → List PlainLine → List PlainLine
whole t minutes last = aid_lines minutes 0 (aids_in t.names) ++ (rest_lines t.names.more (get_or minutes rest_line 0) ++ ends t.ticks t.events last)

abbrev body_text : Bool → Tally → List ℕ → List ℕ
body_text explain t minutes = lines_text explain t.ticks minutes 0 (aids_in t.names) ++ (rest_text explain t.ticks t.names.more (get_or minutes rest_line 0) ++ totals_text explain t)

body-off : (explain : Bool) (t : Tally) (minutes : List ℕ) → FiguresFit t minutes → lines_by explain (body_text explain t minutes) ≡ whole t minutes (last_lines explain t.refused)
body-off explain t minutes fit =
    let aids = aids_in t.names in
    let n = get_or minutes rest_line 0 in
    let rest = rest_text explain t.ticks t.names.more n in
    let within : (j : ℕ) → j < length aids → get_or minutes (0 + j) 0 ≤ most_figure = λ j h. subst (λ (k : ℕ). get_or minutes k 0 ≤ most_figure) (omega arith) (fit.lines j h) in
    lines-off explain t.ticks minutes 0 aids (rest ++ totals_text explain t) within
    ∙ ap (◌++◌ (aid_lines minutes 0 aids)) (rest-off explain t.ticks t.names.more n (totals_text explain t) fit.rest ∙ ap (◌++◌ (rest_lines t.names.more n)) (totals-off explain t fit.ticks fit.events fit.refused))

plain-whole : (t : Tally) (minutes : List ℕ) → FiguresFit t minutes → read_off (report_text false t minutes) ≡ whole t minutes []
unfolding report_text report_head pick
plain-whole t minutes fit = ap read_off (append_assoc (lines_text false t.ticks minutes 0 (aids_in t.names)) _ (totals_text false t)) ∙ body-off false t minutes fit

-- the line that names the columns is passed over
head-past : (s : List ℕ) → read_signed (report_head true ++ s) ≡ lines_by true s
unfolding report_head cut_lines pick is_same
head-past s = refl

signed-whole : (t : Tally) (minutes : List ℕ) → FiguresFit t minutes → read_signed (report_text true t minutes) ≡ whole t minutes (plain_line (text "refused") t.refused ∷ [])
unfolding report_text
signed-whole t minutes fit =
    let lines = lines_text true t.ticks minutes 0 (aids_in t.names) in
    let rest = rest_text true t.ticks t.names.more (get_or minutes rest_line 0) in
    let totals = totals_text true t in
    ap read_signed (append_assoc (report_head true ++ lines) rest totals ∙ append_assoc (report_head true) lines (rest ++ totals))
    ∙ head-past (body_text true t minutes)
    ∙ body-off true t minutes fit

read_as : (t : Tally) (minutes : List ℕ) (last read : List PlainLine) → read ≡ whole t minutes last → ReportRead t minutes last read
read_as t minutes last read e =
    let aids = aids_in t.names in
    let n = get_or minutes rest_line 0 in
    let rest = rest_lines t.names.more n in
    let after = ends t.ticks t.events last in
    let end = ends_read t.names.more n t.ticks t.events last in
    record {
      lines = e ∙ sym (append_assoc (aid_lines minutes 0 aids) rest after);
      added =
          ap (λ (ls : List PlainLine). numbers_added (lines_above (text "ticks") ls)) e
          ∙ ap numbers_added (above-aids minutes _ _ (omega arith) (rest ++ after) 0 aids ∙ ap (◌++◌ (aid_lines minutes 0 aids)) end.above)
          ∙ aids-added minutes rest _ 0 aids (rest-added t.names.more n);
      ticks = ap (number_on (text "ticks")) e ∙ number_past minutes _ _ (omega arith) (rest ++ after) 0 aids ∙ end.ticks;
      events = ap (number_on (text "events")) e ∙ number_past minutes _ _ (omega arith) (rest ++ after) 0 aids ∙ end.events;
      aids = λ i l h o.
          ap (λ (ls : List PlainLine). aid_off (get_or ls i l)) e
          ∙ ap (λ (w : List ℕ). hex_left w (length w)) (word_at minutes (rest ++ after) l 0 i aids h)
          ∙ spelled-off (bytes_of (get_or aids i no_aid)) o;
    }

pub reports-read : ReportsRead
reports-read t minutes fit =
    record {
      plain = read_as t minutes _ _ (plain-whole t minutes fit);
      explained = read_as t minutes _ _ (signed-whole t minutes fit);
    }

pub read-shown : ReadShown
unfolding cut_lines word_part number_part past_spaces lines_above numbers_added pick at_most is_below is_same same_bytes decimal_of digits_on hex_left is_hex pairs_of nibble_of byte_of spelled
read-shown = record { page = refl; signed = refl; adds-up = refl; aid = refl; no_number = refl; spoilt = refl }
