-- A turn of the loop over the lines; and how long the texts are, so that a caller's buffer is known to be enough: a number counts as one
-- of 20 digits, and an AID as one of 16 bytes, as every record of the code has. Assumes nothing.
use mathlib.Core.Path.{◌≡◌, ap, sym, ◌∙◌}
use Prim.Native.Nat.{ℕ, zero, suc, ◌+◌, ◌*◌, ◌/◌, ◌%◌, ◌≤◌, ◌<◌}
use native.Mathlib.Nat.{add-zero, add-suc, suc-add}
use native.Mathlib.Numerals.{add-one}
use native.Mathlib.Omega.{arith}
use mathlib.Core.List.{List, [], ◌∷◌, ◌++◌, append-nil, append_assoc}
use mathlib.Core.Bool.{Bool}
use lib.ListN.{length, get_or, take, length-append}
use Rattle.base_choice.proofs.Branches.{each, by-lt, by-eq}
use Rattle.text_words.proofs.NumberLaws.{text-small}
use Rattle.card_isdp.specs.declared.Aid.{Aid}
use Rattle.text_aid.specs.AidText.{aid_text}
use Rattle.text_words.proofs.ColumnLaws.{column-length, decimal-length, spaces-length}
use Rattle.text_aid.proofs.Lengths.{aid-length}
use Rattle.month_tally.specs.Lines.{most_lines, rest_line, aids_in}
use Rattle.month_tally.specs.declared.Tally.{Tally}
use Rattle.month_report.specs.Report.{figure_text, share_lead, percent_text, share_text, tenths_of, plain_text, minutes_text, total_text, aid_line, lines_text, rest_text, report_head, refused_text, totals_text, report_text, most_report_line, most_report}

module _ (explain : Bool) (ticks : ℕ) (minutes : List ℕ) where
  lines_suc : (l : List Aid) (i k : ℕ) (d : Aid) → i < length l
      → lines_text explain ticks minutes k (take (suc i) l) ≡ lines_text explain ticks minutes k (take i l) ++ aid_line explain ticks (get_or l i d) (get_or minutes (k + i) 0)
  unfolding lines_text
  lines_suc [] i k d h = absurd (omega arith)
  lines_suc (a ∷ rest) zero k d h = append-nil _ ∙ ap (λ (n : ℕ). aid_line explain ticks a (get_or minutes n 0)) (sym (add-zero k))
  lines_suc (a ∷ rest) (suc i) k d h =
      let front = aid_line explain ticks a (get_or minutes k 0) in
      ap (◌++◌ front) (lines_suc rest i (suc k) d (omega arith))
      ∙ sym (append_assoc front _ _)
      ∙ ap (λ (n : ℕ). (front ++ lines_text explain ticks minutes (suc k) (take i rest)) ++ aid_line explain ticks (get_or rest i d) (get_or minutes n 0)) (suc-add k i ∙ sym (add-suc k i))

  pub lines_more : (l : List Aid) (i : ℕ) (d : Aid) (a : Aid) → i < length l → get_or l i d ≡ a
      → lines_text explain ticks minutes 0 (take (i + 1) l) ≡ lines_text explain ticks minutes 0 (take i l) ++ aid_line explain ticks a (get_or minutes i 0)
  lines_more l i d a h e =
      rw (add-one i) (
      lines_suc l i 0 d h
      ∙ ap (λ (n : ℕ). lines_text explain ticks minutes 0 (take i l) ++ aid_line explain ticks (get_or l i d) (get_or minutes n 0)) (omega arith)
      ∙ ap (λ (x : Aid). lines_text explain ticks minutes 0 (take i l) ++ aid_line explain ticks x (get_or minutes i 0)) e
      )

pub line-more : {t : List ℕ} (a b : List ℕ) → t ≡ a ++ b → length t ≡ length a + length b
line-more a b e = ap length e ∙ length-append a b

-- what follows a name
plain-length : (n : ℕ) → length (plain_text n) ≤ 22
unfolding plain_text
plain-length n = simp length-append (omega (arith, decimal-length n))

figure-length : (size n : ℕ) → size ≤ 32 → size + length (figure_text size n) ≤ 60
unfolding figure_text
figure-length size n h = simp (length-append, spaces-length) (omega (arith, column-length n))

lead-most : (tenths : ℕ) → share_lead tenths ≤ 4
unfolding share_lead
lead-most tenths =
    by-lt (λ (k : ℕ). k ≤ 4) tenths 100 (λ h. omega arith)
    (λ h. by-lt (λ (k : ℕ). k ≤ 4) tenths 1000 (λ i. omega arith) (λ i. omega arith))

percent-length : (tenths : ℕ) → length (percent_text tenths) ≤ 27
unfolding percent_text
percent-length tenths =
    let e = ap length (text-small 19 (tenths % 10) (omega arith)) in
    simp (length-append, spaces-length) (omega (arith, lead-most tenths, decimal-length (tenths / 10)))

share-length : (minutes ticks : ℕ) → length (share_text minutes ticks) ≤ 27
unfolding share_text
share-length minutes ticks =
    by-eq (λ (l : List ℕ). length l ≤ 27) ticks 0 (λ h. omega arith) (λ h. percent-length (tenths_of minutes ticks))

minutes-length : (explain : Bool) (ticks size minutes : ℕ) → size ≤ 32 → size + length (minutes_text explain ticks size minutes) ≤ most_report_line
unfolding minutes_text
minutes-length explain ticks size minutes h =
    each (λ (l : List ℕ). size + length l ≤ most_report_line) explain
    (λ e. simp length-append (omega (arith, figure-length size minutes h, share-length minutes ticks)))
    (λ e. let p = plain-length minutes in omega arith)

total-length : (explain : Bool) (size n : ℕ) → size ≤ 32 → size + length (total_text explain size n) ≤ 61
unfolding total_text
total-length explain size n h =
    each (λ (l : List ℕ). size + length l ≤ 61) explain
    (λ e. simp length-append (omega (arith, figure-length size n h)))
    (λ e. let p = plain-length n in omega arith)

-- the lines
pub aid-line-length : (explain : Bool) (ticks : ℕ) (a : Aid) (minutes : ℕ) → length a.bytes ≤ 16 → length (aid_line explain ticks a minutes) ≤ most_report_line
unfolding aid_line
aid-line-length explain ticks a minutes h =
    let k = aid-length a h in
    simp length-append (omega (arith, minutes-length explain ticks (length (aid_text a)) minutes k))

rest-length : (explain : Bool) (ticks : ℕ) (more : Bool) (minutes : ℕ) → length (rest_text explain ticks more minutes) ≤ most_report_line
unfolding rest_text
rest-length explain ticks more minutes =
    each (λ (l : List ℕ). length l ≤ most_report_line) more
    (λ e. simp length-append (omega (arith, minutes-length explain ticks 4 minutes (omega arith))))
    (λ e. omega arith)

head-length : (explain : Bool) → length (report_head explain) ≤ 50
unfolding report_head
head-length explain = each (λ (l : List ℕ). length l ≤ 50) explain (λ e. omega arith) (λ e. omega arith)

refused-length : (explain : Bool) (n : ℕ) → length (refused_text explain n) ≤ 61
unfolding refused_text
refused-length explain n =
    each (λ (l : List ℕ). length l ≤ 61) explain
    (λ e. simp length-append (omega (arith, total-length explain 7 n (omega arith))))
    (λ e. omega arith)

totals-length : (explain : Bool) (t : Tally) → length (totals_text explain t) ≤ 183
unfolding totals_text
totals-length explain t =
    simp length-append
    (omega (
      arith,
      total-length explain 5 t.ticks (omega arith),
      total-length explain 6 t.events (omega arith),
      refused-length explain t.refused,
    ))

pub report-length : (explain : Bool) (t : Tally) (minutes : List ℕ) → length (lines_text explain t.ticks minutes 0 (aids_in t.names)) ≤ most_lines * most_report_line → length (report_text explain t minutes) ≤ most_report
unfolding report_text
report-length explain t minutes h =
    simp length-append
    (omega (
      arith,
      head-length explain,
      rest-length explain t.ticks t.names.more (get_or minutes rest_line 0),
      totals-length explain t,
    ))
