-- A line of a printed report read off, in either form. It is cut at its end and parted at its spaces, since letters and digits are neither; its number
-- is read by the round trip of decimals. Assumes nothing.
use Rattle.std.specs.Prelude.{Some}
use Prim.Native.Nat.{ℕ, zero, suc, ◌+◌, ◌-◌, ◌/◌, ◌%◌, ◌≤◌, ◌<◌}
use mathlib.Core.Path.{◌≡◌, refl, ap, sym, ◌∙◌}
use mathlib.Core.List.{List, [], ◌∷◌, ◌++◌, map, append-nil, append_assoc}
use mathlib.Core.Bool.{Bool, true, false, ◌&&◌}
use native.Mathlib.Omega.{arith}
use lib.Dec.{ltb}
use borrow.Author.Tests.{ltb-true}
use Rattle.base_choice.specs.Choice.{pick}
use Rattle.base_choice.proofs.Branches.{by-lt, by-eq, eq!, ne! }
use Rattle.card_isdp.proofs.Bools.{and_l, and_r}
use Rattle.text_words.specs.Letters.{text}
use Rattle.text_words.specs.Numbers.{decimal_of, digits_text, decimal_text}
use Rattle.text_words.specs.Hex.{glyph_of, hex_text}
use Rattle.text_words.specs.Columns.{spaces, lead_of, column_text}
use Rattle.text_words.proofs.RoundTrips.{decimal-again}
use Rattle.month_report.specs.Report.{name_column, figure_text, share_lead, percent_text, share_text, tenths_of, plain_text, minutes_text, total_text}
use Rattle.month_report.specs.ReadOff.{PlainLine, plain_line, on_line, cut_lines, word_part, number_part, past_spaces, most_figure, line_off, signed_line}

-- every byte is above this one
pub data Above (b : ℕ) : List ℕ → Type 0 where
  none : Above b []
  one : {c : ℕ} {cs : List ℕ} → b < c → Above b cs → Above b (c ∷ cs)

above-both : {b : ℕ} {s t : List ℕ} → Above b s → Above b t → Above b (s ++ t)
above-both none q = q
above-both (one h p) q = one h (above-both p q)

above-line : {s : List ℕ} → Above 32 s → Above 10 s
above-line none = none
above-line (one {c} h p) = one {c = c} (omega arith) (above-line p)

-- of a text that is written out, by computing
abbrev is_above : ℕ → List ℕ → Bool
is_above b [] = true
is_above b (c ∷ cs) = ltb b c && is_above b cs

pub letters : (b : ℕ) (w : List ℕ) → is_above b w ≡ true → Above b w
letters b [] e = none
letters b (c ∷ cs) e = one (ltb-true b c (and_l (ltb b c) (is_above b cs) e)) (letters b cs (and_r (ltb b c) (is_above b cs) e))

-- digits are above a space, and capitals are letters below those of the words
pub glyph-within : (n : ℕ) → (32 < glyph_of n) × (glyph_of n < 71)
unfolding glyph_of
glyph-within n = by-lt (λ (g : ℕ). (32 < g) × (g < 71)) (n % 16) 10 (λ h. (omega arith, omega arith)) (λ h. (omega arith, omega arith))

pub hex-above : (bs : List ℕ) → Above 32 (hex_text bs)
unfolding hex_text
hex-above [] = none
hex-above (b ∷ bs) = one (glyph-within (b / 16)).0 (one (glyph-within b).0 (hex-above bs))

digits_above : (k n : ℕ) → Above 32 (digits_text k n)
unfolding digits_text
digits_above zero n = one {c = 48 + n % 10} (omega arith) none
digits_above (suc k) n =
    let last : Above 32 ((48 + n % 10) ∷ []) = one {c = 48 + n % 10} (omega arith) none in
    by-lt (Above 32) n 10 (λ h. last) (λ h. above-both (digits_above k (n / 10)) last)

-- a line is cut at its end, and parted at its space
cut_line : {w : List ℕ} (rest : List ℕ) → Above 10 w → cut_lines (w ++ 10 ∷ rest) ≡ w ∷ cut_lines rest
unfolding cut_lines
cut_line rest none = sym (eq! _ refl refl)
cut_line rest (one {c} h p) = sym (ne! _ (λ q. omega arith) (ap (on_line c) (sym (cut_line rest p))))

word-part : {w : List ℕ} (d : List ℕ) → Above 32 w → word_part (w ++ 32 ∷ d) ≡ w
unfolding word_part
word-part d none = sym (eq! _ refl refl)
word-part d (one {c} h p) = sym (ne! _ (λ q. omega arith) (ap (◌∷◌ c) (sym (word-part d p))))

number-part : {w : List ℕ} (d : List ℕ) → Above 32 w → number_part (w ++ 32 ∷ d) ≡ d
unfolding number_part
number-part d none = sym (eq! _ refl refl)
number-part d (one h p) = sym (ne! _ (λ q. omega arith) (sym (number-part d p)))

-- the number of the plain form, and that of the form for a person: spaces before it, and after it nothing or a space and more
plain-line : {w : List ℕ} (n : ℕ) → Above 32 w → n ≤ most_figure → line_off (w ++ 32 ∷ decimal_text n) ≡ plain_line w n
plain-line n p h = rw (word-part (decimal_text n) p, number-part (decimal_text n) p, decimal-again most_figure n h (omega arith))

space-above : {s : List ℕ} → Above 10 s → Above 10 (32 ∷ s)
space-above p = one {c = 32} (omega arith) p

data Tail : List ℕ → Type 0 where
  ended : Tail []
  spaced : {s : List ℕ} → Above 10 s → Tail (32 ∷ s)

tail-above : {s : List ℕ} → Tail s → Above 10 s
tail-above ended = none
tail-above (spaced p) = space-above p

word-tail : {d tail : List ℕ} → Above 32 d → Tail tail → word_part (d ++ tail) ≡ d
unfolding word_part
word-tail none ended = refl
word-tail (one {c} h p) ended = sym (ne! _ (λ q. omega arith) (ap (◌∷◌ c) (sym (word-tail p ended))))
word-tail p (spaced {s} q) = word-part s p

spaces-above : (k : ℕ) → Above 10 (spaces k)
unfolding spaces
spaces-above zero = none
spaces-above (suc k) = space-above (spaces-above k)

space-first : (k : ℕ) (s : List ℕ) → spaces k ++ 32 ∷ s ≡ 32 ∷ (spaces k ++ s)
unfolding spaces
space-first zero s = refl
space-first (suc k) s = ap (◌∷◌ 32) (space-first k s)

spaces-past : (k : ℕ) (s : List ℕ) → past_spaces (spaces k ++ s) ≡ past_spaces s
unfolding spaces past_spaces
spaces-past zero s = refl
spaces-past (suc k) s = sym (eq! _ refl (sym (spaces-past k s)))

past-none : {c : ℕ} (s : List ℕ) → 32 < c → past_spaces (c ∷ s) ≡ c ∷ s
unfolding past_spaces
past-none s h = sym (ne! _ (λ q. omega arith) refl)

number-tail : {d tail : List ℕ} (n : ℕ) → Above 32 d → Tail tail → decimal_of most_figure d ≡ Some n → decimal_of most_figure (word_part (past_spaces (d ++ tail))) ≡ Some n
unfolding decimal_of
number-tail n none q e = let z : ◌≡◌ {A = ℕ} 0 1 = cc in absurd (omega arith)
number-tail {tail = tail} n (one {cs = cs} h p) q e =
    ap (λ (x : List ℕ). decimal_of most_figure (word_part x)) (past-none (cs ++ tail) h) ∙ ap (decimal_of most_figure) (word-tail (one h p) q) ∙ e

signed-line : {w tail : List ℕ} (k n : ℕ) → Above 32 w → Tail tail → n ≤ most_figure → signed_line (w ++ (spaces k ++ 32 ∷ 32 ∷ (column_text n ++ tail))) ≡ plain_line w n
unfolding column_text spaces
signed-line {w} {tail} k n p q h =
    let d = decimal_text n in
    let rest = column_text n ++ tail in
    let after = spaces k ++ 32 ∷ rest in
    let past : past_spaces after ≡ past_spaces (d ++ tail) =
    spaces-past k (32 ∷ rest) ∙ spaces-past 1 rest ∙ ap past_spaces (append_assoc (spaces (lead_of n)) d tail) ∙ spaces-past (lead_of n) (d ++ tail) in
    let read = ap (λ (x : List ℕ). decimal_of most_figure (word_part x)) past ∙ number-tail n (digits_above 19 n) q (decimal-again most_figure n h (omega arith)) in
    rw (space-first k (32 ∷ rest), word-part after p, number-part after p, read)

-- what is read line by line, in either form
abbrev pub line_by : Bool → List ℕ → PlainLine
line_by true l = signed_line l
line_by false l = line_off l

abbrev pub lines_by : Bool → List ℕ → List PlainLine
lines_by explain s = map (line_by explain) (cut_lines s)

-- a line is cut off and read
line-by : (explain : Bool) {l : List ℕ} {x : PlainLine} (rest : List ℕ) → Above 10 l → line_by explain l ≡ x → lines_by explain (l ++ 10 ∷ rest) ≡ x ∷ lines_by explain rest
line-by explain rest p e = ap (map (line_by explain)) (cut_line rest p) ∙ ap (λ (y : PlainLine). y ∷ lines_by explain rest) e

column-above : (n : ℕ) → Above 10 (column_text n)
unfolding column_text
column-above n = above-both (spaces-above (lead_of n)) (above-line (digits_above 19 n))

-- a share begins with a space, and has no line end
percent-tail : (tenths : ℕ) → Tail (percent_text tenths)
unfolding percent_text share_lead spaces
percent-tail tenths =
    let whole : ℕ → List ℕ = λ k. spaces k ++ decimal_text (tenths / 10) ++ text "." ++ decimal_text (tenths % 10) ++ text "%" in
    let number = above-line (digits_above 19 (tenths / 10)) in
    let digit = above-line (digits_above 19 (tenths % 10)) in
    let lead : (k : ℕ) → Tail (whole (suc k)) = λ k.
    spaced (above-both (above-both (above-both (above-both (spaces-above k) number) (letters 10 (text ".") refl)) digit) (letters 10 (text "%") refl)) in
    by-lt (λ (k : ℕ). Tail (whole k)) tenths 100 (λ h. lead 3) (λ h. by-lt (λ (k : ℕ). Tail (whole k)) tenths 1000 (λ i. lead 2) (λ i. lead 1))

share-tail : (minutes ticks : ℕ) → Tail (share_text minutes ticks)
unfolding share_text
share-tail minutes ticks = by-eq Tail ticks 0 (λ h. spaced (letters 10 (text "      -") refl)) (λ h. percent-tail (tenths_of minutes ticks))

plain-off : {w : List ℕ} (n : ℕ) (rest : List ℕ) → Above 32 w → n ≤ most_figure → lines_by false (w ++ (plain_text n ++ rest)) ≡ plain_line w n ∷ lines_by false rest
unfolding plain_text
plain-off {w} n rest p h =
    let d = decimal_text n in
    let e : w ++ (plain_text n ++ rest) ≡ (w ++ 32 ∷ d) ++ 10 ∷ rest = simp append_assoc in
    ap (lines_by false) e ∙ line-by false rest (above-both (above-line p) (space-above (above-line (digits_above 19 n)))) (plain-line n p h)

signed-off : {w tail : List ℕ} (size n : ℕ) (rest : List ℕ) → Above 32 w → Tail tail → n ≤ most_figure → lines_by true (w ++ ((figure_text size n ++ tail ++ text "\n") ++ rest)) ≡ plain_line w n ∷ lines_by true rest
unfolding figure_text
signed-off {w} {tail} size n rest p q h =
    let k = name_column - size in
    let l = w ++ (spaces k ++ 32 ∷ 32 ∷ (column_text n ++ tail)) in
    let e : w ++ ((figure_text size n ++ tail ++ text "\n") ++ rest) ≡ l ++ 10 ∷ rest = simp append_assoc in
    let two = space-above (space-above (above-both (column-above n) (tail-above q))) in
    ap (lines_by true) e ∙ line-by true rest (above-both (above-line p) (above-both (spaces-above k) two)) (signed-line k n p q h)

-- a word, and what is written after it in either form: minutes with their share, or a total
pub minutes-off : (explain : Bool) {w : List ℕ} (ticks size n : ℕ) (rest : List ℕ) → Above 32 w → n ≤ most_figure → lines_by explain (w ++ (minutes_text explain ticks size n ++ rest)) ≡ plain_line w n ∷ lines_by explain rest
unfolding minutes_text pick
minutes-off true ticks size n rest p h = signed-off size n rest p (share-tail n ticks) h
minutes-off false ticks size n rest p h = plain-off n rest p h

pub total-off : (explain : Bool) {w : List ℕ} (size n : ℕ) (rest : List ℕ) → Above 32 w → n ≤ most_figure → lines_by explain (w ++ (total_text explain size n ++ rest)) ≡ plain_line w n ∷ lines_by explain rest
unfolding total_text pick
total-off true {w} size n rest p h = ap (λ (s : List ℕ). lines_by true (w ++ (s ++ text "\n" ++ rest))) (sym (append-nil (figure_text size n))) ∙ signed-off size n rest p ended h
total-off false size n rest p h = plain-off n rest p h
