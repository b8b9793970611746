-- The lines and the rest add up to the ticks. A tick is one minute more on a line that is told; a new line has no minutes yet, nor has the
-- rest before it is told. By induction over the calls, from any count on. Assumes nothing.
use mathlib.Core.Path.{◌≡◌, refl, ap, sym, subst, ◌∙◌}
use Prim.Native.Nat.{ℕ, zero, suc, ◌+◌, ◌≤◌, ◌<◌}
use native.Mathlib.Omega.{arith}
use mathlib.Core.List.{List, [], ◌∷◌}
use mathlib.Core.Bool.{Bool, true, false, cond, false≢true}
use lib.ListN.{length, get_or, take, length-append, length-take, length-replicate, get_or-replicate, length-set}
use lib.Seq.{get_or-set_same, get_or-set_other, take-set-le}
use Rattle.card_isdp.specs.declared.Aid.{Aid}
use Rattle.card_record.specs.Cards.{enabled_aid}
use Rattle.card_record.specs.declared.Card.{Card}
use Rattle.rule_run.specs.Calls.{Call}
use Rattle.rule_run.specs.Step.{step}
use Rattle.rule_run.specs.Runs.{is_tick, ticks_among}
use Rattle.month_tally.specs.Lines.{most_lines, rest_line, minutes_length, seek_aid, aids_in, line_of, no_names, noted, minute_on, no_minutes, minutes_in}
use Rattle.month_tally.specs.declared.Names.{Names}
use Rattle.month_tally.proofs.Noting.{lines-most, with_line, with_rest, by-noting, aids-new}
use Rattle.month_count.specs.Month.{Counted, at_first, counted, counting}
use Rattle.month_count.specs.Statements.{TicksAddUp}
use Rattle.month_count.proofs.Events.{ticks-told}
use Rattle.month_count.proofs.Settled.{Fit, Settled, Settled.on_line, Settled.in_rest, line-found, line-rest, none-fit}
use Rattle.month_count.proofs.Figures.{Kept, first-kept, kept_next}

-- the minutes of some lines, with one line more, and with one minute more
lines_next : (l : List ℕ) (j : ℕ) → minutes_in (take (suc j) l) ≡ minutes_in (take j l) + get_or l j 0
unfolding minutes_in
lines_next [] zero = refl
lines_next [] (suc j) = refl
lines_next (x ∷ xs) zero = omega arith
lines_next (x ∷ xs) (suc j) = let e = lines_next xs j in omega arith

lines-minute : (l : List ℕ) (i j : ℕ) → i < j → i < length l → minutes_in (take j (minute_on i l)) ≡ minutes_in (take j l) + 1
unfolding minutes_in
lines-minute [] i j h k = absurd (omega arith)
lines-minute (x ∷ xs) i zero h k = absurd (omega arith)
lines-minute (x ∷ xs) zero (suc j) h k = omega arith
lines-minute (x ∷ xs) (suc i) (suc j) h k = let e = lines-minute xs i j (omega arith) (omega arith) in omega arith

-- the lines and the rest that are told add up to t, and nothing stands elsewhere
record Sums (n : Names) (minutes : List ℕ) (t : ℕ) : Type 0 where
  size : length minutes ≡ minutes_length
  told : minutes_in (take (length (aids_in n)) minutes) + cond n.more (get_or minutes rest_line 0) 0 ≡ t
  unused : (i : ℕ) → length (aids_in n) ≤ i → i < most_lines → get_or minutes i 0 ≡ 0
  no-rest : n.more ≡ false → get_or minutes rest_line 0 ≡ 0

module _ (n : Names) (minutes : List ℕ) (t : ℕ) (fit : Fit n) (sums : Sums n minutes t) where
  -- a minute on a line
  line-sums : (i : ℕ) → i < length (aids_in n) → Sums n (minute_on i minutes) (t + 1)
  line-sums i h =
      let few = lines-most n fit.size in
      let e = lines-minute minutes i (length (aids_in n)) h (omega (arith, sums.size)) in
      let other : (j : ℕ) → i < j → get_or (minute_on i minutes) j 0 ≡ get_or minutes j 0 = λ j k. get_or-set_other minutes i j (get_or minutes i 0 + 1) 0 (λ q. absurd (omega arith)) in
      record {
        size = length-set minutes i (get_or minutes i 0 + 1) ∙ sums.size;
        told = let g = sums.told in rw (other rest_line (omega arith)) (omega arith);
        unused = λ j k l. other j (omega arith) ∙ sums.unused j k l;
        no-rest = λ m. other rest_line (omega arith) ∙ sums.no-rest m;
      }

  -- a minute of the rest
  rest-sums : n.more ≡ true → Sums n (minute_on rest_line minutes) (t + 1)
  rest-sums m =
      let few = lines-most n fit.size in
      let e = take-set-le (length (aids_in n)) minutes rest_line (get_or minutes rest_line 0 + 1) few in
      let f = get_or-set_same minutes rest_line (get_or minutes rest_line 0 + 1) 0 (omega (arith, sums.size)) in
      let g : minutes_in (take (length (aids_in n)) minutes) + get_or minutes rest_line 0 ≡ t = rw m at sums.told in
      record {
        size = length-set minutes rest_line (get_or minutes rest_line 0 + 1) ∙ sums.size;
        told = rw (m, e, f) (omega arith);
        unused = λ j k l. get_or-set_other minutes rest_line j (get_or minutes rest_line 0 + 1) 0 (λ q. absurd (omega arith)) ∙ sums.unused j k l;
        no-rest = λ x. absurd (false≢true (sym x ∙ m));
      }

  minute-sums : (a : Aid) → Settled n a → Sums n (minute_on (line_of n a) minutes) (t + 1)
  minute-sums a (on_line h) = rw (line-found (aids_in n) a h) (line-sums (seek_aid a (aids_in n)) h)
  minute-sums a (in_rest h k m) = rw (line-rest (aids_in n) a h) (rest-sums m)

  tick-sums : (a : Aid) (b : Bool) → Settled n a → Sums n (cond b (minute_on (line_of n a) minutes) minutes) (t + cond b 1 0)
  tick-sums a true s = minute-sums a s
  tick-sums a false s = subst (Sums n minutes) (omega arith) sums

  -- an AID noted: a new line has no minutes yet
  new-sums : (a : Aid) → n.count < most_lines → Sums (with_line n a) minutes t
  new-sums a h =
      let lines = length-take n.count n.aids in
      let size : length (aids_in (with_line n a)) ≡ suc (length (aids_in n)) = ap length (aids-new n fit.size a h) ∙ length-append (aids_in n) (a ∷ []) ∙ omega arith in
      let none = sums.unused (length (aids_in n)) (omega arith) (omega arith) in
      let next = lines_next minutes (length (aids_in n)) in
      let g = sums.told in
      record {
        size = sums.size;
        told = rw size (omega arith);
        unused = λ i k l. sums.unused i (omega arith) l;
        no-rest = sums.no-rest;
      }

  -- the rest is told from now on
  rest-case : (b : Bool) (lines rest : ℕ) → (b ≡ false → rest ≡ 0) → lines + cond b rest 0 ≡ t → lines + rest ≡ t
  rest-case true lines rest f e = e
  rest-case false lines rest f e = let z = f refl in omega arith

  left-sums : Sums (with_rest n) minutes t
  left-sums =
      record {
        size = sums.size;
        told = rest-case n.more (minutes_in (take (length (aids_in n)) minutes)) (get_or minutes rest_line 0) sums.no-rest sums.told;
        unused = sums.unused;
        no-rest = λ e. absurd (false≢true (sym e));
      }

  noted-sums : (a : Aid) → Sums (noted n a) minutes t
  noted-sums a = by-noting (λ (m : Names). Sums m minutes t) n a (λ e. sums) (λ e h. new-sums a h) (λ e h. left-sums)

first-sums : (c : Card) → Sums (at_first c).tally.names (at_first c).minutes 0
unfolding minutes_in
first-sums c =
    noted-sums no_names no_minutes 0 none-fit
    (record {
      size = length-replicate {A = ℕ} minutes_length 0;
      told = refl;
      unused = λ i h k. get_or-replicate {A = ℕ} minutes_length i 0 0 (omega arith);
      no-rest = λ e. get_or-replicate {A = ℕ} minutes_length rest_line 0 0 (omega arith);
    })
    (enabled_aid c)

sums-end : (c : Card) (calls : List Call) (k : Counted) (t : ℕ) → Kept c k → Sums k.tally.names k.minutes t → Sums (counting c calls k).tally.names (counting c calls k).minutes (t + ticks_among calls)
unfolding counting ticks_among
sums-end c [] k t kept sums = subst (Sums k.tally.names k.minutes) (omega arith) sums
sums-end c (call ∷ calls) k t kept sums =
    let ticked = tick-sums k.tally.names k.minutes t kept.fit sums (enabled_aid c) (is_tick call) kept.settled in
    let then = noted-sums k.tally.names (counted c call k).minutes (t + cond (is_tick call) 1 0) kept.fit ticked (enabled_aid (step c call).card) in
    let end = sums-end (step c call).card calls (counted c call k) (t + cond (is_tick call) 1 0) (kept_next c call k kept) then in
    subst (Sums (counting (step c call).card calls (counted c call k)).tally.names (counting (step c call).card calls (counted c call k)).minutes) (omega arith) end

pub ticks-add-up : TicksAddUp
ticks-add-up c calls =
    let h = sums-end c calls (at_first c) 0 (first-kept c) (first-sums c) in
    record { lines = h.told ∙ omega arith; ticks = ticks-told c calls }
