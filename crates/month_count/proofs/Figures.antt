-- What a line says. The enabled AID is already noted when a tick comes, and the line of a noted AID never moves: so a tick is counted on the
-- line that its AID has at the end, and the minutes of a line are the ticks whose AID has that line then. By induction over the calls, from
-- any count on. Assumes nothing.
use mathlib.Core.Path.{◌≡◌, refl, ap, sym, ◌∙◌}
use Prim.Native.Nat.{ℕ, ◌+◌, ◌<◌}
use native.Mathlib.Omega.{arith}
use mathlib.Core.List.{List, [], ◌∷◌}
use mathlib.Core.Bool.{Bool, true, false, not, cond, ◌&&◌}
use lib.ListN.{length, get_or, length-set, length-replicate, get_or-replicate}
use lib.Seq.{get_or-set_same, get_or-set_other}
use lib.Dec.{eqb}
use borrow.Author.Tests.{eqb-true, eqb-false}
use Rattle.card_isdp.specs.Aids.{no_aid}
use Rattle.card_isdp.specs.declared.Aid.{Aid}
use Rattle.card_record.specs.Cards.{enabled_aid}
use Rattle.card_record.specs.declared.Card.{Card}
use Rattle.rule_run.specs.Calls.{Call}
use Rattle.rule_run.specs.Step.{step}
use Rattle.rule_run.specs.Runs.{is_tick}
use Rattle.month_tally.specs.Lines.{rest_line, minutes_length, same_aid, aids_in, line_of, no_names, noted, minute_on}
use Rattle.month_tally.specs.declared.Names.{Names}
use Rattle.month_count.specs.Month.{Counted, at_first, counted, counting}
use Rattle.month_count.specs.Statements.{month_from, figure, cards_reached, enabled_in, is_among_aids, WhatALineSays}
use Rattle.month_count.proofs.Splits.{figure-none, figure-next, figure-same}
use Rattle.month_tally.proofs.Noting.{lines-most, line-most}
use Rattle.month_tally.specs.Statements.{noted_all}
use Rattle.month_tally.proofs.InOrder.{lines-in-order}
use Rattle.month_count.proofs.Settled.{Fit, Settled, Later, later-self, later-then, line_stays, none-fit, After, after, line-is, rest-is}

-- a count on a card: the enabled AID is noted, and there are minutes for each line and for the rest
pub record Kept (c : Card) (k : Counted) : Type 0 where
  pub fit : Fit k.tally.names
  pub settled : Settled k.tally.names (enabled_aid c)
  pub size : length k.minutes ≡ minutes_length

pub first-kept : (c : Card) → Kept c (at_first c)
first-kept c =
    let h = after no_names (enabled_aid c) none-fit in
    record { fit = h.fits; settled = h.settled; size = length-replicate {A = ℕ} minutes_length 0 }

-- a minute more on a line that is there, and nowhere else
minute-case : (line i : ℕ) (minutes : List ℕ) (b : Bool) → line < length minutes → eqb line i ≡ b → get_or (minute_on line minutes) i 0 ≡ get_or minutes i 0 + cond b 1 0
minute-case line i minutes true h e =
    let same = eqb-true line i e in
    let f = get_or-set_same minutes line (get_or minutes line 0 + 1) 0 h in
    rw (← same) f
minute-case line i minutes false h e =
    let f = get_or-set_other minutes line i (get_or minutes line 0 + 1) 0 (λ q. eqb-false line i e (sym q)) in
    omega arith

timed-case : (line i : ℕ) (minutes : List ℕ) (t : Bool) → line < length minutes → get_or (cond t (minute_on line minutes) minutes) i 0 ≡ get_or minutes i 0 + cond (t && eqb line i) 1 0
timed-case line i minutes true h = minute-case line i minutes (eqb line i) h refl
timed-case line i minutes false h = omega arith

timed-size-case : (line : ℕ) (minutes : List ℕ) (t : Bool) → length (cond t (minute_on line minutes) minutes) ≡ length minutes
timed-size-case line minutes true = length-set minutes line (get_or minutes line 0 + 1)
timed-size-case line minutes false = refl

module _ (c : Card) (call : Call) (k : Counted) (kept : Kept c k) where
  abbrev next : Card
  next = (step c call).card

  noted-next : After k.tally.names (enabled_aid next) (noted k.tally.names (enabled_aid next))
  noted-next = after k.tally.names (enabled_aid next) kept.fit

  pub kept_next : Kept next (counted c call k)
  kept_next =
      record {
        fit = noted-next.fits;
        settled = noted-next.settled;
        size = timed-size-case _ k.minutes (is_tick call) ∙ kept.size;
      }

  pub later-next : Later k.tally.names (counted c call k).tally.names
  later-next = noted-next.later

  -- the minutes after the call
  pub minutes-next : (i : ℕ) → get_or (counted c call k).minutes i 0 ≡ get_or k.minutes i 0 + cond (is_tick call && eqb (line_of k.tally.names (enabled_aid c)) i) 1 0
  minutes-next i =
      let m = line-most k.tally.names kept.fit.size (enabled_aid c) in
      timed-case (line_of k.tally.names (enabled_aid c)) i k.minutes (is_tick call) (omega (arith, kept.size))

pub kept-end : (c : Card) (calls : List Call) (k : Counted) → Kept c k → Fit (counting c calls k).tally.names
unfolding counting
kept-end c [] k kept = kept.fit
kept-end c (call ∷ calls) k kept = kept-end (step c call).card calls (counted c call k) (kept_next c call k kept)

pub later-end : (c : Card) (calls : List Call) (k : Counted) → Kept c k → Later k.tally.names (counting c calls k).tally.names
unfolding counting
later-end c [] k kept = later-self k.tally.names
later-end c (call ∷ calls) k kept =
    later-then (later-next c call k kept) (later-end (step c call).card calls (counted c call k) (kept_next c call k kept))

-- the AIDs that have a line, at the end
abbrev has : Names → ℕ → Aid → Bool
has n i a = eqb (line_of n a) i

pub figures : (c : Card) (calls : List Call) (k : Counted) (i : ℕ) → Kept c k → get_or (counting c calls k).minutes i 0 ≡ get_or k.minutes i 0 + figure c calls (has (counting c calls k).tally.names i)
unfolding counting
figures c [] k i kept = let e = figure-none c (has k.tally.names i) in omega arith
figures c (call ∷ calls) k i kept =
    let end = (counting (step c call).card calls (counted c call k)).tally.names in
    let still = line_stays k.tally.names end (enabled_aid c) (later-end c (call ∷ calls) k kept) kept.settled in
    let rest = figures (step c call).card calls (counted c call k) i (kept_next c call k kept) in
    let here = figure-next c call calls (has end i) in
    let minutes = minutes-next c call k kept i in
    let same = ap (λ (line : ℕ). cond {A = ℕ} (is_tick call && eqb line i) 1 0) still in
    omega arith

-- the lines are those of the AIDs enabled, one after the other
names-from : (c : Card) (calls : List Call) (k : Counted) (n : Names) → k.tally.names ≡ noted n (enabled_aid c) → (counting c calls k).tally.names ≡ noted_all n (enabled_in c calls)
unfolding counting noted_all cards_reached
names-from c [] k n e = e
names-from c (call ∷ calls) k n e =
    names-from (step c call).card calls (counted c call k) (noted n (enabled_aid c)) (ap (λ (m : Names). noted m (enabled_aid (step c call).card)) e)

pub what-a-line-says : WhatALineSays
what-a-line-says c calls =
    let end = (month_from c calls).tally.names in
    let names = names-from c calls (at_first c) no_names refl in
    let fit = kept-end c calls (at_first c) (first-kept c) in
    let told : (i : ℕ) → i < minutes_length → get_or (month_from c calls).minutes i 0 ≡ figure c calls (has end i) = λ i h.
    let f = figures c calls (at_first c) i (first-kept c) in
    let z = get_or-replicate {A = ℕ} minutes_length i 0 0 h in
    omega arith in
    record {
      aids = ap aids_in names ∙ lines-in-order.first-64 (enabled_in c calls);
      more = ap (λ (n : Names). n.more) names ∙ lines-in-order.rest-from-65 (enabled_in c calls);
      line = λ i h. told i (omega (arith, lines-most end fit.size)) ∙ figure-same c calls (has end i) (same_aid (get_or (aids_in end) i no_aid)) (λ a. line-is end i a fit h);
      rest = told rest_line (omega arith) ∙ figure-same c calls (has end rest_line) (λ a. not (is_among_aids a (aids_in end))) (λ a. rest-is end a fit);
    }
