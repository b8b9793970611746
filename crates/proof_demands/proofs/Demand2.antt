-- Demand 2: the status is the table's word, which the first row that holds gives, by induction over the rows; an accepted call takes its
-- step; soundness is kept by every call, so by every run, and a sound card has one enabled profile and one fall-back.
use mathlib.Core.Path.{◌≡◌, refl, sym, ap, ◌∙◌}
use mathlib.Core.List.{List, [], ◌∷◌}
use mathlib.Core.Bool.{Bool, true, false, cond, false≢true}
use borrow.Author.Tests.{ne_eqb}
use Rattle.base_status.specs.declared.Status.{Status}
use Rattle.base_status.specs.StatusWords.{is_done}
use Rattle.base_status.specs.Rows.{Row, word_of}
use Rattle.base_status.proofs.Tables as tables
use Rattle.card_isdp.specs.Place.{place_ok}
use Rattle.card_isdp.proofs.Placed.{placed}
use Rattle.card_places.specs.Places.{at}
use Rattle.card_places.proofs.Lives.{within}
use Rattle.card_places.proofs.Sets.{all-at}
use Rattle.card_record.specs.Sound.{sound}
use Rattle.card_record.specs.Ticks.{steps_in, ticks_to_come}
use Rattle.card_record.specs.Notifications.{notice_since}
use Rattle.card_record.specs.Answers.{refused, accepted}
use Rattle.card_record.specs.Fresh.{fresh_outcome}
use Rattle.card_record.specs.declared.Card.{Card}
use Rattle.card_record.proofs.Sounds.{parts, kept-held, resort-done, fall-back-marked, resort-nonzero}
use Rattle.card_record.proofs.Freshness.{fresh-sound}
use Rattle.rule_steps.specs.Steps.{success_of}
use Rattle.rule_steps.proofs.Successes.{success-done}
use Rattle.rule_run.specs.Calls.{asked}
use Rattle.rule_run.specs.Table.{table}
use Rattle.rule_run.specs.Step.{run, answers}
use Rattle.rule_run.proofs.Runs.{run-parts, answers-parts}
use Rattle.rule_run.proofs.Kept.{step-sound, run_sound}
use Rattle.proof_demands.specs.Demand2.{NoneHolds, First, FirstRow, OnlyFirstRow, Otherwise, OnlyOtherwise, Takes, FreshTaken, FreshRefused, RunAnswered, Makes, Standing, FromFresh, Demand2}
use Rattle.rule_run.proofs.Words.{word-is, done-as}
use Rattle.rule_run.proofs.Taken.{takes_step}

-- the two ways to say that no row holds
to-passed : (rows : List Row) → NoneHolds rows → tables.Passed rows
to-passed [] h = tt
to-passed (r ∷ rs) h = (h.0, to-passed rs h.1)

from-passed : (rows : List Row) → tables.Passed rows → NoneHolds rows
from-passed [] h = tt
from-passed (r ∷ rs) h = (h.0, from-passed rs h.1)

pub first-row : FirstRow
first-row c call w f =
    let w = success_of c (asked c call) in
    word-is c call ∙ ap (word_of w) f.split ∙ tables.first-row w f.before f.this f.after (to-passed f.before f.none_before) f.holds ∙ f.word

-- the first row that holds is found by going down the rows
found-case : (w : Status) (r : Row) (rs : List Row) (b : Bool) → r.when ≡ b → is_done (cond b r.word (word_of w rs)) ≡ false → (is_done (word_of w rs) ≡ false → First rs (word_of w rs)) → First (r ∷ rs) (cond b r.word (word_of w rs))
found-case w r rs true q e f =
    record { before = []; this = r; after = rs; split = refl; none_before = tt; holds = q; word = refl }
found-case w r rs false q e f =
    let g = f e in
    record { before = r ∷ g.before; this = g.this; after = g.after; split = ap (λ (l : List Row). r ∷ l) g.split; none_before = (q, g.none_before); holds = g.holds; word = g.word }

found : (w : Status) → is_done w ≡ true → (rows : List Row) → is_done (word_of w rows) ≡ false → First rows (word_of w rows)
unfolding word_of
found w d [] e = absurd (false≢true (sym e ∙ d))
found w d (r ∷ rs) e = found-case w r rs r.when refl e (found w d rs)

pub only-first-row : OnlyFirstRow
only-first-row c call e = rw (word-is c call) (found (success_of c (asked c call)) (success-done c (asked c call)) (table c call) (done-as c call false e))

pub otherwise : Otherwise
otherwise c call h = word-is c call ∙ tables.no_row (success_of c (asked c call)) (table c call) (to-passed (table c call) h)

pub only-otherwise : OnlyOtherwise
only-otherwise c call e = from-passed (table c call) (tables.passed (success_of c (asked c call)) (table c call) refl (done-as c call true e))

pub takes : Takes
takes c call e = takes_step c call e

pub fresh-taken : FreshTaken
unfolding fresh_outcome word_of accepted ticks_to_come steps_in notice_since
fresh-taken eid aid capacity quota used volatile e = rw e

pub fresh-refused : FreshRefused
unfolding fresh_outcome word_of refused sound
fresh-refused eid aid capacity quota used volatile e = rw e

pub answered : RunAnswered
unfolding run answers
answered c before call after = rw (run-parts c before (call ∷ [])) (answers-parts c before (call ∷ after))

pub makes : Makes
makes eid aid capacity quota used volatile e = fresh-sound eid aid capacity quota used volatile (ap is_done e)

-- what a sound card has
pub standing : (c : Card) → sound c ≡ true → Standing c
standing c s =
    let w = parts c s in
    let n = resort-nonzero c w in
    let k = within c.places c.fallback n in
    record {
      still-sound = s;
      one-enabled = w.roles.one;
      one-fallback = k;
      fallback-held = (placed c.capacity (at c.places c.fallback) (ne_eqb _ _ n) (all-at (place_ok c.capacity) c.places c.fallback k w.placed.each)).there;
      fallback-finished = resort-done c w;
      fallback-marked = fall-back-marked c s;
      kept-held = kept-held c s;
    }

pub from-fresh : FromFresh
from-fresh eid aid capacity quota used volatile calls e =
    standing _ (run_sound (fresh_outcome eid aid capacity quota used volatile).card calls (makes eid aid capacity quota used volatile e))

pub demand-2 : Demand2
demand-2 =
    record {
      first-row = first-row;
      only-first-row = only-first-row;
      otherwise = otherwise;
      only-otherwise = only-otherwise;
      takes = takes;
      fresh-taken = fresh-taken;
      fresh-refused = fresh-refused;
      answered = answered;
      keeps = step-sound;
      makes = makes;
      from-fresh = from-fresh;
    }
