-- A run of calls in two parts, and every answer of a run: it is the step from the card then reached. By induction over the calls.
use mathlib.Core.Path.{◌≡◌, refl}
use mathlib.Core.List.{List, [], ◌∷◌, ◌++◌}
use Rattle.card_record.specs.declared.Card.{Card}
use Rattle.rule_run.specs.Calls.{Call}
use Rattle.rule_run.specs.Step.{step, run, answers}

pub run-parts : (c : Card) (xs ys : List Call) → run c (xs ++ ys) ≡ run (run c xs) ys
unfolding run
run-parts c [] ys = refl
run-parts c (x ∷ xs) ys = run-parts (step c x).card xs ys

pub answers-parts : (c : Card) (xs ys : List Call) → answers c (xs ++ ys) ≡ answers c xs ++ answers (run c xs) ys
unfolding run answers
answers-parts c [] ys = refl
answers-parts c (x ∷ xs) ys = rw (answers-parts (step c x).card xs ys)
