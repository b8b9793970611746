-- `before` and `leading` count what the library's `take_while` takes.
use mathlib.Core.Path.{◌≡◌, refl, sym, ◌∙◌}
use mathlib.Core.Bool.{not}
use mathlib.Core.List.{List, [], ◌∷◌}
use Prim.Native.Nat.{ℕ}
use native.Mathlib.Omega.{arith}
use borrow.Author.Tests.{eq-eqb, ne_eqb}
use lib.Dec.{eqb}
use lib.ListN.{length}
use Rattle.std.specs.Prelude.{take_while}
use Rattle.std.specs.List.{prefix_len}
use Rattle.std.proofs.lemmas.List.Folds.{length-prefix_len}
use Rattle.base_choice.specs.Choice.{pick, is_same}
use Rattle.base_choice.proofs.Branches.{on-eq}
use Rattle.text_words.specs.Words.{before, leading}

module _ (b : ℕ) where
  before_len : (t : List ℕ) → before b t ≡ prefix_len (λ c. not (eqb c b)) t
  unfolding before pick is_same
  before_len [] = refl
  before_len (c ∷ cs) = on-eq c b (λ e. rw (eq-eqb c b e) refl) (λ e. rw (ne_eqb c b e, before_len cs) (omega arith))

  leading_len : (t : List ℕ) → leading b t ≡ prefix_len (λ c. eqb c b) t
  unfolding leading pick is_same
  leading_len [] = refl
  leading_len (c ∷ cs) = on-eq c b (λ e. rw (eq-eqb c b e, leading_len cs) (omega arith)) (λ e. rw (ne_eqb c b e) refl)

  pub before_taken : (t : List ℕ) → before b t ≡ length (take_while (λ c. not (eqb c b)) t)
  before_taken t = before_len t ∙ sym (length-prefix_len (λ c. not (eqb c b)) t)

  pub leading_taken : (t : List ℕ) → leading b t ≡ length (take_while (λ c. eqb c b) t)
  leading_taken t = leading_len t ∙ sym (length-prefix_len (λ c. eqb c b) t)
