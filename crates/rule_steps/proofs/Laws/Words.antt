-- The rows of a law beside the rows of the table: each test is true exactly where the law's condition holds, so the first that holds gives the word in both. A row
-- is asked where those before it are passed: the state of the target where its AID is held. Assumes nothing.
use mathlib.Core.Path.{◌≡◌, refl, sym, ap, subst, ◌∙◌}
use Prim.Native.Nat.{ℕ, ◌≤◌}
use mathlib.Core.List.{List, [], ◌∷◌}
use mathlib.Core.Bool.{Bool, true, false, not, cond, false≢true}
use lib.ListN.{length}
use lib.Dec.{leb, eqb}
use borrow.Author.Tests.{leb-true, le-leb, eqb-true, eq-eqb, not-true, not-false}
use Rattle.std.proofs.lemmas.Bool.{false_from_ne_true}
use Rattle.base_status.specs.Rows.{Row, row, word_of}
use Rattle.base_status.specs.StatusWords.{number_of, is_done}
use Rattle.base_status.specs.declared.Status.{Status}
use Rattle.base_status.specs.declared.Status.TheVariants.{Unsound, DataWrong, StateWrong, NotHeld}
use Rattle.card_isdp.specs.Sizes.{least_aid, most_aid}
use Rattle.card_isdp.specs.Aids.{aid_ok}
use Rattle.card_isdp.specs.Policy.{policy_ok}
use Rattle.card_isdp.specs.Place.{held}
use Rattle.card_isdp.proofs.Bools.{and_l, and_r}
use Rattle.card_isdp.proofs.Policies.{policy-number}
use Rattle.card_record.specs.Cards.{is_quiet, place_of, profile_of}
use Rattle.card_record.specs.Sound.{sound}
use Rattle.card_record.specs.Answers.{Work, sound_row, outcome}
use Rattle.card_record.specs.declared.Card.{Card}
use Rattle.card_record.specs.declared.Phase.TheVariants.{Quiet}
use Rattle.card_record.proofs.Outcomes.{decided}
use Rattle.card_record.proofs.Sounds.{parts}
use Rattle.rule_steps.specs.Laws.Answer.{profile_at, Holds}
use Rattle.rule_steps.specs.Laws.Words.{PaperRow, ◌when◌, ◌unless◌, InThisOrder, IsHeld, TargetIs, FiveToSixteen}
use Rattle.rule_steps.proofs.Kept.{quietly}
use Rattle.rule_steps.proofs.Laws.Places.{place_is, holds}

-- the word of these rows of the table is the one that the law's rows give
pub record Beside (success : Status) (law : List PaperRow) (table : List Row) : Type 0 where
  pub words : InThisOrder law (word_of success table)

-- a call's answer on a sound card has the word of its rows
module _ (c : Card) (w : Work) (s : sound c ≡ true) where
  word-is : (outcome c w).status ≡ word_of w.success w.rows
  unfolding word_of
  word-is =
      let word = word_of w.success w.rows in
      decided c (word_of w.success (sound_row c ∷ w.rows)) w.step w.response ∙ ap (λ (b : Bool). cond (not b) Unsound word) s

  pub by_rows : (law : List PaperRow) → Beside w.success law w.rows → InThisOrder law (outcome c w).status
  by_rows law b = subst (InThisOrder law) (sym word-is) b.words

pub no_more : {success : Status} → is_done success ≡ true → Beside success [] []
unfolding word_of
no_more d = record { words = d }

-- a row that this call never meets
pub skip : {success word : Status} {law : List PaperRow} {table : List Row} → Beside success law table → Beside success law (row false word ∷ table)
unfolding word_of
skip b = record { words = b.words }

pub by-when : {success : Status} {law : List PaperRow} {table : List Row} {P : Type 0} {b : Bool} (word : Status) → (P → b ≡ true) → (b ≡ true → P) → (b ≡ false → Beside success law table) → Beside success (number_of word when P ∷ law) (row b word ∷ table)
unfolding word_of
by-when {b} word so only rest =
    record { words = (λ p. rw (so p) refl, λ n. let q = false_from_ne_true b (λ e. n (only e)) in rw q (rest q).words) }

pub by-unless : {success : Status} {law : List PaperRow} {table : List Row} {P : Type 0} (b : Bool) (word : Status) → (P → b ≡ true) → (b ≡ true → P) → (P → Beside success law table) → Beside success (number_of word unless P ∷ law) (row (not b) word ∷ table)
by-unless b word so only rest =
    by-when word (λ n. ap not (false_from_ne_true b (λ e. n (only e)))) (λ e p. false≢true (sym (not-true b e) ∙ so p)) (λ e. rest (only (not-false b e)))

-- an inner call's values: AID and policy, as the tests and as the paper has them
pub sized-when : (aid : List ℕ) → FiveToSixteen aid → aid_ok aid ≡ true
sized-when aid h = rw (le-leb least_aid (length aid) h.0, le-leb (length aid) most_aid h.1)

pub sized-only : (aid : List ℕ) → aid_ok aid ≡ true → FiveToSixteen aid
sized-only aid e = (leb-true least_aid (length aid) (and_l _ _ e), leb-true (length aid) most_aid (and_r (leb least_aid (length aid)) _ e))

pub legal-when : (policy : ℕ) → policy ≤ 4 → policy_ok policy ≡ true
legal-when policy h = policy-number policy ∙ le-leb policy 4 h

pub legal-only : (policy : ℕ) → policy_ok policy ≡ true → policy ≤ 4
legal-only policy e = leb-true policy 4 (sym (policy-number policy) ∙ e)

-- no change is open
pub none_open : {success : Status} {law : List PaperRow} {table : List Row} (c : Card) → (c.phase ≡ Quiet → Beside success law table) → Beside success (0x6985 unless (c.phase ≡ Quiet) ∷ law) (row (not (is_quiet c.phase)) StateWrong ∷ table)
none_open c rest = by-unless (is_quiet c.phase) StateWrong (λ q. rw q refl) (λ q. quietly c.phase (ap not q)) rest

-- the rows of a call on one target; the search for its AID finds the place that holds it
module _ (c : Card) (aid : List ℕ) (s : sound c ≡ true) where
  abbrev t : ℕ
  t = place_of c aid

  found : (i : ℕ) → Holds c aid i → i ≡ t
  found i h = sym (place_is c aid i (parts c s) h)

  pub held-when : IsHeld c aid → held (profile_of c aid) ≡ true
  held-when x = (subst (Holds c aid) (found x.0 x.1) x.1).held-there

  pub is_held : {success : Status} {law : List PaperRow} {table : List Row} → (Holds c aid t → Beside success law table) → Beside success (0x6A88 unless IsHeld c aid ∷ law) (row (not (held (profile_of c aid))) NotHeld ∷ row false DataWrong ∷ table)
  is_held rest = by-unless (held (profile_of c aid)) NotHeld held-when (λ q. (t, holds c aid q)) (λ x. skip (rest (subst (Holds c aid) (found x.0 x.1) x.1)))

  there : (So : ℕ → Type 0) → TargetIs c aid So → So t
  there So x = subst So (found x.0 x.1) x.2

  pub target-unless : {success : Status} {law : List PaperRow} {table : List Row} (So : ℕ → Type 0) (b : Bool) (word : Status) → Holds c aid t → (So t → b ≡ true) → (b ≡ true → So t) → (So t → Beside success law table) → Beside success (number_of word unless TargetIs c aid So ∷ law) (row (not b) word ∷ table)
  target-unless So b word h so only rest = by-unless b word (λ x. so (there So x)) (λ e. (t, h, only e)) (λ x. rest (there So x))

  pub target-when : {success : Status} {law : List PaperRow} {table : List Row} {b : Bool} (So : ℕ → Type 0) (word : Status) → Holds c aid t → (So t → b ≡ true) → (b ≡ true → So t) → (b ≡ false → Beside success law table) → Beside success (number_of word when TargetIs c aid So ∷ law) (row b word ∷ table)
  target-when So word h so only rest = by-when word (λ x. so (there So x)) (λ e. (t, h, only e)) rest

  -- the target's life cycle is this one
  pub in-state : {success : Status} {law : List PaperRow} {table : List Row} (life : ℕ) → Holds c aid t → ((profile_of c aid).life ≡ life → Beside success law table) → Beside success (0x6985 unless TargetIs c aid (λ i. (profile_at c i).life ≡ life) ∷ law) (row (not (eqb (profile_of c aid).life life)) StateWrong ∷ table)
  in-state life h rest = target-unless (λ i. (profile_at c i).life ≡ life) (eqb (profile_of c aid).life life) StateWrong h (eq-eqb _ _) (eqb-true _ _) rest
