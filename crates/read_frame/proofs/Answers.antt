-- What a reader of commands answers is the word of its rows: a refusal exactly where a row's condition holds, by the first such row, and what it
-- found in the data field exactly where none does. By whether the rows' word is a success; said once for every reader.
use mathlib.Core.Path.{◌≡◌, refl, sym, ap, ◌∙◌}
use mathlib.Core.Bool.{Bool, true, false, cond, false≢true}
use native.Mathlib.Omega.{arith}
use Prim.Native.Nat.{ℕ}
use Rattle.std.specs.Prelude.{Option, Some, None, Result, Ok, Err, is_none, ok_or}
use Rattle.base_status.specs.StatusWords.{is_done}
use Rattle.base_status.specs.Rows.{word_of}
use Rattle.base_status.specs.declared.Status.{Status}
use Rattle.base_status.specs.declared.Status.TheVariants as status
use Rattle.read_frame.specs.Rows.{rows_by, word_read}
use Rattle.read_frame.proofs.Rows.{Passes, passes-done, done-passes}

-- a data field is found to hold a value or is wrong, and the answer is the value read or the word of the refusal
module _ {A : Type 0} where
  pub wrong-refused : (f : Option A) → is_none f ≡ true → ok_or f status.DataWrong ≡ Err status.DataWrong
  wrong-refused None h = refl
  wrong-refused (Some v) h = absurd (false≢true h)

  taken : (f : Option A) (v : A) → Ok v ≡ ok_or f status.DataWrong → Some v ≡ f
  taken None v q = let z : ◌≡◌ {A = ℕ} 0 1 = cc in absurd (omega arith)
  taken (Some w) v q = cc

  given : (f : Option A) → is_none f ≡ false → (v : A) × (Ok v ≡ ok_or f status.DataWrong)
  given None h = absurd (false≢true (sym h))
  given (Some v) h = (v, refl)

  apart : (v : A) (w : Status) → Ok v ≡ Err w → ⊥
  apart v w q = let z : ◌≡◌ {A = ℕ} 0 1 = cc in omega arith

  worded : (v w : Status) → ◌≡◌ {A = Result A Status} (Err v) (Err w) → v ≡ w
  worded v w q = cc

  module _ (f : Option A) (w : Status) where
    read-case : (b : Bool) (v : A) → Ok v ≡ cond b (ok_or f status.DataWrong) (Err w) → (b ≡ true) × (Some v ≡ f)
    read-case true v q = (refl, taken f v q)
    read-case false v q = absurd (apart v w q)

    refused-case : (b : Bool) (v : Status) → (b ≡ true → is_none f ≡ false) → Err v ≡ cond b (ok_or f status.DataWrong) (Err w) → (v ≡ w) × (b ≡ false)
    refused-case true v h q = let r = given f (h refl) in absurd (apart r.0 v (r.1 ∙ sym q))
    refused-case false v h q = (worded v w q, refl)

  word-case : (f : Option A) (w : Status) (b : Bool) → (b ≡ true → (is_none f ≡ false) × (w ≡ status.Done))
      → word_read (cond b (ok_or f status.DataWrong) (Err w)) ≡ w
  word-case f w false h = refl
  word-case (Some v) w true h = sym (h refl).1
  word-case None w true h = absurd (false≢true (sym (h refl).0))

-- the rows of a command with what its data field was found to hold
module _ {A : Type 0} (length class instruction parameters shape : Bool) (f : Option A) where
  abbrev word : Status
  word = word_of status.Done (rows_by length class instruction parameters shape (is_none f))

  abbrev answer : Result A Status
  answer = cond (is_done word) (ok_or f status.DataWrong) (Err word)

  abbrev Pass : Type 0
  Pass = Passes length class instruction parameters shape (is_none f)

  passed-done : Pass → word ≡ status.Done
  passed-done p = passes-done length class instruction parameters shape (is_none f) p

  done-passed : is_done word ≡ true → Pass
  done-passed h = done-passes length class instruction parameters shape (is_none f) h

  -- a refusal exactly where the rows' word is no success; its word is that
  pub refused-word : (w : Status) → Err w ≡ answer → (w ≡ word) × (is_done w ≡ false)
  refused-word w q = let r = refused-case f word (is_done word) w (λ h. (done-passed h).data_right) q in (r.0, ap is_done r.0 ∙ r.1)

  -- a value exactly where the rows' word is 90 00; it is what was found
  pub read_done : (v : A) → Ok v ≡ answer → (word ≡ status.Done) × (Some v ≡ f)
  read_done v q = let p = read-case f word (is_done word) v q in (passed-done (done-passed p.0), p.1)

  pub done-read : word ≡ status.Done → (v : A) × (Ok v ≡ answer)
  done-read h =
      let d = ap is_done h in
      let r = given f (done-passed d).data_right in
      (r.0, rw d r.1)

  pub read-passes : (v : A) → Ok v ≡ answer → Pass
  read-passes v q = done-passed (ap is_done (read_done v q).0)

  pub passes-answer : Pass → ok_or f status.DataWrong ≡ answer
  passes-answer p = rw (passed-done p) refl

  -- the word that the answer gives is that of the rows
  pub rows-word : word_read answer ≡ word
  rows-word = word-case f word (is_done word) (λ e. let p = done-passed e in (p.data_right, passed-done p))
