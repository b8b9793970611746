-- The table of kinds in numbers. A kind that a number has says which number it is (`numbered`); from there each law goes by the kind.
-- Assumes nothing.
use Prim.Native.Nat.{ℕ, ◌+◌, ◌≤◌}
use Rattle.std.specs.Prelude.{Result, Ok, Err}
use mathlib.Core.Path.{◌≡◌, refl, sym, subst}
use mathlib.Core.List.{List}
use mathlib.Core.Bool.{false, false≢true}
use native.Mathlib.Omega.{arith}
use lib.ListN.{length}
use lib.Dec.{eqb}
use borrow.Author.Tests.{le-ltb, eq-eqb, ltb-false, eqb-true, ne_eqb, not-false}
use Rattle.base_choice.specs.Choice.{pick, is_same}
use Rattle.base_choice.proofs.Branches.{by-eq}
use Rattle.rule_run.specs.Runs.{is_tick}
use Rattle.month_events.specs.Kinds.{kind_of, is_unknown, speaker_size, event_length_wrong, call_for}
use Rattle.month_events.specs.Events.{Event, call_of_event}
use Rattle.month_events.specs.Numbers.{RightLength, KindsInNumbers}
use Rattle.month_events.specs.declared.Kind.{Kind}
use Rattle.month_events.specs.declared.Kind.TheVariants.{Command, Keyed, Stored, Finished, Tick, Lost, FinishedWithMark, Policy}
use Rattle.month_events.specs.declared.NoKind.{NoKind}

abbrev pub Numbered : ℕ → Result Kind NoKind → Type 0
Numbered n (Ok Command) = n ≡ 1
Numbered n (Ok Keyed) = n ≡ 2
Numbered n (Ok Stored) = n ≡ 3
Numbered n (Ok Finished) = n ≡ 4
Numbered n (Ok Tick) = n ≡ 5
Numbered n (Ok Lost) = n ≡ 6
Numbered n (Ok FinishedWithMark) = n ≡ 7
Numbered n (Ok Policy) = n ≡ 8
Numbered n (Err e) = 1 ≤ n → 9 ≤ n

past : (n m : ℕ) → (1 ≤ n → m ≤ n) → (n ≡ m → ⊥) → 1 ≤ n → m + 1 ≤ n
past n m f x h = let l = f h in omega arith

pub numbered : (n : ℕ) → Numbered n (kind_of n)
unfolding kind_of
numbered n =
    let P = Numbered n in
    by-eq P n 1 (λ e. e) (λ x₁.
    by-eq P n 2 (λ e. e) (λ x₂.
    by-eq P n 3 (λ e. e) (λ x₃.
    by-eq P n 4 (λ e. e) (λ x₄.
    by-eq P n 5 (λ e. e) (λ x₅.
    by-eq P n 6 (λ e. e) (λ x₆.
    by-eq P n 7 (λ e. e) (λ x₇.
    by-eq P n 8 (λ e. e) (λ x₈.
    past n 8 (past n 7 (past n 6 (past n 5 (past n 4 (past n 3 (past n 2 (past n 1 (λ h. h) x₁) x₂) x₃) x₄) x₅) x₆) x₇) x₈))))))))

module _ (n : ℕ) where
  known_at : (k : Result Kind NoKind) → Numbered n k → 1 ≤ n → n ≤ 8 → is_unknown k ≡ false
  known_at (Ok Command) h l m = refl
  known_at (Ok Keyed) h l m = refl
  known_at (Ok Stored) h l m = refl
  known_at (Ok Finished) h l m = refl
  known_at (Ok Tick) h l m = refl
  known_at (Ok Lost) h l m = refl
  known_at (Ok FinishedWithMark) h l m = refl
  known_at (Ok Policy) h l m = refl
  known_at (Err e) h l m = let g = h l in absurd (omega arith)

  only-known-at : (k : Result Kind NoKind) → Numbered n k → is_unknown k ≡ false → (1 ≤ n) × (n ≤ 8)
  only-known-at (Ok Command) h p = (omega arith, omega arith)
  only-known-at (Ok Keyed) h p = (omega arith, omega arith)
  only-known-at (Ok Stored) h p = (omega arith, omega arith)
  only-known-at (Ok Finished) h p = (omega arith, omega arith)
  only-known-at (Ok Tick) h p = (omega arith, omega arith)
  only-known-at (Ok Lost) h p = (omega arith, omega arith)
  only-known-at (Ok FinishedWithMark) h p = (omega arith, omega arith)
  only-known-at (Ok Policy) h p = (omega arith, omega arith)
  only-known-at (Err e) h p = absurd (false≢true (sym p))

  module _ (bytes : List ℕ) where
    right-at : (k : Result Kind NoKind) → Numbered n k → RightLength n bytes → event_length_wrong k bytes ≡ false
    right-at (Ok Command) h r = le-ltb (length bytes) 1 (r.command h)
    right-at (Ok Keyed) h r = refl
    right-at (Ok Stored) h r = le-ltb (length bytes) 4 (r.stored h)
    right-at (Ok Finished) h r = le-ltb (length bytes) 1 (r.finished h)
    right-at (Ok Tick) h r = rw (eq-eqb (length bytes) 0 (r.tick h))
    right-at (Ok Lost) h r = rw (eq-eqb (length bytes) 0 (r.lost h))
    right-at (Ok FinishedWithMark) h r = le-ltb (length bytes) 2 (r.finished-with-mark h)
    right-at (Ok Policy) h r = le-ltb (length bytes) (speaker_size bytes 0) (r.policy-update h)
    right-at (Err e) h r = refl

    -- a length that is right for the kind of a number is right for the number's row
    only-right-at : event_length_wrong (kind_of n) bytes ≡ false → RightLength n bytes
    unfolding kind_of pick is_same
    only-right-at p =
        let at : (m : ℕ) → n ≡ m → event_length_wrong (kind_of m) bytes ≡ false = λ m e. subst (λ (k : ℕ). event_length_wrong (kind_of k) bytes ≡ false) e p in
        record {
          command = λ e. ltb-false (length bytes) 1 (at 1 e);
          stored = λ e. ltb-false (length bytes) 4 (at 3 e);
          finished = λ e. ltb-false (length bytes) 1 (at 4 e);
          tick = λ e. eqb-true (length bytes) 0 (not-false (eqb (length bytes) 0) (at 5 e));
          lost = λ e. eqb-true (length bytes) 0 (not-false (eqb (length bytes) 0) (at 6 e));
          finished-with-mark = λ e. ltb-false (length bytes) 2 (at 7 e);
          policy-update = λ e. ltb-false (length bytes) (speaker_size bytes 0) (at 8 e);
        }

    tick-at : (k : Result Kind NoKind) → Numbered n k → is_tick (call_for k bytes) ≡ eqb n 5
    tick-at (Ok Command) h = sym (ne_eqb n 5 (omega arith))
    tick-at (Ok Keyed) h = sym (ne_eqb n 5 (omega arith))
    tick-at (Ok Stored) h = sym (ne_eqb n 5 (omega arith))
    tick-at (Ok Finished) h = sym (ne_eqb n 5 (omega arith))
    tick-at (Ok Tick) h = sym (eq-eqb n 5 h)
    tick-at (Ok Lost) h = sym (ne_eqb n 5 (omega arith))
    tick-at (Ok FinishedWithMark) h = sym (ne_eqb n 5 (omega arith))
    tick-at (Ok Policy) h = sym (ne_eqb n 5 (omega arith))
    tick-at (Err e) h = sym (ne_eqb n 5 (λ f. let g = h (omega arith) in omega arith))

pub kinds-in-numbers : KindsInNumbers
kinds-in-numbers =
    record {
      known = λ e. known_at e.kind (kind_of e.kind) (numbered e.kind);
      only-known = λ e. only-known-at e.kind (kind_of e.kind) (numbered e.kind);
      right = λ e. right-at e.kind e.bytes (kind_of e.kind) (numbered e.kind);
      only-right = λ e. only-right-at e.kind e.bytes;
    }

-- an event is a tick exactly where its kind is 5
pub kind-of-tick : (e : Event) → is_tick (call_of_event e) ≡ eqb e.kind 5
kind-of-tick e = tick-at e.kind e.bytes (kind_of e.kind) (numbered e.kind)
