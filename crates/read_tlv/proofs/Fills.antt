-- A list is read well exactly where its elements fill it, at most four levels deep. Read well, then filled: by induction on the count,
-- element by element. Filled, then read well: by induction on the elements, with the equation that has no count.
use Prim.Native.Nat.{ℕ, zero, suc, ◌+◌, ◌-◌}
use mathlib.Core.Path.{◌≡◌, refl, sym, ap, ◌∙◌}
use mathlib.Core.List.{List}
use mathlib.Core.Bool.{Bool, true, false, false≢true}
use native.Mathlib.Omega.{arith}
use Rattle.std.specs.Prelude.{Option, Some, None, not}
use Rattle.read_tlv.specs.declared.Head.{Head}
use Rattle.base_choice.specs.Choice.{pick}
use Rattle.read_tlv.specs.Tlv.{head_read, head_at}
use Rattle.read_tlv.specs.Lists.{element_closed, element_of, rest_after, list_of, list_within, list_at, element_at, list_wrong}
use Rattle.read_tlv.specs.Filled.{Level, Filled, ended, primitive, constructed}
use Rattle.read_tlv.specs.Grammar.{ListFilled, FilledList, RightFilled}
use Rattle.base_choice.proofs.Branches.{each, each-lt, each-eq, nlt!, eq!, ne! }
use Rattle.read_tlv.proofs.Inside.{head-inside}
use Rattle.read_tlv.proofs.Counts.{list-onward}

closed-both : (rest : ℕ → Bool) (stop : ℕ) (r : Bool) → true ≡ rest_after rest (element_closed stop r) → (true ≡ r) × (true ≡ rest stop)
unfolding element_closed rest_after
closed-both rest stop true q = (refl, q)
closed-both rest stop false q = absurd (false≢true (sym q))

module _ (s : List ℕ) (at end level : ℕ) (l : Level level) (rest : ℕ → Bool) (inner : ℕ → ℕ → Bool)
    (goes : (next : ℕ) → true ≡ rest next → Filled s level next end)
    (holds : (start stop : ℕ) → true ≡ inner start stop → Filled s (level + 1) start stop) where
  element-fills : (r : Option Head) → r ≡ head_at s at end → true ≡ rest_after rest (element_of inner r) → Filled s level at end
  unfolding element_of rest_after
  element-fills None g = λ q. absurd (false≢true (sym q))
  element-fills (Some h) g = each (λ z. true ≡ rest_after rest z → Filled s level at end) h.constructed
      (λ e q. let b = closed-both rest h.stop (inner h.start h.stop) q in
      constructed l (sym (ap (λ c. head_read h.tag c h.start h.stop) e) ∙ g) (holds h.start h.stop b.0) (goes h.stop b.1))
      (λ e q. primitive l (sym (ap (λ c. head_read h.tag c h.start h.stop) e) ∙ g) (goes h.stop q))

list-of-fills : (s : List ℕ) (at end level : ℕ) (r : Bool) → (Level level → true ≡ r → Filled s level at end)
    → true ≡ list_of s at end level r → Filled s level at end
unfolding list_of
list-of-fills s at end level r f =
    let P : Bool → Type 0 = λ z. true ≡ z → Filled s level at end in
    let none : P false = λ q. absurd (false≢true (sym q)) in
    each-lt P (λ _. none) (λ a. each-lt P (λ _. none) (λ b. each-lt P (λ _. none) (λ c. each-lt P (λ _. none) (λ d.
    let l : Level level = record { outermost = omega arith; deepest = omega arith } in
    each-eq P (λ e q. rw (← e) (ended {at = at} l (omega arith))) (λ e. f l)))))

within-fills : (f : ℕ) (s : List ℕ) (at end level : ℕ) → true ≡ list_within f s at end level → Filled s level at end
unfolding list_within
within-fills zero s at end level = list-of-fills s at end level false (λ l q. absurd (false≢true (sym q)))
within-fills (suc f) s at end level = list-of-fills s at end level _ (λ l. element-fills s at end level l _ _
    (λ next. within-fills f s next end level) (λ start stop. within-fills f s start stop (level + 1)) (head_at s at end) refl)

pub list-filled : ListFilled
unfolding list_at
list-filled s at end level = within-fills (end - at) s at end level

fills : {s : List ℕ} {level at end : ℕ} → Filled s level at end → true ≡ list_at s at end level
unfolding list_of rest_after element_at element_of element_closed pick
fills {s} {level} {at} {end} (ended l h) = list-onward s at at level _
    (nlt! _ (omega arith) (nlt! _ (omega arith) (nlt! _ (omega arith) (nlt! _ (omega arith) (eq! _ refl refl)))))
fills {s} {level} {at} {end} (primitive {t} {start} {stop} l g r) =
    let i = head-inside s at end t false start stop g in
    list-onward s at end level _ (nlt! _ (omega arith) (nlt! _ (omega arith) (nlt! _ (omega arith) (nlt! _ (omega arith) (ne! _ (omega arith)
    (rw (← g) (fills r)))))))
fills {s} {level} {at} {end} (constructed {t} {start} {stop} l g n r) =
    let i = head-inside s at end t true start stop g in
    list-onward s at end level _ (nlt! _ (omega arith) (nlt! _ (omega arith) (nlt! _ (omega arith) (nlt! _ (omega arith) (ne! _ (omega arith)
    (rw (← g) (rw (← fills n) (fills r))))))))

pub filled-list : FilledList
filled-list s at end level f = fills f

right-read : (r : Bool) → not r ≡ false → true ≡ r
right-read true e = refl
right-read false e = absurd (false≢true (sym e))

pub right-filled : RightFilled
unfolding list_wrong
right-filled s at end e = list-filled s at end 1 (right-read (list_at s at end 1) e)

pub filled-right : {s : List ℕ} {at end : ℕ} → Filled s 1 at end → list_wrong s at end ≡ false
unfolding list_wrong
filled-right f = rw (← fills f) refl

-- the two levels that a data field has
pub first-level : Level 1
first-level = record { outermost = omega arith; deepest = omega arith }

pub second-level : Level 2
second-level = record { outermost = omega arith; deepest = omega arith }
