-- The test of the class over all 256 values: what two tests say of the values under a bound are two lists of answers, equal by computing.
use Prim.Native.Nat.{ℕ, zero, suc, ◌<◌}
use mathlib.Core.Path.{◌≡◌, refl, sym, ◌∙◌}
use mathlib.Core.List.{List, [], ◌∷◌, head-eq_of_cons-eq, tail-eq_of_cons-eq}
use mathlib.Core.Bool.{Bool}
use native.Mathlib.Omega.{arith}
use Rattle.base_choice.proofs.Branches.{on-eq}
use Rattle.read_frame.specs.Framing.{class_right}
use Rattle.read_frame.specs.Classes.{is_among, is_printed, yes_under, class_right_before, ClassByte}

unfoldable pub answers_under : (ℕ → Bool) → ℕ → List Bool
answers_under test zero = []
answers_under test (suc n) = test n ∷ answers_under test n

pub alike : (one other : ℕ → Bool) (n : ℕ) → answers_under one n ≡ answers_under other n → (value : ℕ) → value < n → one value ≡ other value
unfolding answers_under
alike one other zero e value h = absurd (omega arith)
alike one other (suc n) e value h =
    on-eq
    value
    n
    (λ (last : value ≡ n). rw last (head-eq_of_cons-eq e))
    (λ (earlier : value ≡ n → ⊥). alike one other n (tail-eq_of_cons-eq e) value (omega arith))

is : answers_under class_right 256 ≡ answers_under is_printed 256
unfolding answers_under class_right is_among
is = refl

was : answers_under class_right_before 256 ≡ answers_under is_printed 256
unfolding answers_under class_right_before is_among
was = refl

counted : yes_under class_right 256 ≡ 48
unfolding yes_under class_right
counted = refl

pub class-byte : ClassByte
class-byte = record {
  as-it-is = alike class_right is_printed 256 is;
  as_it_was = alike class_right_before is_printed 256 was;
  same = alike class_right class_right_before 256 (is ∙ sym was);
  forty-eight = counted;
}
