-- `read_list` and `read_element` meet their contracts together: by induction on the bytes left, which fall with each element and each inner list.
use Rattle.read_tlv.proofs.Counts.{list-onward}
use Rattle.read_tlv.proofs.Inside.{head-inside, element-inside}
use Rattle.read_tlv.specs.Lists.{list_of, rest_after}
use Rattle.base_choice.proofs.Branches.{lt!, nlt!, eq!, ne! }
use mathlib.Core.Path.{refl}
use native.Mathlib.Omega.{arith}
use Prim.Native.Nat.{◌+◌, ◌-◌, ◌*◌, ◌<◌}
use Rattle.read_tlv.proofs.+read_element_read_list.Goals as goal

pub read_element-read_list-requires : goal.read_element-read_list-requires
read_element-read_list-requires t c = let i = head-inside _ _ _ _ _ _ _ c.in_ok-head.ensures in
    let m : 2 * (c.in_ok-head.head.stop - c.in_ok-head.head.start) + 1 < t = omega arith in
    (m, tt)

pub read_list-returns-then-s-end : goal.read_list-returns-then-s-end
unfolding list_of
read_list-returns-then-s-end t c = list-onward _ _ _ _ _ (lt! _ (omega arith) refl)

pub read_list-returns-then-end-at : goal.read_list-returns-then-end-at
unfolding list_of
read_list-returns-then-end-at t c = list-onward _ _ _ _ _ (nlt! _ (omega arith) (lt! _ (omega arith) refl))

pub read_list-returns-then-level-lt1 : goal.read_list-returns-then-level-lt1
unfolding list_of
read_list-returns-then-level-lt1 t c = list-onward _ _ _ _ _ (nlt! _ (omega arith) (nlt! _ (omega arith) (lt! _ (omega arith) refl)))

pub read_list-returns-then-level-gt-LEVELS : goal.read_list-returns-then-level-gt-LEVELS
unfolding list_of
read_list-returns-then-level-gt-LEVELS t c = list-onward _ _ _ _ _ (nlt! _ (omega arith) (nlt! _ (omega arith) (nlt! _ (omega arith) (lt! _ (omega arith) refl))))

pub read_list-returns-then-at-end : goal.read_list-returns-then-at-end
unfolding list_of
read_list-returns-then-at-end t c = list-onward _ _ _ _ _ (nlt! _ (omega arith) (nlt! _ (omega arith) (nlt! _ (omega arith) (nlt! _ (omega arith) (eq! _ (omega arith) refl)))))

pub read_list-read_list-requires : goal.read_list-read_list-requires
read_list-read_list-requires t c = let i = element-inside _ _ _ _ c.in-Some.next c.in-Some.ensures in
    let m : 2 * (c.args.end - c.in-Some.next) + 1 < t = omega arith in
    (m, tt)

pub read_list-returns-in-None : goal.read_list-returns-in-None
unfolding list_of rest_after
read_list-returns-in-None t c = list-onward _ _ _ _ _ (nlt! _ (omega arith) (nlt! _ (omega arith) (nlt! _ (omega arith) (nlt! _ (omega arith) (ne! _ (omega arith) (rw (← c.read_element.ensures) (rw c.in-None.is refl)))))))

pub read_list-returns-in-Some : goal.read_list-returns-in-Some
unfolding list_of rest_after
read_list-returns-in-Some t c = list-onward _ _ _ _ _ (nlt! _ (omega arith) (nlt! _ (omega arith) (nlt! _ (omega arith) (nlt! _ (omega arith) (ne! _ (omega arith) (rw (← c.read_element.ensures) (rw c.in-Some.is c.read_list.ensures)))))))
