-- `read_list` and `read_element` end together: the bytes left fall with each element and each inner list.
use Prim.Native.Nat.{◌+◌, ◌-◌, ◌*◌}
use Rattle.read_tlv.proofs.+read_element_read_list.Given as goal

abbrev pub decreases-read_element : goal.decreases-read_element
decreases-read_element l = 2 * (l.end - l.at)

abbrev pub decreases-read_list : goal.decreases-read_list
decreases-read_list l = 2 * (l.end - l.at) + 1
