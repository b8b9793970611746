-- What the goals of this crate's functions unfold: the choices with their tests, and the readers. The check follows them with no answer.
use Rattle.std.specs.Prelude.{⊤}
use Rattle.base_choice.specs.Choice.{pick, at_most, is_below, is_same}
use Rattle.read_tlv.specs.Tlv.{tag_at, length_at, head_at, expect_at}
use Rattle.read_tlv.specs.Lists.{element_at, list_wrong}

unfoldable pub readers : ⊤
unfolding pick at_most is_below is_same tag_at length_at head_at expect_at element_at list_wrong
readers = tt
