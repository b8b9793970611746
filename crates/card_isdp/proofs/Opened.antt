-- What the goals of this crate's functions unfold: an AID's sixteen bytes, and the tests of one place and of two.
use Rattle.std.specs.Prelude.{⊤}
use Rattle.card_isdp.specs.Aids.{padded}
use Rattle.card_isdp.specs.Place.{place_ok, is_for, clash}

unfoldable pub places : ⊤
unfolding padded place_ok is_for clash
places = tt
