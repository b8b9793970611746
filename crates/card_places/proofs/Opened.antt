-- What the goals of this crate's functions unfold: what is said of all places or of any, and an AID's hash.
use Rattle.std.specs.Prelude.{⊤}
use Rattle.card_places.specs.Places.{all_of, any_of}
use Rattle.card_places.specs.Hashes.{hash_of}

unfoldable pub searches : ⊤
unfolding all_of any_of hash_of
searches = tt
