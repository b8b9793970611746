-- What the goals of this crate's functions unfold: the choices with their tests, and the readers.
use Rattle.std.specs.Prelude.{⊤}
use Rattle.base_choice.specs.Choice.{pick, is_below, is_same}
use Rattle.read_fields.specs.StoreData.{dgi_at, confirmation_at, request_named, store_data_at}
use Rattle.read_fields.specs.Delete.{verification_at, deletion_at}
use Rattle.read_fields.specs.GetStatus.{tag_noted, tags_at, listing_at}

unfoldable pub readers : ⊤
unfolding pick is_below is_same dgi_at confirmation_at request_named store_data_at verification_at deletion_at tag_noted tags_at listing_at
readers = tt
