use Rattle.ct_data_tiles.proofs.Places.{places_are_right}
use Rattle.ct_data_tiles.proofs.bytes_laws.places_are_right.Goals as goal

pub returns : goal.returns
returns c = places_are_right
