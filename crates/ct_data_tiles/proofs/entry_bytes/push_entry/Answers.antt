use Rattle.std.proofs.Common.{arith}
use Rattle.ct_data_tiles.specs.Lent.{tiled}
use Rattle.ct_data_tiles.proofs.Places.{text_length}
use Rattle.ct_data_tiles.proofs.entry_bytes.push_entry.Goals as goal

pub overflow_add-result : goal.overflow_add-result
overflow_add-result c = omega (arith, c.places_of-places.ensures.fingerprints, c.requires.fits, text_length (tiled c.args.leaf.now))

pub returns-clause-next : goal.returns-clause-next
returns-clause-next c = omega (arith, c.places_of-places.ensures.fingerprints, text_length (tiled c.args.leaf.now))
