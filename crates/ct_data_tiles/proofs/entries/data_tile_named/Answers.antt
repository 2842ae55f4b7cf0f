use Rattle.ct_data_tiles.proofs.LeafByLeaf.{unnamed}
use Rattle.ct_data_tiles.proofs.entries.data_tile_named.Goals as goal

pub returns-in-Err : goal.returns-in-Err
returns-in-Err c = unnamed c.from.result.tile c.in-Err.fault c.args.name.now c.from.ensures c.in-Err.ensures
