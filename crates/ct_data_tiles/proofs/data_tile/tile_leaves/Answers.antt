use Rattle.ct_data_tiles.proofs.Tiles.{gathered, tile_left}
use Rattle.ct_data_tiles.proofs.data_tile.tile_leaves.Goals as goal

pub returns-in_err-count_tile_leaves-clause-every : goal.returns-in_err-count_tile_leaves-clause-every
returns-in_err-count_tile_leaves-clause-every g c L text =
    tile_left c.from_residual.result c.in_err-count_tile_leaves.field-0.0 L c.args.bytes.now text c.from_residual.ensures.1 c.in_err-count_tile_leaves.ensures.fault

pub returns-clause-every : goal.returns-clause-every
returns-clause-every g c L text =
    gathered L c.args.bytes.now c.gather.result text c.gather.ensures.found c.gather.ensures.fault
