use Rattle.std.proofs.Common.{length}
use Rattle.ct_data_tiles.specs.DataTile.{tiled_all}
use Rattle.ct_data_tiles.proofs.Tiles.{PassedLeaves}
use Rattle.ct_data_tiles.proofs.data_tile.gather.Given as goal

-- the bytes that were read are the leaves
abbrev pub invariant-leaves : goal.invariant-leaves
invariant-leaves g l = PassedLeaves (tiled_all l.leaves.items) l.bytes l.reader

abbrev pub decreases-leaves : goal.decreases-leaves
decreases-leaves g l = length l.reader
