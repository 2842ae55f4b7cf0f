use Rattle.std.proofs.Common.{◌≡◌, ◌+◌, ◌≤◌, List, length}
use Rattle.ct_data_tiles.specs.TileLeaf.{Tiled}
use Rattle.ct_data_tiles.proofs.Tiles.{PassedLeaves}
use Rattle.ct_data_tiles.proofs.data_tile.count_tile_leaves.Given as goal

-- the bytes that were read are this number of leaves
abbrev pub invariant-leaves : goal.invariant-leaves
invariant-leaves l = (L : List Tiled) × PassedLeaves L l.bytes l.reader × (length L ≡ l.count) × (l.count + length l.reader ≤ length l.bytes)

abbrev pub decreases-leaves : goal.decreases-leaves
decreases-leaves l = length l.reader
