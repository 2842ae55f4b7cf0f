use Rattle.std.proofs.Common.{◌≡◌, ◌+◌, ◌≤◌, List, length}
use Rattle.ct_data_tiles.specs.TileLeaf.{Tiled}
use Rattle.ct_data_tiles.specs.DataTile.{tile_leaves_text}
use Rattle.ct_data_tiles.proofs.Tiles.{PassedLeaves}
use Rattle.ct_data_tiles.specs.TileEntries.{tile_entries_bytes}
use Rattle.ct_data_tiles.proofs.entry_bytes.text_of.Given as goal

-- the bytes that were read are `count` leaves with `start` bytes, and their entries are written
abbrev pub invariant-leaves : goal.invariant-leaves
invariant-leaves l =
    (L : List Tiled) × PassedLeaves L l.tile l.reader × (length L ≡ l.count) × (l.start ≡ length (tile_leaves_text L))
    × (l.text.items ≡ tile_entries_bytes 0 L) × (l.count + length l.reader ≤ length l.tile)

abbrev pub decreases-leaves : goal.decreases-leaves
decreases-leaves l = length l.reader
