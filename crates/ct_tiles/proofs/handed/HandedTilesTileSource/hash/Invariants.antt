use Rattle.std.proofs.Common.{◌≡◌, length}
use Rattle.ct_tiles.specs.Handed.{handed_hash, contents_in}
use Rattle.ct_tiles.proofs.handed.HandedTilesTileSource.hash.Given as goal

abbrev pub invariant-loop-tile : goal.invariant-loop-tile
invariant-loop-tile l =
    handed_hash l.self.0 l.self.1 l.level l.index ≡ handed_hash l.tiles (contents_in l.contents) l.level l.index

abbrev pub decreases-loop-tile : goal.decreases-loop-tile
decreases-loop-tile l = length l.tiles
