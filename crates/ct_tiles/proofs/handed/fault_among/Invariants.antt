use Rattle.std.proofs.Common.{◌≡◌, length}
use Rattle.ct_tiles.specs.Handed.{handed_fault, contents_in}
use Rattle.ct_tiles.proofs.handed.fault_among.Given as goal

abbrev pub invariant-loop-tile : goal.invariant-loop-tile
invariant-loop-tile l = handed_fault l.fn.tiles (contents_in l.fn.contents) ≡ handed_fault l.tiles (contents_in l.contents)

abbrev pub decreases-loop-tile : goal.decreases-loop-tile
decreases-loop-tile l = length l.tiles
