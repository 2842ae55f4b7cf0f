use Rattle.std.proofs.Common.{◌≡◌, ◌++◌, length}
use Rattle.ct_tiles.specs.Handed.{contents_in}
use Rattle.libwagtenib.specs.Tiles.{pieces}
use Rattle.libwagtenib.proofs.tiles.pieces_of.Given as goal

abbrev pub invariant-loop-length : goal.invariant-loop-length
invariant-loop-length l = pieces l.fn.lengths l.fn.bytes ≡ contents_in l.contents.items ++ pieces l.lengths l.bytes

abbrev pub decreases-loop-length : goal.decreases-loop-length
decreases-loop-length l = length l.lengths
