use Rattle.std.proofs.Common.{◌≡◌, ◌++◌, length, map}
use Rattle.libwagtenib.specs.Tiles.{pieces}
use Rattle.libwagtenib.proofs.tiles.slices_of.Given as goal

abbrev pub invariant-loop-length : goal.invariant-loop-length
invariant-loop-length l = pieces l.fn.lengths l.fn.bytes ≡ map (λ piece. piece.now) l.contents.items ++ pieces l.lengths l.bytes

abbrev pub decreases-loop-length : goal.decreases-loop-length
decreases-loop-length l = length l.lengths
