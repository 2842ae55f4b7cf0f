use Rattle.std.proofs.Common.{◌≡◌, [], map, take}
use Rattle.ct_step.specs.Believed.{carried_over}
use Rattle.ct_step.proofs.Widths.{hashes_in}
use Rattle.ct_step.proofs.believed.root_of_tiles.Given as goal

abbrev pub invariant-loop-tile : goal.invariant-loop-tile
invariant-loop-tile g l = l.carried.items ≡ carried_over g.H.NodeHash.digest (map hashes_in (take l.tile-index l.tiles)) []
