use Rattle.std.proofs.Common.{map, take, All}
use Rattle.ct_verify.specs.Laws.{AreHashes}
use Rattle.ct_step.proofs.Widths.{hashes_in}
use Rattle.ct_step.proofs.believed.all_are_hashes.Given as goal

abbrev pub invariant-loop-tile : goal.invariant-loop-tile
invariant-loop-tile l = All AreHashes (map hashes_in (take l.tile-index l.tiles))
