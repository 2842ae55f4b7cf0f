use Rattle.std.proofs.Common.{map, take}
use Rattle.ct_data_tiles.proofs.Rows.{text_in}
use Rattle.ct_step.proofs.Widths.{hashes_in}
use Rattle.ct_step.specs.Steps.{AreReadFrom}
use Rattle.ct_step.proofs.step.tiles_of.Given as goal

abbrev pub invariant-loop-bytes : goal.invariant-loop-bytes
invariant-loop-bytes l = AreReadFrom (map text_in (take l.bytes-index l.edge)) (map hashes_in l.tiles.items)
