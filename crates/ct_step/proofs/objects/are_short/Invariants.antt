use Rattle.std.proofs.Common.{map, take, All}
use Rattle.ct_data_tiles.proofs.Rows.{text_in}
use Rattle.ct_step.specs.Objects.{FitsInBundle}
use Rattle.ct_step.proofs.objects.are_short.Given as goal

abbrev pub invariant-loop-tile : goal.invariant-loop-tile
invariant-loop-tile l = All FitsInBundle (map text_in (take l.tile-index l.tiles))
