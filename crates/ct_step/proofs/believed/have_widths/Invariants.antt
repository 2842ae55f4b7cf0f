use Rattle.std.proofs.Common.{◌≡◌, ◌/◌, ◌^◌, length, map, take}
use Rattle.ct_step.specs.Believed.{tile_widths}
use Rattle.ct_step.proofs.Widths.{hashes_in}
use Rattle.ct_step.proofs.believed.have_widths.Given as goal

abbrev pub invariant-loop-tile : goal.invariant-loop-tile
invariant-loop-tile l = record {
  rest : l.rest ≡ l.size / 256 ^ l.tile-index;
  widths : map length (map hashes_in (take l.tile-index l.tiles)) ≡ tile_widths l.tile-index l.size;
}
