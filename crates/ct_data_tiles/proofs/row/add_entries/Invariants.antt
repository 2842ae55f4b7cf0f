use Rattle.std.proofs.Common.{◌/◌, ◌<◌, ◌++◌, ℕ, List, length, map, take}
use Rattle.ct_data_tiles.specs.Rows.{IsPartialTile}
use Rattle.ct_data_tiles.proofs.Rows.{AreTiles, text_in}
use Rattle.ct_data_tiles.proofs.row.add_entries.Given as goal

abbrev pub invariant-loop-text : goal.invariant-loop-text
invariant-loop-text l = record {
  few : l.count < 256;
  tiles : (L : List (List ℕ)) → IsPartialTile L l.size l.partial
      → AreTiles (length L / 256) (L ++ map text_in (take l.text-index l.texts)) (map text_in l.full.items) l.open.items l.count;
}
