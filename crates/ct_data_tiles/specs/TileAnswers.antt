-- The relation of a data tile to the entries of a log that a client has read so far.
use Rattle.std.specs.Prelude.{◌≡◌, ◌<◌, ◌≤◌, ◌+◌, ℕ, List, length}
use Rattle.ct_data_tiles.specs.TileLeaf.{Tiled}
use Rattle.ct_data_tiles.specs.DataTile.{IsDataTile, DataTileFaulty}
use Rattle.ct_data_tiles.specs.declared.fault.DataTileFault.{DataTileFault}
use Rattle.ct_data_tiles.specs.declared.fault.DataTileFault.TheVariants as tile_fault
use Rattle.ct_data_tiles.specs.declared.tile.Tile.{Tile}
use Rattle.ct_data_tiles.specs.Entries.{IsDataTileName, first_entry, HasEntry, entries_from, IsFirstWrong}
use Rattle.ct_data_tiles.specs.declared.answer.DataTileAnswer.{DataTileAnswer}
use Rattle.ct_data_tiles.specs.declared.answer.DataTileAnswer.TheVariants.{Gap, Known, Damaged, Entries}
use Rattle.ct_data_tiles.specs.declared.answer.Damage.{Damage}
use Rattle.ct_data_tiles.specs.declared.answer.Damage.TheVariants.{NoDataTile, AtLeaf, OtherCount}

-- the damage that corresponds to the first fault of a tile's bytes: the same fault at the same index in the tile. Out of memory is no
-- damage.
abbrev pub IsDamageOf : DataTileFault → Damage → Type 0
IsDamageOf (tile_fault.AtLeaf place f) damage = damage ≡ AtLeaf place f
IsDamageOf tile_fault.Memory damage = ⊥

-- The damage. `NoDataTile`: the name is not that of a data tile. `AtLeaf`: the tile has the entry at `next`, and its bytes have this first
-- fault at the leaf with that index in the tile. `OtherCount`: it has that entry, and its bytes are this number of leaves, which differs
-- from the one in the name.
abbrev pub IsDamaged : ℕ → List ℕ → List ℕ → Damage → Type 0
IsDamaged next name b NoDataTile = (tile : Tile) → IsDataTileName name tile → ⊥
IsDamaged next name b (AtLeaf place f) = (tile : Tile) × IsDataTileName name tile × HasEntry tile next × DataTileFaulty (tile_fault.AtLeaf place f) b
IsDamaged next name b (OtherCount count) =
    (tile : Tile) × (L : List Tiled) × IsDataTileName name tile × HasEntry tile next × IsDataTile L b × (length L ≡ count) × (¬ (count ≡ tile.width))

-- The relation of the data tile of this name and these bytes to a client that has read the entries before the index `next`:
-- - `Gap`: it begins after that index.
-- - `Known`: it ends before that index.
-- - `Damaged`: it is not the data tile of that name.
-- - `Entries`: it is that data tile and has the entry at `next`. The value is the first index, from that entry on, whose entry does not have
--   exactly this index in its extensions, or none.
--
-- Only the name is needed for the first two.
abbrev pub IsTileAnswer : ℕ → List ℕ → List ℕ → DataTileAnswer → Type 0
IsTileAnswer next name b Gap = (tile : Tile) × IsDataTileName name tile × (next < first_entry tile)
IsTileAnswer next name b Known = (tile : Tile) × IsDataTileName name tile × (first_entry tile + tile.width ≤ next)
IsTileAnswer next name b (Damaged damage) = IsDamaged next name b damage
IsTileAnswer next name b (Entries wrong) =
    (tile : Tile) × (L : List Tiled) × IsDataTileName name tile × HasEntry tile next × IsDataTile L b × (length L ≡ tile.width)
    × IsFirstWrong next (entries_from next tile L) wrong
