-- The codes and the bytes of a call over a data tile (C2SP static-ct-api, "Log Entries").
use Rattle.std.specs.Prelude.{◌≡◌, ◌⊎◌, ℕ, List, Some, None}
use Rattle.ct_data_tiles.specs.DataTile.{DataTileFaulty}
use Rattle.ct_data_tiles.specs.TileAnswers.{IsTileAnswer}
use Rattle.ct_data_tiles.specs.declared.answer.Damage.{Damage}
use Rattle.ct_data_tiles.specs.declared.answer.Damage.TheVariants as damage
use Rattle.ct_data_tiles.specs.declared.answer.DataTileAnswer.{DataTileAnswer}
use Rattle.ct_data_tiles.specs.declared.answer.DataTileAnswer.TheVariants.{Gap, Known, Damaged, Entries}
use Rattle.ct_data_tiles.specs.declared.fault.DataTileFault.TheVariants.{AtLeaf}
use Rattle.ct_data_tiles.specs.declared.fault.TileFault.{TileFault}
use Rattle.ct_data_tiles.specs.declared.fault.TileFault.TheVariants.{Field, PartialFingerprint}
use Rattle.ct_data_tiles.specs.TileEntries.{IsTileEntriesText}
use Rattle.libwagtenib.specs.Codes.{leaf_code}
use Rattle.libwagtenib.specs.Output.{WritesOutput}

-- the number of the fault of an entry in a data tile; include/wagtenib.h has the same
abbrev pub tile_code : TileFault → ℕ
tile_code (Field f) = leaf_code f
tile_code PartialFingerprint = 139

-- A call over a data tile. 0 or 9: the bytes of its entries are written, as WritesOutput says. 17 to 22 or 139: an entry is none, this is its first fault, and
-- only its index in the tile is written, which is not written otherwise. 8: an allocation was refused.
abbrev pub WritesTileEntries : List ℕ → ℕ → List ℕ → List ℕ → ℕ → ℕ → ℕ → ℕ → Type 0
WritesTileEntries tile code before after count_before count index_before index =
    ((text : List ℕ) × IsTileEntriesText tile text × WritesOutput text code before after count × (index ≡ index_before))
    ⊎ (((f : TileFault) × DataTileFaulty (AtLeaf index f) tile × (code ≡ tile_code f) × (after ≡ before) × (count ≡ count_before))
    ⊎ ((code ≡ 8) × (after ≡ before) × (count ≡ count_before) × (index ≡ index_before)))

-- The damage of a tile is told by its number. The index becomes that of the entry in the tile, or the number of the entries.
abbrev pub IsDamageTold : Damage → ℕ → ℕ → ℕ → Type 0
IsDamageTold damage.NoDataTile code before index = (code ≡ 146) × (index ≡ before)
IsDamageTold (damage.AtLeaf place f) code before index = (code ≡ tile_code f) × (index ≡ place)
IsDamageTold (damage.OtherCount count) code before index = (code ≡ 149) × (index ≡ count)

-- The answer about a tile is told by its number. The index becomes the first wrong one in the log.
abbrev pub IsAnswerTold : DataTileAnswer → ℕ → ℕ → ℕ → Type 0
IsAnswerTold Gap code before index = (code ≡ 147) × (index ≡ before)
IsAnswerTold Known code before index = (code ≡ 148) × (index ≡ before)
IsAnswerTold (Damaged d) code before index = IsDamageTold d code before index
IsAnswerTold (Entries (Some wrong)) code before index = (code ≡ 150) × (index ≡ wrong)
IsAnswerTold (Entries None) code before index = (code ≡ 0) × (index ≡ before)

-- A call that compares a data tile with its name. The right answer is told (`IsTileAnswer`); or 8, if an allocation was refused, and nothing is written.
abbrev pub ComparesTile : List ℕ → ℕ → List ℕ → ℕ → ℕ → ℕ → Type 0
ComparesTile name next tile code before index =
    ((answer : DataTileAnswer) × IsTileAnswer next name tile answer × IsAnswerTold answer code before index) ⊎ ((code ≡ 8) × (index ≡ before))
