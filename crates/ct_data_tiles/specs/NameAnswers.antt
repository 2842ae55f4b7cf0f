-- The meaning of the results of the functions that write and read names.
use Rattle.std.specs.Prelude.{◌≡◌, ℕ, ⊤, List}
use Rattle.ct_data_tiles.specs.TileNames.{IsTile, name_text}
use Rattle.ct_data_tiles.specs.declared.tile.NameFault.{NameFault}
use Rattle.ct_data_tiles.specs.declared.tile.NameFault.TheVariants.{NoSuchTile, Memory}
use Rattle.ct_data_tiles.specs.declared.tile.Tile.{Tile}

-- The reason why a tile's name is not written. `NoSuchTile`: no tile has this level or width. `Memory`: nothing is known.
abbrev pub NotWritten : Tile → NameFault → Type 0
NotWritten tile NoSuchTile = IsTile tile → ⊥
NotWritten tile Memory = ⊤

-- The reason why no tile is read. `NoSuchTile`: the text is the name of no tile. `Memory`: nothing is known.
abbrev pub NotRead : List ℕ → NameFault → Type 0
NotRead text NoSuchTile = (tile : Tile) → IsTile tile → name_text tile ≡ text → ⊥
NotRead text Memory = ⊤

-- two tiles that have the same name are the same
abbrev pub NamesDiffer : Type 0
NamesDiffer = (tile other : Tile) → IsTile tile → IsTile other → name_text tile ≡ name_text other → tile ≡ other
