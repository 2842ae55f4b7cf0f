-- The entries of a data tile, by their indexes in the log (C2SP static-ct-api, "Log Entries").
use Rattle.std.specs.Prelude.{◌≡◌, ◌⊎◌, ◌<◌, ◌≤◌, ◌^◌, ◌+◌, ◌-◌, ◌*◌, ℕ, List, [], ◌∷◌, drop, Some, None}
use Rattle.std.specs.declared.option.Option.{Option}
use Rattle.ct_codec.specs.Leaf.{index_extension}
use Rattle.ct_data_tiles.specs.TileLeaf.{Tiled}
use Rattle.ct_data_tiles.specs.TileNames.{IsTile, name_text}
use Rattle.ct_data_tiles.specs.declared.tile.Content.TheVariants.{Entries}
use Rattle.ct_data_tiles.specs.declared.tile.Tile.{Tile}

-- the name is that of this data tile: the tile has a name (`named`), it has entries (`entries`), and this is its name (`text`)
pub record IsDataTileName (name : List ℕ) (tile : Tile) : Type 0 where
  pub named : IsTile tile
  pub entries : tile.content ≡ Entries
  pub text : name_text tile ≡ name

-- the index in the log of a data tile's first entry: each tile before it has 256
abbrev pub first_entry : Tile → ℕ
first_entry tile = 256 * tile.index

-- the entry at this index in the log is one of the tile's
abbrev pub HasEntry : Tile → ℕ → Type 0
HasEntry tile next = (first_entry tile ≤ next) × (next < first_entry tile + tile.width)

-- those leaves of a tile that are at this index in the log or after it
abbrev pub entries_from : ℕ → Tile → List Tiled → List Tiled
entries_from next tile leaves = drop (next - first_entry tile) leaves

-- the extensions of a leaf are exactly its own index in the log, and an index is below 2^40 (leaf_index)
abbrev pub NamesOwnIndex : ℕ → Tiled → Type 0
NamesOwnIndex index leaf = (index < 2 ^ 40) × (leaf.extensions ≡ index_extension index)

-- the first index, of leaves whose indexes begin at this one, whose leaf does not have exactly its own index in its extensions, or none if
-- each leaf does
abbrev pub IsFirstWrong : ℕ → List Tiled → Option ℕ → Type 0
IsFirstWrong index [] wrong = wrong ≡ None
IsFirstWrong index (leaf ∷ leaves) wrong =
    (NamesOwnIndex index leaf × IsFirstWrong (index + 1) leaves wrong) ⊎ ((¬ NamesOwnIndex index leaf) × (wrong ≡ Some index))
