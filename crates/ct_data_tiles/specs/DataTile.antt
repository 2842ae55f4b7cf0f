-- Whole data tiles: leaves one after the other to the end of the bytes (C2SP static-ct-api, "Log Entries").
use Rattle.std.specs.Prelude.{◌≡◌, ◌<◌, ◌++◌, ℕ, List, map, length, Result, Vec, IfOk, IsOkUnless}
use Rattle.std.specs.List.{AllByRecursion}
use Rattle.ct_codec.specs.Parts.{joined}
use Rattle.ct_data_tiles.specs.TileLeaf.{Tiled, IsTileLeaf, tile_leaf_text}
use Rattle.ct_data_tiles.specs.Lent.{tiled}
use Rattle.ct_data_tiles.specs.Faults.{TileLeafFaulty}
use Rattle.ct_data_tiles.specs.declared.leaf.TileLeaf.{TileLeaf}
use Rattle.ct_data_tiles.specs.declared.fault.DataTileFault.{DataTileFault}
use Rattle.ct_data_tiles.specs.declared.fault.DataTileFault.TheVariants.{AtLeaf, Memory}

-- the texts of the leaves L, one after the other
abbrev pub tile_leaves_text : List Tiled → List ℕ
tile_leaves_text L = joined (map tile_leaf_text L)

-- b is the bytes of the data tile with the leaves L: each leaf is in range, and their texts follow one another to the end of b
pub record IsDataTile (L : List Tiled) (b : List ℕ) : Type 0 where
  pub leaves : AllByRecursion IsTileLeaf L
  pub text : b ≡ tile_leaves_text L

-- the leaves, in order, independent of the bytes from which they borrow
abbrev pub tiled_all : List TileLeaf → List Tiled
tiled_all leaves = map tiled leaves

-- The first fault of the bytes of a data tile. `AtLeaf`: the bytes begin with as many leaves as the index says, all in range, more bytes
-- follow them, and these have this fault as a leaf. `Memory`: the bytes are a data tile.
abbrev pub DataTileFaulty : DataTileFault → List ℕ → Type 0
DataTileFaulty (AtLeaf index f) b =
    (L : List Tiled) × (s : List ℕ) × AllByRecursion IsTileLeaf L × (length L ≡ index) × (0 < length s) × (b ≡ tile_leaves_text L ++ s) × TileLeafFaulty f s
DataTileFaulty Memory b = (L : List Tiled) × IsDataTile L b

-- the result, in any allocator, is these leaves, unless memory was refused
abbrev pub GivesTileLeaves : {A : Type 0} → List Tiled → Result (Vec TileLeaf A) DataTileFault → Type 0
GivesTileLeaves L r = IfOk r (λ v. tiled_all v.items ≡ L) × IsOkUnless r Memory
