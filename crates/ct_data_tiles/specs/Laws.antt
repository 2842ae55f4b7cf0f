-- Laws of the format.
use Rattle.std.specs.Prelude.{◌≡◌, ◌++◌, List, ℕ}
use Rattle.ct_codec.specs.Signed.{timestamp_text}
use Rattle.ct_data_tiles.specs.TileLeaf.{Tiled, IsTileLeaf, tile_leaf_text, leaf_of}
use Rattle.ct_data_tiles.specs.Faults.{TileLeafFaulty}
use Rattle.ct_data_tiles.specs.DataTile.{IsDataTile, DataTileFaulty}
use Rattle.ct_data_tiles.specs.declared.fault.TileFault.{TileFault}
use Rattle.ct_data_tiles.specs.declared.fault.DataTileFault.{DataTileFault}
use Rattle.ct_data_tiles.specs.declared.fault.DataTileFault.TheVariants.{Memory}

-- each part of the one tile leaf is equal to that of the other
pub record AreOne (l m : Tiled) : Type 0 where
  pub timestamp : l.timestamp ≡ m.timestamp
  pub entry : l.entry ≡ m.entry
  pub extensions : l.extensions ≡ m.extensions
  pub precertificate : l.precertificate ≡ m.precertificate
  pub fingerprints : l.fingerprints ≡ m.fingerprints

-- Each tile leaf has one text, and no text is the beginning of another: if the same bytes begin with two tile leaves, these are equal, and
-- the same bytes follow them.
abbrev pub TileLeavesStandApart : Type 0
TileLeavesStandApart =
    (l m : Tiled) (r s : List ℕ) → IsTileLeaf l → IsTileLeaf m → tile_leaf_text l ++ r ≡ tile_leaf_text m ++ s → AreOne l m × (r ≡ s)

-- The bytes that are signed for a certificate timestamp with the extensions of a tile leaf are the bytes of the tree's leaf that it holds.
abbrev pub SignedTimestampsAreHeld : Type 0
SignedTimestampsAreHeld = (l : Tiled) → timestamp_text l.timestamp l.entry l.extensions ≡ leaf_of l

-- No bytes have two faults as a tile leaf.
abbrev pub TileLeavesHaveOneFault : Type 0
TileLeavesHaveOneFault = (f g : TileFault) (b : List ℕ) → TileLeafFaulty f b → TileLeafFaulty g b → f ≡ g

-- Bytes that begin with a tile leaf have no fault as one.
abbrev pub TileLeafTextsHaveNoFault : Type 0
TileLeafTextsHaveNoFault = (l : Tiled) (r : List ℕ) (f : TileFault) → IsTileLeaf l → ¬ (TileLeafFaulty f (tile_leaf_text l ++ r))

-- No bytes are two data tiles.
abbrev pub DataTilesStandApart : Type 0
DataTilesStandApart = (L M : List Tiled) (b : List ℕ) → IsDataTile L b → IsDataTile M b → L ≡ M

-- No bytes have two faults as a data tile.
abbrev pub DataTilesHaveOneFault : Type 0
DataTilesHaveOneFault = (f g : DataTileFault) (b : List ℕ) → DataTileFaulty f b → DataTileFaulty g b → f ≡ g

-- The bytes of a data tile have no fault, so only a lack of memory can prevent reading them.
abbrev pub DataTilesHaveNoFault : Type 0
DataTilesHaveNoFault = (L : List Tiled) (b : List ℕ) (f : DataTileFault) → IsDataTile L b → DataTileFaulty f b → f ≡ Memory
