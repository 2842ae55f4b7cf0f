-- The bytes of the entries of a data tile, in the presentation language of RFC 5246 (section 4).
use Rattle.std.specs.Prelude.{◌≡◌, ◌+◌, ◌++◌, ◌∷◌, [], ℕ, List, length}
use Rattle.ct_codec.specs.Bytes.{num, vec}
use Rattle.ct_codec.specs.Leaf.{SignedEntry, certificate, precertificate, timestamped_text}
use Rattle.ct_data_tiles.specs.TileLeaf.{Tiled, beside_text, tile_leaf_text, leaf_of}
use Rattle.ct_data_tiles.specs.DataTile.{IsDataTile, tile_leaves_text}

-- the certificate that was submitted for an entry, or the precertificate that follows it
abbrev pub submitted_of : SignedEntry → List ℕ → List ℕ
submitted_of (certificate c) p = c
submitted_of (precertificate k c) p = p

-- The byte offset in a tile leaf of the submitted certificate or precertificate, if its timestamped entry has n bytes. Before a certificate
-- there are the timestamp in 8 bytes, the entry type in 2 and the certificate's length in 3. A precertificate follows the timestamped entry
-- and its own length in 3 bytes.
abbrev pub submitted_place : SignedEntry → ℕ → ℕ
submitted_place (certificate c) n = 13
submitted_place (precertificate k c) n = n + 3

-- the timestamped entry of a tile leaf
abbrev pub timestamped_of : Tiled → List ℕ
timestamped_of l = timestamped_text l.timestamp l.entry l.extensions

-- the byte offset of the fingerprints in a tile leaf: they follow the timestamped entry, the precertificate if there is one, and the
-- fingerprints' length in 2 bytes
abbrev pub fingerprints_place : Tiled → ℕ
fingerprints_place l = length (timestamped_of l) + length (beside_text l.entry l.precertificate) + 2

-- An entry whose tile leaf begins after `start` bytes of the tile: the tree's leaf with its length in 8 bytes, the offset in the tile and
-- the length of the submitted certificate or precertificate, and those of the fingerprints, each in 8 bytes.
abbrev pub tile_entry_bytes : ℕ → Tiled → List ℕ
tile_entry_bytes start l =
    vec 8 (leaf_of l)
    ++ (num 8 (start + submitted_place l.entry (length (timestamped_of l))) ++ (num 8 (length (submitted_of l.entry l.precertificate))
    ++ (num 8 (start + fingerprints_place l) ++ num 8 (length l.fingerprints))))

-- the entries of tile leaves one after the other, the first of which begins after `start` bytes of the tile
unfoldable pub tile_entries_bytes : ℕ → List Tiled → List ℕ
tile_entries_bytes start [] = []
tile_entries_bytes start (l ∷ L) = tile_entry_bytes start l ++ tile_entries_bytes (start + length (tile_leaf_text l)) L

-- the text is the bytes of the entries of this data tile
abbrev pub IsTileEntriesText : List ℕ → List ℕ → Type 0
IsTileEntriesText tile text = (L : List Tiled) × IsDataTile L tile × (text ≡ tile_entries_bytes 0 L)

-- the tile has these bytes at this offset
abbrev pub HasBytesAt : List ℕ → ℕ → List ℕ → Type 0
HasBytesAt tile place x = (before after : List ℕ) × (tile ≡ before ++ (x ++ after)) × (length before ≡ place)

-- The offsets that are written for an entry are right, whichever entries L are before it and M after it.
abbrev pub PlacesAreRight : Type 0
PlacesAreRight =
    (L : List Tiled) (l : Tiled) (M : List Tiled) (tile : List ℕ) → IsDataTile (L ++ l ∷ M) tile
    → HasBytesAt tile (length (tile_leaves_text L) + submitted_place l.entry (length (timestamped_of l))) (submitted_of l.entry l.precertificate)
    × HasBytesAt tile (length (tile_leaves_text L) + fingerprints_place l) l.fingerprints
