-- The leaves of data tiles (TileLeaf, C2SP static-ct-api, "Log Entries").
use Rattle.std.specs.Prelude.{◌≡◌, ◌<◌, ◌^◌, ◌%◌, ◌++◌, [], ℕ, List, length}
use Rattle.ct_codec.specs.Bytes.{vec}
use Rattle.ct_codec.specs.Leaf.{SignedEntry, certificate, precertificate, IsEntry, IsCertificate, timestamped_text, leaf_text}

-- The content of a leaf in a data tile:
-- - the timestamp in milliseconds, the entry and the extensions of its TimestampedEntry
-- - the precertificate, which has no bytes if the entry is a certificate
-- - the SHA-256 fingerprints of the chain's issuers, one after the other in order
pub record Tiled : Type 0 where
  pub timestamp : ℕ
  pub entry : SignedEntry
  pub extensions : List ℕ
  pub precertificate : List ℕ
  pub fingerprints : List ℕ

-- p can follow the entry as the precertificate: no bytes after a certificate, and 1 to 2^24 - 1 bytes after a precertificate's entry
abbrev pub IsBesideEntry : SignedEntry → List ℕ → Type 0
IsBesideEntry (certificate c) p = p ≡ []
IsBesideEntry (precertificate k c) p = IsCertificate p

-- the precertificate p as a vector, or no bytes if the entry is a certificate
abbrev pub beside_text : SignedEntry → List ℕ → List ℕ
beside_text (certificate c) p = []
beside_text (precertificate k c) p = vec 3 p

-- the bytes are SHA-256 fingerprints of 32 bytes each, one after the other
abbrev pub AreFingerprints : List ℕ → Type 0
AreFingerprints fs = length fs % 32 ≡ 0

-- the bytes of a tile leaf: the timestamped entry, the precertificate as a vector if there is one, and the fingerprints as a vector
abbrev pub tile_leaf_text : Tiled → List ℕ
tile_leaf_text l = timestamped_text l.timestamp l.entry l.extensions ++ (beside_text l.entry l.precertificate ++ vec 2 l.fingerprints)

-- the lengths and the timestamp of a tile leaf are in range
pub record IsTileLeaf (l : Tiled) : Type 0 where
  pub timestamp : l.timestamp < 2 ^ 64
  pub entry : IsEntry l.entry
  pub extensions : length l.extensions < 2 ^ 16
  pub precertificate : IsBesideEntry l.entry l.precertificate
  pub fingerprints : AreFingerprints l.fingerprints
  pub fits : length l.fingerprints < 2 ^ 16

-- b begins with the text of the tile leaf l, and r follows it
pub record BeginsWith (l : Tiled) (b r : List ℕ) : Type 0 where
  pub leaf : IsTileLeaf l
  pub text : b ≡ tile_leaf_text l ++ r

-- the bytes of the tree's leaf (MerkleTreeLeaf, RFC 6962, 3.4) that a tile leaf holds
abbrev pub leaf_of : Tiled → List ℕ
leaf_of l = leaf_text l.timestamp l.entry l.extensions
