-- A tile leaf that borrows its parts from bytes, in the form that contracts use.
use Rattle.ct_codec.specs.Decoded.{entry_lent}
use Rattle.ct_data_tiles.specs.TileLeaf.{Tiled}
use Rattle.ct_data_tiles.specs.declared.leaf.TileLeaf.{TileLeaf}

-- the content of a tile leaf that borrows its parts
abbrev pub tiled : TileLeaf → Tiled
tiled l = record {
  timestamp = l.timestamp;
  entry = entry_lent l.entry;
  extensions = l.extensions.now;
  precertificate = l.precertificate.now;
  fingerprints = l.fingerprints.now;
}
