-- The entries of a batch, and the tile leaves that represent them.
use Rattle.std.specs.Prelude.{◌≡◌, ◌<◌, ◌^◌, ℕ, suc, List, [], ◌∷◌, length, map, All}
use Rattle.ct_codec.specs.Leaf.{index_extension}
use Rattle.ct_codec.specs.Submitted.{Submitted, x509, precert, entry_of, first_of}
use Rattle.ct_codec.specs.Parts.{joined}
use Rattle.ct_tree.specs.Tree.{hash_leaf}
use Rattle.ct_data_tiles.specs.TileLeaf.{Tiled, tile_leaf_text, leaf_of}

-- the precertificate that was submitted, or no bytes
abbrev pub precertificate_of : Submitted → List ℕ
precertificate_of (x509 cs) = []
precertificate_of (precert k t cs) = first_of cs

-- the tile leaf of a submission and its chain's fingerprints, which is added at the timestamp t as the leaf at index i: its extensions have
-- exactly the index (C2SP static-ct-api)
abbrev pub tiled_at : ℕ → Submitted × List (List ℕ) → ℕ → Tiled
tiled_at t e i = record {
  timestamp = t;
  entry = entry_of e.0;
  extensions = index_extension i;
  precertificate = precertificate_of e.0;
  fingerprints = joined e.1;
}

-- the tile leaves of these, from an index on, all with the timestamp t
unfoldable pub tiled_leaves : ℕ → ℕ → List (Submitted × List (List ℕ)) → List Tiled
tiled_leaves t first [] = []
tiled_leaves t first (e ∷ entries) = tiled_at t e first ∷ tiled_leaves t (suc first) entries

-- the texts of tile leaves
abbrev pub texts_of : List Tiled → List (List ℕ)
texts_of E = map tile_leaf_text E

-- the tree's leaves that tile leaves hold
abbrev pub tree_leaves : List Tiled → List (List ℕ)
tree_leaves E = map leaf_of E

-- the hashes of these leaves
abbrev pub hashes_of : (List ℕ → List ℕ) → List Tiled → List (List ℕ)
hashes_of H E = map (hash_leaf H) (tree_leaves E)

-- a chain of at most 2,047 fingerprints: they have 32 bytes each, and the number of all bytes has two bytes
abbrev pub AreShort : List (List ℕ) → Type 0
AreShort chain = length chain < 2 ^ 11

-- `count` submissions have these chains: one each (`all`), which are short (`short`)
pub record IsBatchOf (count : ℕ) (chains : List (List (List ℕ))) : Type 0 where
  pub all : length chains ≡ count
  pub short : All AreShort chains
