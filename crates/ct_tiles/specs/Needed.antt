-- The tiles from which a root, an audit path or a consistency proof is computed.
use Rattle.std.specs.Prelude.{◌≡◌, ℕ, zero, suc, ◌+◌, ◌-◌, ◌*◌, ◌/◌, ◌%◌, ◌^◌, ◌<◌, nat_lt, nat_eq, if◌then◌else◌, List, [], ◌∷◌, ◌++◌, take, drop}
use Rattle.ct_tree.specs.Tree.{mth}
use Rattle.ct_tiles.specs.declared.needed.NeededTile.{NeededTile}

-- the tile at an index of a level that has `size` hashes: its width is 256, or the number of hashes that are left
abbrev pub tile_at : ℕ → ℕ → ℕ → NeededTile
tile_at level index size = record {
  level = level;
  index = index;
  width = if nat_lt (size - 256 * index) 256 then size - 256 * index else 256;
}

-- The tiles of a level that has `size` hashes:
-- - the tile with the hash at index `own`, unless it is the tile of index `last` or a later one, or the first `first` hashes end with it
-- - the tile of index `last` if it has a hash before that index, and on level 0 in any case
abbrev pub level_tiles : ℕ → ℕ → ℕ → ℕ → ℕ → List NeededTile
level_tiles level first own last size =
    (if nat_lt (own / 256) (last / 256) then (if nat_eq (first / 256) (own / 256) then tile_at level (own / 256) size ∷ [] else []) else [])
    ++ (if nat_lt 0 (last % 256) then tile_at level (last / 256) size ∷ []
    else (if nat_eq level 0 then tile_at level (last / 256) size ∷ [] else []))

-- the tiles of `count` levels from one on: for each next level, each number is divided by 256
unfoldable pub tiles_from : ℕ → ℕ → ℕ → ℕ → ℕ → ℕ → List NeededTile
tiles_from zero level first own last size = []
tiles_from (suc count) level first own last size =
    level_tiles level first own last size ++ tiles_from count (level + 1) (first / 256) (own / 256) (last / 256) (size / 256)

-- the tiles from which the root of n leaves is computed, in order
abbrev pub root_tiles : ℕ → List NeededTile
root_tiles n = tiles_from 8 0 (n - 1) (n - 1) (n - 1) n

-- the tiles from which PATH(m, D[n]) is computed, in order
abbrev pub path_tiles : ℕ → ℕ → List NeededTile
path_tiles m n = tiles_from 8 0 m m (n - 1) n

-- the tiles from which PROOF(m, D[n]) is computed, in order
abbrev pub proof_tiles : ℕ → ℕ → List NeededTile
proof_tiles m n = tiles_from 8 0 m (m - 1) (n - 1) n

-- a tile is given as it is in the tree of the leaves with the hashes D: each of its hashes is MTH of 256^level leaves
abbrev pub GivesTile : (List ℕ → List ℕ) → (ℕ → ℕ → List ℕ) → List (List ℕ) → NeededTile → Type 0
GivesTile H given D tile = (k : ℕ) → k < tile.width
    → given tile.level (256 * tile.index + k) ≡ mth H (take (256 ^ tile.level) (drop (256 ^ tile.level * (256 * tile.index + k)) D))
