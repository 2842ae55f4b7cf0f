-- The strings that are hashed when a root is computed from partial tiles. H is any function from byte lists to byte lists. A carried hash
-- is the root of the level below.
use Rattle.std.specs.Prelude.{◌≡◌, ℕ, ◌<◌, List, [], ◌∷◌, ◌++◌, length, take, drop}
use Rattle.ct_tree.specs.Tree.{split, mth}
use Rattle.ct_tiles.specs.Tiles.{lone_root}

-- the strings that are hashed when the root of the hashes D is computed (RFC 6962, section 2.1): 01 || left || right of each node
pub data IsHashedAbove (H : List ℕ → List ℕ) : List (List ℕ) → List ℕ → Type 0 where
  node : (D : List (List ℕ)) (k : ℕ) → 1 < length D → k ≡ split (length D) → IsHashedAbove H D (1 ∷ mth H (take k D) ++ mth H (drop k D))
  left : (D : List (List ℕ)) (k : ℕ) (s : List ℕ) → 1 < length D → k ≡ split (length D) → IsHashedAbove H (take k D) s → IsHashedAbove H D s
  right : (D : List (List ℕ)) (k : ℕ) (s : List ℕ) → 1 < length D → k ≡ split (length D) → IsHashedAbove H (drop k D) s → IsHashedAbove H D s

-- the strings that are hashed when the root is computed from partial tiles, the lowest level first: those above each tile with the hash
-- that is carried to it, and those above the hash that the last tile carries on
pub data IsHashedOverTiles (H : List ℕ → List ℕ) : List (List (List ℕ)) → List (List ℕ) → List ℕ → Type 0 where
  top : (carried : List (List ℕ)) (s : List ℕ) → IsHashedAbove H carried s → IsHashedOverTiles H [] carried s
  here : (tile : List (List ℕ)) (tiles : List (List (List ℕ))) (carried : List (List ℕ)) (s : List ℕ)
      → IsHashedAbove H (tile ++ carried) s → IsHashedOverTiles H (tile ∷ tiles) carried s
  higher : (tile : List (List ℕ)) (tiles : List (List (List ℕ))) (carried : List (List ℕ)) (s : List ℕ)
      → IsHashedOverTiles H tiles (lone_root H (tile ++ carried)) s → IsHashedOverTiles H (tile ∷ tiles) carried s

-- the strings that are hashed when the root is computed from the partial tiles of all levels
abbrev pub IsHashedInEdge : (List ℕ → List ℕ) → List (List (List ℕ)) → List ℕ → Type 0
IsHashedInEdge H tiles s = IsHashedOverTiles H tiles [] s
