-- The tiles of a log (C2SP tlog-tiles, "Merkle Tree"). D is its list of leaf hashes, as in ct_tree's Tree. H is the hash function. w is the
-- number of hashes of a full tile, 256 in every log. E is the list of the hashes of one level.
use Rattle.std.specs.Prelude.{ℕ, zero, suc, ◌*◌, ◌/◌, List, [], ◌∷◌, ◌++◌, length, take, drop}
use Rattle.ct_tree.specs.Tree.{mth}

-- MTH of the first w hashes, of the next w, and so on: `count` roots
unfoldable pub chunk_roots : (List ℕ → List ℕ) → ℕ → ℕ → List (List ℕ) → List (List ℕ)
chunk_roots H w zero E = []
chunk_roots H w (suc count) E = mth H (take w E) ∷ chunk_roots H w count (drop w E)

-- the roots of the full tiles of a level, which are the hashes of the next level
abbrev pub up : (List ℕ → List ℕ) → ℕ → List (List ℕ) → List (List ℕ)
up H w E = chunk_roots H w (length E / w) E

-- the hashes after the full tiles of a level: its partial tile
abbrev pub behind : ℕ → List (List ℕ) → List (List ℕ)
behind w E = drop (w * (length E / w)) E

-- the hashes of a level: level 0 has the hashes of the leaves, and each hash of another level is the root of a full tile of the level below
unfoldable pub hashes : (List ℕ → List ℕ) → ℕ → ℕ → List (List ℕ) → List (List ℕ)
hashes H w zero D = D
hashes H w (suc level) D = up H w (hashes H w level D)

-- the first `width` hashes of the tile at an index of a level
abbrev pub tile : (List ℕ → List ℕ) → ℕ → ℕ → ℕ → ℕ → List (List ℕ) → List (List ℕ)
tile H w level index width D = take width (drop (w * index) (hashes H w level D))

-- the tiles of a level after leaves B follow D: the index of the first tile that may change, and the level's hashes from that tile on
abbrev pub row : (List ℕ → List ℕ) → ℕ → ℕ → List (List ℕ) → List (List ℕ) → ℕ × List (List ℕ)
row H w level D B =
    let first = length (hashes H w level D) / w in
    (first, drop (w * first) (hashes H w level (D ++ B)))

-- the rows of the first `levels` levels, from level 0 on
unfoldable pub rows : (List ℕ → List ℕ) → ℕ → ℕ → List (List ℕ) → List (List ℕ) → List (ℕ × List (List ℕ))
rows H w zero D B = []
rows H w (suc levels) D B = rows H w levels D B ++ row H w levels D B ∷ []

-- the right edge: the partial tiles of the first `levels` levels, from level 0 on
unfoldable pub edge : (List ℕ → List ℕ) → ℕ → ℕ → List (List ℕ) → List (List (List ℕ))
edge H w zero D = []
edge H w (suc levels) D = edge H w levels D ++ behind w (hashes H w levels D) ∷ []

-- the root of some hashes, or nothing if there are no hashes
abbrev pub lone_root : (List ℕ → List ℕ) → List (List ℕ) → List (List ℕ)
lone_root H [] = []
lone_root H (hash ∷ rest) = mth H (hash ∷ rest) ∷ []
